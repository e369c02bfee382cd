-- What answers, and so sessions, leave of a good tree.
use Rattle.std.proofs.Common.{Bool, true, false, List, Option, Some, None, if◌then◌else◌}
use Rattle.session_model.specs.ldap_msg.declared.kinds.ModifyRequest.{ModifyRequest}
use Rattle.session_model.specs.ldap_msg.declared.kinds.RenameRequest.{RenameRequest}
use Rattle.session_model.specs.ldap_msg.declared.kinds.AddRequest.{AddRequest}
use Rattle.session_model.specs.ldap_msg.declared.kinds.DeleteRequest.{DeleteRequest}
use Rattle.session_model.specs.ldap_msg.declared.kinds.Request.{Request}
use Rattle.session_model.specs.ldap_msg.declared.kinds.Request.TheVariants as request
use Rattle.session_model.specs.ldap_msg.declared.kinds.Update.TheVariants as update
use Rattle.session_model.specs.ldap_msg.declared.kinds.Control.{Control}
use Rattle.session_model.specs.ldap_msg.declared.kinds.Message.{Message}
use Rattle.session_model.specs.ldap_msg.reading.Messages.{message_of}
use Rattle.op_read.specs.aci_item.Rules.{IsGoodTree}
use Rattle.change_laws.specs.op_add_delete.adding.Updates.{left_by, added, deleted}
use Rattle.change_laws.specs.op_modify.Modifying.{modified}
use Rattle.change_laws.specs.op_modify.Renames.{renamed}
use Rattle.session_model.specs.Rules.{AnswersKeep}
use Rattle.session_hub.specs.Parties.{DirectoryEntries, Requester}
use Rattle.session_hub.specs.Terms.{Terms}
use Rattle.session_hub.specs.Controls.{is_refused}
use Rattle.session_hub.specs.Limiting.{limited_read}
use Rattle.session_hub.specs.Answering.{rules, Operated, asking, operated, refused, answer_read}

-- of two operations one is done
one_good : (first : Bool) (a b : Operated) → IsGoodTree a.entries → IsGoodTree b.entries → IsGoodTree (if first then a else b).entries
one_good true a b good other = good
one_good false a b good other = other

module _
    (deletes : (entries : DirectoryEntries) (who : Requester) (asked : DeleteRequest) → IsGoodTree entries → IsGoodTree (left_by entries (deleted entries who asked)))
    (modifies : (entries : DirectoryEntries) (who : Requester) (asked : ModifyRequest) → IsGoodTree entries → IsGoodTree (left_by entries (modified entries who asked)))
    (renames : (entries : DirectoryEntries) (who : Requester) (asked : RenameRequest) → IsGoodTree entries → IsGoodTree (left_by entries (renamed entries who asked)))
    (adds : (entries : DirectoryEntries) (who : Requester) (asked : AddRequest) → IsGoodTree entries → IsGoodTree (left_by entries (added entries who asked)))
  where
    operated_good : (entries : DirectoryEntries) (who : Requester) (controls : List Control) (asked : Request) → IsGoodTree entries → IsGoodTree (operated entries who controls asked).entries
    operated_good entries who controls (request.Bind bind) good = good
    operated_good entries who controls request.Unbind good = good
    operated_good entries who controls (request.Search search) good = good
    operated_good entries who controls (request.Update (update.Modify modify)) good = modifies entries who modify good
    operated_good entries who controls (request.Update (update.Add add)) good = adds entries who add good
    operated_good entries who controls (request.Update (update.Delete delete)) good = deletes entries who delete good
    operated_good entries who controls (request.Update (update.Rename rename)) good = renames entries who rename good
    operated_good entries who controls (request.Compare compare) good = good
    operated_good entries who controls (request.Abandon id) good = good
    operated_good entries who controls (request.Extended name value) good = good

    read_good : (keeps : Bool) (entries : DirectoryEntries) (who : Requester) (message : Option Message) → IsGoodTree entries → IsGoodTree (answer_read keeps entries who message).tree
    read_good keeps entries who None good = good
    read_good keeps entries who (Some message) good =
        let asks = asking who message.request in
        one_good (is_refused message.request message.controls) (refused entries asks message.request) (operated entries asks message.controls message.request)
        good (operated_good entries asks message.controls message.request good)

    pub answers_good : (terms : Terms) → AnswersKeep (rules terms) IsGoodTree
    unfolding rules
    answers_good terms entries who bytes good = read_good terms.keeps entries who (limited_read terms.limit (message_of bytes)) good
