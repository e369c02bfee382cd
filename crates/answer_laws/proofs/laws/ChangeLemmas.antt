-- What messages whose changes are granted are answered.
use Rattle.std.proofs.Common.{◌≡◌, Bool, false, List, [], ◌∷◌, Some, refl, ap, sym, ◌∙◌}
use Rattle.dir_tree.specs.Entry.{EntryInformation}
use Rattle.dir_tree.specs.tree.Trees.{put_in, taken_out}
use Rattle.acdf_filters.specs.declared.asking.Requester.{Requester}
use Rattle.ldap_msg.specs.declared.operations.ResultCode.TheVariants as code
use Rattle.ldap_msg.specs.declared.kinds.AddRequest.{AddRequest}
use Rattle.ldap_msg.specs.declared.kinds.DeleteRequest.{DeleteRequest}
use Rattle.ldap_msg.specs.declared.kinds.ModifyRequest.{ModifyRequest}
use Rattle.ldap_msg.specs.declared.kinds.RenameRequest.{RenameRequest}
use Rattle.ldap_msg.specs.declared.kinds.Request.{Request}
use Rattle.ldap_msg.specs.declared.kinds.Request.TheVariants as request
use Rattle.ldap_msg.specs.declared.kinds.Update.TheVariants as update
use Rattle.ldap_msg.specs.declared.kinds.Control.{Control}
use Rattle.ldap_msg.specs.declared.kinds.Message.{Message}
use Rattle.ldap_msg.specs.declared.operations.Ending.{Ending}
use Rattle.ldap_msg.specs.declared.kinds.Update.{Update}
use Rattle.ldap_msg.specs.declared.kinds.Reply.TheVariants as reply
use Rattle.ldap_msg.specs.declared.operations.Ending.TheVariants as ending
use Rattle.change_laws.specs.op_add_delete.adding.Updates.{Made, added, deleted}
use Rattle.change_laws.specs.Updating.{updated}
use Rattle.change_laws.specs.op_modify.Modifying.{modified}
use Rattle.change_laws.specs.op_modify.Renames.{renamed}
use Rattle.change_laws.specs.Granting.{MayDelete, MayAdd}
use Rattle.change_laws.specs.ChangeGranting.{MayModify, MayRename}
use Rattle.read_model.specs.Views.{result_of}
use Rattle.read_model.specs.SearchReplies.{replies_octets}
use Rattle.session_hub.specs.Controls.{is_refused}
use Rattle.session_hub.specs.Answering.{Operated, ending_for, asking, recorded, changing, operated, answered, is_unbind, sent_octets, kept_changes, answer_read}
use Rattle.answer_laws.specs.Asked.{AsksFor}
use Rattle.answer_laws.specs.Made.{IsMade}

-- a request that no control refuses is operated
accepted-operated : (entries : List EntryInformation) (who : Requester) (controls : List Control) (given asked : Request) → given ≡ asked
    → is_refused given controls ≡ false → answered entries who controls given ≡ operated entries (asking who asked) controls asked
accepted-operated entries who controls given asked e accepted = rw (accepted, e) refl

-- the answer to a message whose change nothing refuses
answer-made : (keeps : Bool) (entries : List EntryInformation) (who : Requester) (message : Message) (asked : Update) (response : Ending)
    (left : List EntryInformation) → AsksFor message (request.Update asked) → ending_for asked ≡ response
    → updated entries who asked ≡ Made left → IsMade keeps who message response left (answer_read keeps entries who (Some message))
answer-made keeps entries who message asked response left asks responds is =
    let same : answered entries who message.controls message.request ≡ changing entries who asked (Made left) =
    accepted-operated entries who message.controls message.request (request.Update asked) asks.asks asks.accepted ∙ ap (changing entries who asked) is in
    record {
      replies =
          ap (λ (came : Operated). sent_octets message.id came.replies came.cookie) same
          ∙ ap (λ ends. replies_octets message.id (reply.Ended ends (result_of code.Success) ∷ [])) responds;
      changes =
          ap (λ (came : Operated). kept_changes keeps came.changes) same
          ∙ ap (λ given. kept_changes keeps (recorded (Made left) given)) (sym asks.asks);
      tree = ap (λ (came : Operated). came.entries) same;
      who_stays = ap (λ (came : Operated). came.who) same;
      stays = ap is_unbind asks.asks;
    }

-- ---- each of the four, by the law that it is done

abbrev pub Adds : Type 0
Adds =
    (entries : List EntryInformation) (who : Requester) (add : AddRequest) (entry : EntryInformation) → MayAdd entries who add entry
    → added entries who add ≡ Made (put_in entry entries)

pub answer_read-added : Adds → (keeps : Bool) (entries : List EntryInformation) (who : Requester) (message : Message) (add : AddRequest) (entry : EntryInformation)
    → AsksFor message (request.Update (update.Add add)) → MayAdd entries who add entry
    → IsMade keeps who message ending.Add (put_in entry entries) (answer_read keeps entries who (Some message))
answer_read-added adds keeps entries who message add entry asks may =
    answer-made keeps entries who message (update.Add add) ending.Add _ asks refl (adds entries who add entry may)

abbrev pub Deletes : Type 0
Deletes =
    (entries : List EntryInformation) (who : Requester) (delete : DeleteRequest) (target : EntryInformation) → MayDelete entries who delete target
    → deleted entries who delete ≡ Made (taken_out target.name entries)

pub answer_read-deleted : Deletes → (keeps : Bool) (entries : List EntryInformation) (who : Requester) (message : Message) (delete : DeleteRequest)
    (target : EntryInformation) → AsksFor message (request.Update (update.Delete delete)) → MayDelete entries who delete target
    → IsMade keeps who message ending.Delete (taken_out target.name entries) (answer_read keeps entries who (Some message))
answer_read-deleted deletes keeps entries who message delete target asks may =
    answer-made keeps entries who message (update.Delete delete) ending.Delete _ asks refl
    (deletes entries who delete target may)

abbrev pub Modifies : Type 0
Modifies =
    (entries : List EntryInformation) (who : Requester) (modify : ModifyRequest) (target left : EntryInformation)
    → MayModify entries who modify target left → modified entries who modify ≡ Made (put_in left (taken_out target.name entries))

pub answer_read-modified : Modifies → (keeps : Bool) (entries : List EntryInformation) (who : Requester) (message : Message) (modify : ModifyRequest)
    (target left : EntryInformation) → AsksFor message (request.Update (update.Modify modify)) → MayModify entries who modify target left
    → IsMade keeps who message ending.Modify (put_in left (taken_out target.name entries)) (answer_read keeps entries who (Some message))
answer_read-modified modifies keeps entries who message modify target left asks may =
    answer-made keeps entries who message (update.Modify modify) ending.Modify _ asks refl
    (modifies entries who modify target left may)

abbrev pub Renames : Type 0
Renames =
    (entries : List EntryInformation) (who : Requester) (rename : RenameRequest) (target entry : EntryInformation)
    → MayRename entries who rename target entry → renamed entries who rename ≡ Made (put_in entry (taken_out target.name entries))

pub answer_read-renamed : Renames → (keeps : Bool) (entries : List EntryInformation) (who : Requester) (message : Message) (rename : RenameRequest)
    (target entry : EntryInformation) → AsksFor message (request.Update (update.Rename rename)) → MayRename entries who rename target entry
    → IsMade keeps who message ending.Rename (put_in entry (taken_out target.name entries)) (answer_read keeps entries who (Some message))
answer_read-renamed renames keeps entries who message rename target entry asks may =
    answer-made keeps entries who message (update.Rename rename) ending.Rename _ asks refl
    (renames entries who rename target entry may)
