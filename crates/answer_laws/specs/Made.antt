-- Changes that are made, and how a message that asks for one is answered (RFC 4511 4.6 to 4.9).
use Rattle.std.specs.Prelude.{◌≡◌, Bool, false, [], ◌∷◌}
use Rattle.ldap_msg.specs.declared.operations.ResultCode.TheVariants as code
use Rattle.ldap_msg.specs.declared.operations.Ending.{Ending}
use Rattle.ldap_msg.specs.declared.kinds.Message.{Message}
use Rattle.ldap_msg.specs.declared.kinds.Reply.TheVariants as reply
use Rattle.change_laws.specs.op_add_delete.adding.Updates.{Made}
use Rattle.read_model.specs.Views.{result_of}
use Rattle.read_model.specs.SearchReplies.{replies_octets}
use Rattle.session_hub.specs.session_model.Rules.{Answered}
use Rattle.session_hub.specs.Parties.{DirectoryEntries, Requester}
use Rattle.session_hub.specs.Answering.{recorded, kept_changes}

-- the message is answered by one response of this kind, with success; what is to be stored is the record of its change, where
-- changes are kept; these entries are left, the requester stays, and so does the connection
pub record IsMade (keeps : Bool) (who : Requester) (message : Message) (response : Ending) (left : DirectoryEntries) (answer : Answered DirectoryEntries Requester) : Type 0 where
  pub replies : answer.replies ≡ replies_octets message.id (reply.Ended response (result_of code.Success) ∷ [])
  pub changes : answer.changes ≡ kept_changes keeps (recorded (Made left) message.request)
  pub tree : answer.tree ≡ left
  pub who_stays : answer.who ≡ who
  pub stays : answer.closes ≡ false
