-- Changes that a directory accepted: each by the requester who asked for it, over the entries that those before it left.
use Rattle.std.specs.Prelude.{◌≡◌, ℕ, List, [], ◌∷◌, map}
use Rattle.std.specs.List.{AllByRecursion}
use Rattle.dir_tree.specs.Entry.{EntryInformation}
use Rattle.acdf_filters.specs.declared.asking.Requester.{Requester}
use Rattle.op_add_delete.specs.read_model.Views.{result_of}
use Rattle.op_add_delete.specs.adding.Updates.{Changed, Refused, Made, left_by}
use Rattle.change_laws.specs.Updating.{updated}
use Rattle.change_laws.specs.op_modify.ldap_msg.declared.operations.ResultCode.TheVariants as code
use Rattle.change_laws.specs.op_modify.ldap_msg.declared.kinds.Request.{Request}
use Rattle.change_laws.specs.op_modify.ldap_msg.declared.kinds.Request.TheVariants as request

-- what a request comes to for a requester; one that changes nothing is none that may be accepted
abbrev pub outcome : List EntryInformation → Requester → Request → Changed
outcome entries who (request.Update change) = updated entries who change
outcome entries who other = Refused (result_of code.ProtocolError)

-- a request, and who asked
pub record AcceptedChange : Type 0 where
  pub who : Requester
  pub request : Request

-- the requests
abbrev pub requests_of : List AcceptedChange → List Request
requests_of changes = map (λ change. change.request) changes

-- what a change leaves
abbrev pub after : List EntryInformation → AcceptedChange → List EntryInformation
after entries change = left_by entries (outcome entries change.who change.request)

-- what changes leave, in their order
unfoldable pub left_after : List EntryInformation → List AcceptedChange → List EntryInformation
left_after entries [] = entries
left_after entries (change ∷ rest) = left_after (after entries change) rest

-- the change is made: it leaves what is after it
pub record IsAccepted (entries : List EntryInformation) (change : AcceptedChange) : Type 0 where
  pub accepted : outcome entries change.who change.request ≡ Made (after entries change)

-- each of the changes is made, over what those before it left
abbrev pub AreAccepted : List EntryInformation → List AcceptedChange → Type 0
AreAccepted entries [] = Unit {0}
AreAccepted entries (change ∷ rest) = IsAccepted entries change × AreAccepted (after entries change) rest
