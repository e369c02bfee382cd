-- The laws of replays.
use Rattle.std.specs.Prelude.{◌≡◌, ℕ, ◌≤◌, List, ◌++◌, length, take, None, Ok}
use Rattle.std.specs.List.{AllByRecursion}
use Rattle.base64.specs.GeneralPurpose.{IsBytes}
use Rattle.dir_tree.specs.Entry.{EntryInformation}
use Rattle.acdf_filters.specs.aci_item.Rules.{IsGoodTree}
use Rattle.acdf_filters.specs.declared.asking.Requester.{Requester}
use Rattle.change_records.specs.declared.types.RecordedChange.{RecordedChange}
use Rattle.change_records.specs.Files.{file_text}
use Rattle.change_records.specs.Laws.{recorded, SaysFront}
use Rattle.change_records.specs.Writable.{AreBytes, IsDigest, IsWritable}
use Rattle.change_laws.specs.op_modify.ldap_msg.declared.kinds.KindValues.{KindValues}
use Rattle.change_laws.specs.op_modify.ldap_msg.declared.kinds.Change.{Change}
use Rattle.change_laws.specs.op_modify.ldap_msg.declared.kinds.Request.{Request}
use Rattle.change_laws.specs.op_modify.ldap_msg.declared.kinds.Request.TheVariants as request
use Rattle.change_laws.specs.op_modify.ldap_msg.declared.kinds.Update.{Update}
use Rattle.change_laws.specs.op_modify.ldap_msg.declared.kinds.Update.TheVariants as update
use Rattle.change_replay.specs.Replayed.{replayed}
use Rattle.change_replay.specs.Accepted.{AcceptedChange, IsAccepted, AreAccepted, requests_of, left_after}

-- the values are octets
abbrev pub HasOctets : KindValues → Type 0
HasOctets given = AllByRecursion IsBytes given.values

-- those of a change are
abbrev pub ChangesOctets : Change → Type 0
ChangesOctets change = HasOctets change.body

-- the names and values of a change are octets
abbrev pub UpdatesOctets : Update → Type 0
UpdatesOctets (update.Modify modify) = IsBytes modify.name × AllByRecursion ChangesOctets modify.changes
UpdatesOctets (update.Add add) = IsBytes add.name × AllByRecursion HasOctets add.attributes
UpdatesOctets (update.Delete delete) = IsBytes delete.name
UpdatesOctets (update.Rename rename) = IsBytes rename.name × IsBytes rename.new_rdn × AreBytes rename.superior

-- those of a request that changes something are
abbrev pub IsOfOctets : Request → Type 0
IsOfOctets (request.Update change) = UpdatesOctets change
IsOfOctets other = Unit {0}

-- those of each of the changes are
abbrev pub AreOfOctets : List AcceptedChange → Type 0
AreOfOctets changes = AllByRecursion (λ change. IsOfOctets change.request) changes

-- a good tree stays good
abbrev pub StaysGood : Type 0
StaysGood =
    (entries left : List EntryInformation) (changes : List RecordedChange) → IsGoodTree entries
    → replayed entries changes ≡ Ok left → IsGoodTree left

-- an accepted request can be written as a record
abbrev pub CanBeWritten : Type 0
CanBeWritten =
    (entries : List EntryInformation) (change : AcceptedChange) → IsAccepted entries change → IsOfOctets change.request
    → IsWritable change.request

-- the whole part of a text says the first of the changes, these and a number of the others, and replayed over the first
-- entries they leave what they left when they were accepted
pub record IsRecovered (first : List EntryInformation) (digest : List ℕ) (done more : List AcceptedChange) (text : List ℕ) : Type 0 where
  pub front : SaysFront digest (requests_of done) (requests_of more) text
  pub left : replayed first (recorded 4 (requests_of done ++ take front.kept (requests_of more))) ≡ Ok (left_after first (done ++ take front.kept more))

-- a file of accepted changes that is cut behind some of its changes gives what these left, or they and a front of the others
abbrev pub RecoversWhereCut : Type 0
RecoversWhereCut =
    (first : List EntryInformation) (digest : List ℕ) (done more : List AcceptedChange) (count : ℕ) → IsDigest digest
    → AreAccepted first (done ++ more) → AreOfOctets (done ++ more) → length (file_text digest (requests_of done)) ≤ count
    → IsRecovered first digest done more (take count (file_text digest (requests_of (done ++ more))))
