-- What was accepted is replayed, and recovered where the file is cut.
use Rattle.std.proofs.Common.{◌≡◌, ℕ, zero, suc, ◌+◌, ◌≤◌, List, [], ◌∷◌, ◌++◌, length, take, Ok, refl, sym, ap, subst, ◌∙◌}
use Rattle.std.specs.List.{AllByRecursion}
use Rattle.dir_tree.specs.plain_values.Results.{◌>>=◌}
use Rattle.dir_tree.specs.Entry.{EntryInformation}
use Rattle.acdf_filters.specs.declared.asking.Requester.{Requester}
use Rattle.op_add_delete.specs.adding.Updates.{Made, deleted, added}
use Rattle.change_laws.specs.op_modify.Modifying.{modified}
use Rattle.change_laws.specs.op_modify.Renames.{renamed}
use Rattle.change_laws.specs.op_modify.ldap_msg.declared.kinds.AddRequest.{AddRequest}
use Rattle.change_laws.specs.op_modify.ldap_msg.declared.kinds.DeleteRequest.{DeleteRequest}
use Rattle.change_laws.specs.op_modify.ldap_msg.declared.kinds.ModifyRequest.{ModifyRequest}
use Rattle.change_laws.specs.op_modify.ldap_msg.declared.kinds.RenameRequest.{RenameRequest}
use Rattle.change_laws.specs.op_modify.ldap_msg.declared.kinds.Request.{Request}
use Rattle.change_laws.specs.op_modify.ldap_msg.declared.kinds.Request.TheVariants as request
use Rattle.change_laws.specs.op_modify.ldap_msg.declared.kinds.Update.TheVariants as update
use Rattle.change_records.specs.Written.{lines_of}
use Rattle.change_records.specs.Files.{file_text}
use Rattle.change_records.specs.Laws.{recorded, SaysFront, SaysFrontWhereCut}
use Rattle.change_records.specs.Writable.{IsDigest, IsWritable}
use Rattle.change_replay.specs.Applied.{applied}
use Rattle.change_replay.specs.Replayed.{at_line, replayed}
use Rattle.change_replay.specs.Accepted.{AcceptedChange, outcome, after, requests_of, left_after, IsAccepted, AreAccepted}
use Rattle.change_replay.specs.Laws.{AreOfOctets, CanBeWritten, IsRecovered}

-- ---- the requests of some changes

requests-both : (done more : List AcceptedChange) → requests_of (done ++ more) ≡ requests_of done ++ requests_of more
requests-both [] more = refl
requests-both (change ∷ done) more = ap (λ later. change.request ∷ later) (requests-both done more)

requests-front : (count : ℕ) (changes : List AcceptedChange) → requests_of (take count changes) ≡ take count (requests_of changes)
requests-front zero changes = refl
requests-front (suc count) [] = refl
requests-front (suc count) (change ∷ rest) = ap (λ later. change.request ∷ later) (requests-front count rest)

requests-kept :
    (done more : List AcceptedChange) (kept : ℕ) → requests_of (done ++ take kept more) ≡ requests_of done ++ take kept (requests_of more)
requests-kept done more kept =
    requests-both done (take kept more) ∙ ap (λ later. requests_of done ++ later) (requests-front kept more)

-- ---- a front of what was accepted was accepted

accepted-front :
    (count : ℕ) (entries : List EntryInformation) (changes : List AcceptedChange) → AreAccepted entries changes
    → AreAccepted entries (take count changes)
accepted-front zero entries changes are = tt
accepted-front (suc count) entries [] are = tt
accepted-front (suc count) entries (change ∷ rest) are = (are.0, accepted-front count (after entries change) rest are.1)

accepted-kept :
    (entries : List EntryInformation) (done more : List AcceptedChange) (kept : ℕ) → AreAccepted entries (done ++ more)
    → AreAccepted entries (done ++ take kept more)
accepted-kept entries [] more kept are = accepted-front kept entries more are
accepted-kept entries (change ∷ done) more kept are = (are.0, accepted-kept (after entries change) done more kept are.1)

-- ---- one change

abbrev pub DeletesApply : Type 0
DeletesApply =
    (entries : List EntryInformation) (who : Requester) (delete : DeleteRequest) (left : List EntryInformation)
    → deleted entries who delete ≡ Made left → applied entries (request.Update (update.Delete delete)) ≡ Ok left

abbrev pub AddsApply : Type 0
AddsApply =
    (entries : List EntryInformation) (who : Requester) (add : AddRequest) (left : List EntryInformation)
    → added entries who add ≡ Made left → applied entries (request.Update (update.Add add)) ≡ Ok left

abbrev pub ModifiesApply : Type 0
ModifiesApply =
    (entries : List EntryInformation) (who : Requester) (modify : ModifyRequest) (left : List EntryInformation)
    → modified entries who modify ≡ Made left → applied entries (request.Update (update.Modify modify)) ≡ Ok left

abbrev pub RenamesApply : Type 0
RenamesApply =
    (entries : List EntryInformation) (who : Requester) (rename : RenameRequest) (left : List EntryInformation)
    → renamed entries who rename ≡ Made left → applied entries (request.Update (update.Rename rename)) ≡ Ok left

module _ (deletes : DeletesApply) (adds : AddsApply) (modifies : ModifiesApply) (renames : RenamesApply) where
  pub applied-outcome :
      (entries : List EntryInformation) (who : Requester) (change : Request) (left : List EntryInformation)
      → outcome entries who change ≡ Made left → applied entries change ≡ Ok left
  applied-outcome entries who (request.Update (update.Modify modify)) left made = modifies entries who modify left made
  applied-outcome entries who (request.Update (update.Add add)) left made = adds entries who add left made
  applied-outcome entries who (request.Update (update.Delete delete)) left made = deletes entries who delete left made
  applied-outcome entries who (request.Update (update.Rename rename)) left made = renames entries who rename left made
  applied-outcome entries who other left made = absurd cc

  -- one change after the other
  replayed-accepted :
      (number : ℕ) (entries : List EntryInformation) (changes : List AcceptedChange) → AreAccepted entries changes
      → replayed entries (recorded number (requests_of changes)) ≡ Ok (left_after entries changes)
  unfolding replayed left_after
  replayed-accepted number entries [] are = refl
  replayed-accepted number entries (change ∷ rest) are =
      let next = number + length (lines_of change.request) + 1 in
      ap (λ found. at_line number found >>= λ left. replayed left (recorded next (requests_of rest))) (applied-outcome entries change.who change.request (after entries change) are.0.accepted)
      ∙ replayed-accepted next (after entries change) rest are.1

  replayed-kept :
      (first : List EntryInformation) (done more : List AcceptedChange) (kept : ℕ) → AreAccepted first (done ++ more)
      → replayed first (recorded 4 (requests_of done ++ take kept (requests_of more))) ≡ Ok (left_after first (done ++ take kept more))
  replayed-kept first done more kept are =
      ap (λ requests. replayed first (recorded 4 requests)) (sym (requests-kept done more kept))
      ∙ replayed-accepted 4 first (done ++ take kept more) (accepted-kept first done more kept are)

  -- ---- the file
  module _ (can_be_written : CanBeWritten) (cut : SaysFrontWhereCut) where
    all-writable :
        (entries : List EntryInformation) (changes : List AcceptedChange) → AreAccepted entries changes → AreOfOctets changes
        → AllByRecursion IsWritable (requests_of changes)
    all-writable entries [] are octets = tt
    all-writable entries (change ∷ rest) are octets =
        (can_be_written entries change are.0 octets.0, all-writable (after entries change) rest are.1 octets.1)

    both-writable :
        (entries : List EntryInformation) (done more : List AcceptedChange) → AreAccepted entries (done ++ more) → AreOfOctets (done ++ more)
        → AllByRecursion IsWritable (requests_of done) × AllByRecursion IsWritable (requests_of more)
    both-writable entries [] more are octets = (tt, all-writable entries more are octets)
    both-writable entries (change ∷ done) more are octets =
        let later = both-writable (after entries change) done more are.1 octets.1 in
        ((can_be_written entries change are.0 octets.0, later.0), later.1)

    pub recovered-cut :
        (first : List EntryInformation) (digest : List ℕ) (done more : List AcceptedChange) (count : ℕ) → IsDigest digest
        → AreAccepted first (done ++ more) → AreOfOctets (done ++ more) → length (file_text digest (requests_of done)) ≤ count
        → IsRecovered first digest done more (take count (file_text digest (requests_of (done ++ more))))
    recovered-cut first digest done more count is are octets within =
        let writable = both-writable first done more are octets in
        let front = cut digest (requests_of done) (requests_of more) count is writable.0 writable.1 within in
        let here = subst (λ requests. SaysFront digest (requests_of done) (requests_of more) (take count (file_text digest requests))) (sym (requests-both done more)) front in
        record { front = here; left = replayed-kept first done more here.kept are }
