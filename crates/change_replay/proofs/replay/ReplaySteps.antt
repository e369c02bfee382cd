-- The changes, one after the other.
use Rattle.std.proofs.Common.{◌≡◌, ℕ, ◌+◌, List, [], ◌∷◌, drop, Result, Ok, refl, ap, ◌∙◌}
use Rattle.dir_tree.specs.plain_values.Results.{◌>>=◌}
use Rattle.dir_tree.specs.plain_values.Answers.{IsFaultOf}
use Rattle.dir_tree.specs.Entry.{EntryInformation}
use Rattle.change_records.specs.declared.types.RecordedChange.{RecordedChange}
use Rattle.change_replay.specs.declared.fault.ReplayFault.{ReplayFault}
use Rattle.change_replay.specs.declared.fault.ReplayFault.TheVariants as fault
use Rattle.change_replay.specs.Applied.{applied}
use Rattle.change_replay.specs.Replayed.{RefusedChange, at_line, replayed, refused_by}

-- one more is made
pub replayed-step :
    (entries next : List EntryInformation) (changes : List RecordedChange) (index : ℕ) (recorded : RecordedChange)
    → drop index changes ≡ recorded ∷ drop (index + 1) changes → at_line recorded.line (applied entries recorded.change) ≡ Ok next
    → replayed entries (drop index changes) ≡ replayed next (drop (index + 1) changes)
unfolding replayed
replayed-step entries next changes index recorded left is =
    ap (replayed entries) left ∙ ap (λ found. found >>= λ entries. replayed entries (drop (index + 1) changes)) is

-- one is refused
pub replayed-fault :
    (entries : List EntryInformation) (changes : List RecordedChange) (index : ℕ) (recorded : RecordedChange) (fault : ReplayFault)
    (all : Result (List EntryInformation) RefusedChange) → drop index changes ≡ recorded ∷ drop (index + 1) changes
    → all ≡ replayed entries (drop index changes)
    → IsFaultOf (refused_by fault) (at_line recorded.line (applied entries recorded.change)) → IsFaultOf (refused_by fault) all
unfolding replayed
replayed-fault entries changes index recorded (fault.Refused line code) all left is says =
    is ∙ ap (replayed entries) left ∙ ap (λ found. found >>= λ entries. replayed entries (drop (index + 1) changes)) says
replayed-fault entries changes index recorded fault.NoMemory all left is says = tt

-- none is left
pub replayed-done : (entries : List EntryInformation) (left : List RecordedChange) → left ≡ [] → replayed entries left ≡ Ok entries
unfolding replayed
replayed-done entries left none = ap (replayed entries) none

-- all are left
pub replayed-all : (entries : List EntryInformation) (changes : List RecordedChange) → replayed entries changes ≡ replayed entries (drop 0 changes)
replayed-all entries changes = refl
