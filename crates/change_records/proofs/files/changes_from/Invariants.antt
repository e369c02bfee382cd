use Rattle.std.proofs.Common.{◌≡◌, ◌-◌, drop, length}
use Rattle.change_records.specs.Reading.{changes_from}
use Rattle.change_records.proofs.JoinLemmas.{joined}
use Rattle.change_records.proofs.files.changes_from.Given as goal

-- the changes so far, before those of the lines that are left, are all
abbrev pub invariant-records : goal.invariant-records
invariant-records l = changes_from l.lines ≡ joined l.changes.items (changes_from (drop l.at l.lines))

abbrev pub decreases-records : goal.decreases-records
decreases-records l = length l.lines - l.at
