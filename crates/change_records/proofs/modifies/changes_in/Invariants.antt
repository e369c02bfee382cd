use Rattle.std.proofs.Common.{◌≡◌, drop, None}
use Rattle.change_records.specs.Reading.{changes_in}
use Rattle.change_records.proofs.JoinLemmas.{joined}
use Rattle.change_records.proofs.modifies.changes_in.Given as goal

-- the changes so far, before those of the lines that are left, are all
abbrev pub invariant-loop-line : goal.invariant-loop-line
invariant-loop-line l = changes_in l.number None l.lines ≡ joined l.whole.items (changes_in l.number l.before (drop l.line-index l.lines))
