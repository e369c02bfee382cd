use Rattle.std.proofs.Common.{◌≡◌, drop, None}
use Rattle.change_records.specs.Reading.{attributes_in}
use Rattle.change_records.proofs.JoinLemmas.{joined}
use Rattle.change_records.proofs.adds.attributes_in.Given as goal

-- the attributes so far, before those of the lines that are left, are all
abbrev pub invariant-loop-line : goal.invariant-loop-line
invariant-loop-line l = attributes_in None l.lines ≡ joined l.whole.items (attributes_in l.before (drop l.line-index l.lines))
