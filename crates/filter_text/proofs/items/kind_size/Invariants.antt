-- No operator has come, so the place of the first is counted from here on.
use Rattle.std.proofs.Common.{◌≡◌, ◌+◌, drop}
use Rattle.filter_text.specs.Items.{kind_size}
use Rattle.filter_text.proofs.items.kind_size.Given as goal

abbrev pub invariant-loop-place : goal.invariant-loop-place
invariant-loop-place l = l.place + kind_size (drop l.place l.text) ≡ kind_size l.text
