-- The parts so far, and those of what is left, are the parts of the whole.
use Rattle.std.proofs.Common.{◌≡◌, ◌++◌, length}
use Rattle.filter_text.specs.Items.{any_of, final_of, parts_of}
use Rattle.filter_text.proofs.items.read_behind.Given as goal

abbrev pub invariant-loop-part : goal.invariant-loop-part
invariant-loop-part l = record {
  any : l.any.items ++ any_of (parts_of l.left) ≡ any_of (parts_of l.text);
  last : final_of (parts_of l.left) ≡ final_of (parts_of l.text);
}

abbrev pub decreases-loop-part : goal.decreases-loop-part
decreases-loop-part l = length l.left
