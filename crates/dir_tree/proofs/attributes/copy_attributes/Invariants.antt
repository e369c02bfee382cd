-- The attributes so far are copied: with those that are left they are all.
use Rattle.std.proofs.Common.{◌≡◌, ◌++◌}
use Rattle.dir_tree.specs.attributes.Rows.{attributes_of}
use Rattle.dir_tree.proofs.attributes.copy_attributes.Given as goal

abbrev pub invariant-loop-kind : goal.invariant-loop-kind
invariant-loop-kind l =
    attributes_of l.copies.entries ++ attributes_of l.kind-iterator ≡ attributes_of l.attributes.entries
