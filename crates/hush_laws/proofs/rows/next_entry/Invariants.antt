-- A number of no entry is passed over.
use Rattle.std.proofs.Common.{◌≡◌}
use Rattle.dir_tree.specs.tree.Numbered.{entries_at}
use Rattle.hush_laws.proofs.rows.next_entry.Given as goal

abbrev pub invariant-loop-number : goal.invariant-loop-number
invariant-loop-number l = record {
  next : (goal.iterator-loop-number).can_next l.walk;
  finite : (goal.iterator-loop-number).is_finite l.walk;
  left : entries_at l.tree l.walk ≡ entries_at l.tree l.fn.walk;
}
