-- What is written so far, and the values that are left.
use Rattle.std.proofs.Common.{◌≡◌, ◌++◌, drop}
use Rattle.std.specs.Prelude.{string_bytes}
use Rattle.dir_tree.specs.tree.Numbered.{entries_of}
use Rattle.certify.specs.RightsTable.{value_lines}
use Rattle.certify.proofs.table.put_values.Given as goal

abbrev pub invariant-loop-number : goal.invariant-loop-number
invariant-loop-number g l =
    let lines = value_lines (entries_of (g.D.Dir.rows l.target.asking.now.dir.now)) l.target.asking.now.who.now l.target.entry.now l.kind.0 in
    string_bytes l.out ++ lines l.number (drop l.number l.values) ≡ string_bytes l.initial.out ++ lines 0 l.values
