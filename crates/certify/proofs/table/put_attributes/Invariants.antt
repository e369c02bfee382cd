-- What is written so far, and the attributes that are left.
use Rattle.std.proofs.Common.{◌≡◌, ◌++◌}
use Rattle.std.specs.Prelude.{flat_map, string_bytes}
use Rattle.dir_tree.specs.tree.Numbered.{entries_of}
use Rattle.certify.specs.RightsTable.{attribute_lines}
use Rattle.certify.proofs.table.put_attributes.Given as goal

abbrev pub invariant-loop-kind : goal.invariant-loop-kind
invariant-loop-kind g l =
    let lines = attribute_lines (entries_of (g.D.Dir.rows l.target.asking.now.dir.now)) l.target.asking.now.who.now l.target.entry.now in
    string_bytes l.out ++ flat_map lines l.kind-iterator ≡ string_bytes l.initial.out ++ flat_map lines l.target.entry.now.attributes
