-- What is written so far, and the permissions that are left.
use Rattle.std.proofs.Common.{◌≡◌, ◌++◌, filter, drop}
use Rattle.std.specs.Prelude.{flat_map, string_bytes}
use Rattle.dir_tree.specs.tree.Numbered.{entries_of}
use Rattle.acdf_filters.specs.Asking.{protected_of}
use Rattle.acdf_filters.specs.Granted.{granted}
use Rattle.certify.specs.RightsTable.{permission_text}
use Rattle.certify.proofs.table.put_granted.Given as goal

abbrev pub invariant-loop-permission : goal.invariant-loop-permission
invariant-loop-permission g l =
    let allows = granted (entries_of (g.D.Dir.rows l.target.asking.now.dir.now)) l.target.asking.now.who.now l.target.entry.now (protected_of l.item) in
    string_bytes l.out ++ flat_map permission_text (filter allows (drop l.permission-index l.permissions))
    ≡ string_bytes l.initial.out ++ flat_map permission_text (filter allows l.permissions)
