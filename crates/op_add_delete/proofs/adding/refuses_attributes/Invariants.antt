-- What is refused is among the attributes that are left.
use Rattle.std.proofs.Common.{◌≡◌}
use Rattle.std.specs.List.{list_any}
use Rattle.dir_tree.specs.tree.Numbered.{entries_of}
use Rattle.acdf_filters.specs.Granted.{granted_new}
use Rattle.op_add_delete.specs.adding.Adding.{refuses_attribute}
use Rattle.op_add_delete.proofs.adding.refuses_attributes.Given as goal

abbrev pub invariant-loop-kind : goal.invariant-loop-kind
invariant-loop-kind g l =
    let allows = granted_new (entries_of (g.D.Dir.rows l.newcomer.asking.now.dir.now)) l.newcomer.asking.now.who.now l.newcomer.entry.now in
    list_any (refuses_attribute allows) l.newcomer.entry.now.attributes ≡ list_any (refuses_attribute allows) l.kind-iterator
