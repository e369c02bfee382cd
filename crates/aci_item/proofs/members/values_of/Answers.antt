-- One more member is put at its place.
use Rattle.aci_item.specs.ItemPrinted.{print_value}
use Rattle.aci_item.specs.members.ItemParts.{kind_and_value}
use Rattle.aci_item.proofs.sets.SetLemmas.{set_loop}
use Rattle.aci_item.proofs.members.values_of.Goals as goal

pub loop-tree-preserved : goal.loop-tree-preserved
loop-tree-preserved c =
    let printed = c.in_ok-printed_value.ensures.ok in
    set_loop (λ pair. pair) print_value kind_and_value c.in_ok-printed_value.field-0 c.loop-tree.seen.items c.put.new.members.items c.in_ok-trees.trees.now
    c.loop-tree.tree-index c.tree-item.result c.loop-tree.bad.first c.kind_and_value.new.bad.first _ c.loop-tree-test.true c.tree-item.is
    (rw printed.0 c.in_ok-value.ensures.read) (rw printed.0 printed.1) c.in_ok-put.ensures.ok c.loop-tree.invariant
