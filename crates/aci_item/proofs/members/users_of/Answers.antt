-- One more member is put at its place.
use Rattle.aci_item.specs.ItemPrinted.{print_user}
use Rattle.aci_item.specs.members.ItemParts.{user}
use Rattle.aci_item.proofs.sets.SetLemmas.{set_loop}
use Rattle.aci_item.proofs.members.users_of.Goals as goal

pub loop-tree-preserved : goal.loop-tree-preserved
loop-tree-preserved c =
    let printed = c.in_ok-printed_user.ensures.ok in
    set_loop (λ name. name) print_user user c.in_ok-printed_user.field-0 c.loop-tree.seen.items c.put.new.members.items c.in_ok-trees.trees.now
    c.loop-tree.tree-index c.tree-item.result c.loop-tree.bad.first c.user.new.bad.first _ c.loop-tree-test.true c.tree-item.is
    (rw printed.0 c.in_ok-value.ensures.read) (rw printed.0 printed.1) c.in_ok-put.ensures.ok c.loop-tree.invariant
