-- One more member is put at its place.
use Rattle.std.proofs.Common.{◌≡◌, [], drop, map, rules, arith}
use Rattle.std.specs.Prelude.{Some}
use Rattle.std.proofs.lemmas.Grind.{common_steps}
use Rattle.gser_tree.specs.looking.Looking.{members_in}
use Rattle.gser_tree.specs.Tree.{shape_of}
use Rattle.aci_item.specs.item.Views.{max_value_count_of}
use Rattle.aci_item.specs.ItemPrinted.{print_max_value_count}
use Rattle.aci_item.specs.members.Limits.{max_value_count}
use Rattle.aci_item.proofs.sets.SetLemmas.{set_loop, set_end}
use Rattle.aci_item.proofs.limits.max_value_counts_of.Goals as goal

pub loop-tree-preserved : goal.loop-tree-preserved
loop-tree-preserved c =
    let printed = c.in_ok-printed_max_value_count.ensures.ok in
    set_loop max_value_count_of print_max_value_count max_value_count c.in_ok-printed_max_value_count.field-0 c.loop-tree.seen.items c.put.new.members.items c.in_ok-trees.trees.now
    c.loop-tree.tree-index c.tree-item.result c.loop-tree.bad.first c.max_value_count.new.bad.first _ c.loop-tree-test.true c.tree-item.is
    (rw printed.0 c.in_ok-value.ensures.read) (rw printed.0 printed.1) c.in_ok-put.ensures.ok c.loop-tree.invariant

pub returns : goal.returns
returns c =
    let has : members_in (shape_of c.args.tree.now) ≡ Some (map shape_of c.in_ok-trees.trees.now) = search rules in
    let last : drop c.loop-tree.tree-index c.in_ok-trees.trees.now ≡ [] = grind (arith, common_steps) in
    record {
      read = set_end max_value_count_of print_max_value_count max_value_count (shape_of c.args.tree.now) c.loop-tree.seen.items c.in_ok-into_values.field-0.items
          c.in_ok-trees.trees.now c.loop-tree.tree-index c.args.bad.now.first c.loop-tree.bad.first has last c.in_ok-into_values.ensures.ok c.loop-tree.invariant;
    }
