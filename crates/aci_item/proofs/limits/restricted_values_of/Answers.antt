-- One more member is put at its place.
use Rattle.std.proofs.Common.{◌≡◌, [], drop, map, rules, arith}
use Rattle.std.specs.Prelude.{Some}
use Rattle.std.proofs.lemmas.Grind.{common_steps}
use Rattle.gser_tree.specs.looking.Looking.{members_in}
use Rattle.gser_tree.specs.Tree.{shape_of}
use Rattle.aci_item.specs.item.Views.{restricted_value_of}
use Rattle.aci_item.specs.ItemPrinted.{print_restricted_value}
use Rattle.aci_item.specs.members.Limits.{restricted_value}
use Rattle.aci_item.proofs.sets.SetLemmas.{set_loop, set_end}
use Rattle.aci_item.proofs.limits.restricted_values_of.Goals as goal

pub loop-tree-preserved : goal.loop-tree-preserved
loop-tree-preserved c =
    let printed = c.in_ok-printed_restricted_value.ensures.ok in
    set_loop restricted_value_of print_restricted_value restricted_value c.in_ok-printed_restricted_value.field-0 c.loop-tree.seen.items c.put.new.members.items c.in_ok-trees.trees.now
    c.loop-tree.tree-index c.tree-item.result c.loop-tree.bad.first c.restricted_value.new.bad.first _ c.loop-tree-test.true c.tree-item.is
    (rw printed.0 c.in_ok-value.ensures.read) (rw printed.0 printed.1) c.in_ok-put.ensures.ok c.loop-tree.invariant

pub returns : goal.returns
returns c =
    let has : members_in (shape_of c.args.tree.now) ≡ Some (map shape_of c.in_ok-trees.trees.now) = search rules in
    let last : drop c.loop-tree.tree-index c.in_ok-trees.trees.now ≡ [] = grind (arith, common_steps) in
    record {
      read = set_end restricted_value_of print_restricted_value restricted_value (shape_of c.args.tree.now) c.loop-tree.seen.items c.in_ok-into_values.field-0.items
          c.in_ok-trees.trees.now c.loop-tree.tree-index c.args.bad.now.first c.loop-tree.bad.first has last c.in_ok-into_values.ensures.ok c.loop-tree.invariant;
    }
