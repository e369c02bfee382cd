-- One more member is put at its place.
use Rattle.std.proofs.Common.{◌≡◌, [], drop, map, rules, arith}
use Rattle.std.specs.Prelude.{Some}
use Rattle.std.proofs.lemmas.Grind.{common_steps}
use Rattle.gser_tree.specs.looking.Looking.{members_in}
use Rattle.gser_tree.specs.Tree.{shape_of}
use Rattle.subtree_spec.specs.Subtrees.{subtree_of}
use Rattle.subtree_spec.specs.SubtreePrinted.{print_subtree}
use Rattle.aci_item.specs.members.ItemParts.{class_subtree}
use Rattle.aci_item.proofs.sets.SetLemmas.{set_loop, set_end}
use Rattle.aci_item.proofs.members.subtrees_of.Goals as goal

pub loop-tree-preserved : goal.loop-tree-preserved
loop-tree-preserved c =
    let printed = c.in_ok-printed_subtree.ensures.ok in
    set_loop subtree_of print_subtree class_subtree c.in_ok-printed_subtree.field-0 c.loop-tree.seen.items c.put.new.members.items c.in_ok-trees.trees.now
    c.loop-tree.tree-index c.tree-item.result c.loop-tree.bad.first c.class_subtree.new.bad.first _ c.loop-tree-test.true c.tree-item.is
    (rw printed.0 c.in_ok-value.ensures.read) (rw printed.0 printed.1) c.in_ok-put.ensures.ok c.loop-tree.invariant

pub returns : goal.returns
returns c =
    let has : members_in (shape_of c.args.tree.now) ≡ Some (map shape_of c.in_ok-trees.trees.now) = search rules in
    let last : drop c.loop-tree.tree-index c.in_ok-trees.trees.now ≡ [] = grind (arith, common_steps) in
    record {
      read = set_end subtree_of print_subtree class_subtree (shape_of c.args.tree.now) c.loop-tree.seen.items c.in_ok-into_values.field-0.items
          c.in_ok-trees.trees.now c.loop-tree.tree-index c.args.bad.now.first c.loop-tree.bad.first has last c.in_ok-into_values.ensures.ok c.loop-tree.invariant;
    }
