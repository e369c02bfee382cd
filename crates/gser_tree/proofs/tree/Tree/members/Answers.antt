-- The members are listed as they were gathered.
use Rattle.std.proofs.Common.{◌≡◌, ◌∙◌, sym, ap}
use Rattle.std.specs.Prelude.{Some, map}
use Rattle.gser_tree.specs.looking.Shapes.{Braces, gathered}
use Rattle.gser_tree.specs.Tree.{shape_of}
use Rattle.gser_tree.specs.looking.Looking.{members_in}
use Rattle.gser_tree.proofs.looking.LookingLemmas.{listed_gathered, braces_shape}
use Rattle.gser_tree.proofs.tree.Tree.members.Goals as goal

pub returns-in-Braces : goal.returns-in-Braces
returns-in-Braces c =
    let whole : shape_of c.args.self.now ≡ Braces (gathered (map shape_of c.in-Braces.trees.items)) =
    ap shape_of c.in-Braces.is ∙ braces_shape c.in-Braces.trees in
    record { exact = ap Some (ap (map shape_of) c.deref.ensures.value ∙ sym (listed_gathered (map shape_of c.in-Braces.trees.items))) ∙ sym (ap members_in whole) }
