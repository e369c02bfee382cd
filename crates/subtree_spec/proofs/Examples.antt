-- The definitions on known cases.
use Rattle.std.proofs.Common.{◌≡◌, [], ◌∷◌, refl}
use Rattle.std.specs.Prelude.{codes}
use Rattle.std.specs.Prelude as std
use Rattle.gser_tree.specs.Writing.{text_of}
use Rattle.subtree_spec.specs.Subtrees.{Subtree, Item, And, Not, None, Some}
use Rattle.subtree_spec.specs.SubtreePrinted.{print_subtree}

-- what is left out
whole : Subtree
whole = record { base = []; before = []; after = []; minimum = 0; maximum = std.None; filter = std.None }

printed_whole : text_of (print_subtree whole) ≡ codes "{ }"
unfolding whole print_subtree
printed_whole = refl

-- exclusions and a refinement
refined : Subtree
refined = record {
  base = [];
  before = [];
  after = [] ∷ [];
  minimum = 0;
  maximum = std.None;
  filter = std.Some (And (Some (Item (codes "2.5.6.6")) (Some (Not (And None)) None)));
}

printed_refined : text_of (print_subtree refined) ≡
    codes "{ specificExclusions { chopAfter:\"\" }, specificationFilter and:{ item:2.5.6.6, not:and:{ } } }"
unfolding refined print_subtree Rattle.dn_names.specs.Printing.print_name Rattle.dn_names.specs.Printing.print_by
printed_refined = refl
