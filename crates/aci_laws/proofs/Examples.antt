-- The definitions on known cases.
use Prim.Native.Nat.{zero, suc}
use Rattle.std.proofs.Common.{◌≡◌, ℕ, [], ◌∷◌, refl}
use Rattle.std.specs.Prelude.{codes, Some, None, option_map}
use Rattle.dir_tree.specs.dn_names.NameOrder.{name_cmp}
use Rattle.gser_tree.specs.looking.Shapes as shapes
use Rattle.gser_tree.specs.looking.Shapes.{Shape, nest}
use Rattle.subtree_spec.specs.SubtreeText.{components, refinement, subtree}
use Rattle.aci_laws.specs.Exclusions.{Before, After, chops_sorted}
use Rattle.aci_laws.specs.MembersSorted.{sorted}

-- of equal texts the first stays
a_set : sorted (λ text. text) (codes "b" ∷ codes "a" ∷ codes "ab" ∷ codes "b" ∷ []) ≡ codes "a" ∷ codes "ab" ∷ codes "b" ∷ []
a_set = refl

-- of each kind of exclusion names that are the same are one
exclusions : chops_sorted (After [] ∷ Before [] ∷ After [] ∷ []) ≡ record { before = [] ∷ []; after = [] ∷ [] }
unfolding name_cmp
exclusions = refl

-- braces of `and`, one in the other
conjunctions : ℕ → Shape
conjunctions zero = shapes.Chosen (record { place = 0; text = codes "and" }) (shapes.Braces shapes.None)
conjunctions (suc more) =
    shapes.Chosen (record { place = 0; text = codes "and" }) (shapes.Braces (shapes.Some (conjunctions more) shapes.None))

refined : ℕ → Shape
refined more = shapes.Braces (shapes.Some (shapes.Named (record { place = 0; text = codes "specificationFilter" }) (conjunctions more)) shapes.None)

-- a specification with 65 braces in one another is read
deepest : nest (refined 63) ≡ 65
unfolding refined conjunctions
deepest = refl

deepest_read : option_map (λ found. found.bad) (subtree (refined 63) None) ≡ Some None
unfolding refined conjunctions subtree components refinement
deepest_read = refl
