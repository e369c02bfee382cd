-- What is read of a text is what its one value reads as, however deep its braces stand.
use Rattle.std.proofs.Common.{◌≡◌, inl, inr, ℕ, ◌<◌, ◌≤◌, List, refl, sym, ap, ◌∙◌, arith}
use Rattle.std.specs.Prelude.{Option, Some, None, option_and_then, Err}
use Rattle.std.proofs.lemmas.Bool.{cases_order}
use Rattle.gser_tree.specs.Growing.{tree_of}
use Rattle.gser_tree.specs.looking.Shapes.{Shape, nest}
use Rattle.gser_tree.specs.Reading.{Found, Read}
use Rattle.gser_tree.specs.TextOf.{IsTextOf}
use Rattle.gser_tree.proofs.Theorems.{Shallow, tree_of-IsTextOf, IsTextOf-tree_of}
use Rattle.subtree_spec.specs.declared.error.BadText.TheVariants.{Text}
use Rattle.subtree_spec.specs.SubtreeText.{subtree, judged, read_subtree}
use Rattle.subtree_spec.proofs.Theorems.{subtree_is_shallow}
use Rattle.aci_item.specs.AciText.{aci_item, read_item}
use Rattle.aci_laws.proofs.laws.DepthLemmas.{item_is_shallow}
use Rattle.aci_laws.proofs.laws.ValueLemmas.{IsTextOf-unique}

-- a value that is deeper than what a reader takes is not read
not_read : {A : Type 0} (most : ℕ) (reader : Shape → Read A) → Shallow most reader → (shape : Shape) (bad : Option ℕ) → most < nest shape → reader shape bad ≡ None
not_read {A} most reader shallow shape bad deep = inner (reader shape bad) refl
  where
    inner : (found : Option (Found A)) → reader shape bad ≡ found → found ≡ None
    inner None is = refl
    inner (Some found) is = let low = shallow shape bad found is in absurd (omega (arith, low, deep))

pub subtree-deep : (shape : Shape) (bad : Option ℕ) → 65 < nest shape → subtree shape bad ≡ None
subtree-deep shape bad deep = not_read 65 subtree subtree_is_shallow shape bad deep

pub aci_item-deep : (shape : Shape) (bad : Option ℕ) → 71 < nest shape → aci_item shape bad ≡ None
aci_item-deep shape bad deep = not_read 71 aci_item item_is_shallow shape bad deep

-- where a reader takes at most so deep a value, within the hundred of a tree, it does not matter that there is no deeper tree
read_by_tree : {A : Type 0} (most : ℕ) (reader : Shape → Read A) → Shallow most reader → most ≤ 100 → (shape : Shape) (text : List ℕ) → IsTextOf shape text
    → option_and_then (λ tree. reader tree None) (tree_of text) ≡ reader shape None
read_by_tree {A} most reader shallow within shape text written = elim (cases_order (nest shape) 100) [
  | inl e ↦ by_depth (omega (arith, e))
  | inr (inl less) ↦ by_depth (omega (arith, less))
  | inr (inr more) ↦ by_tree (omega (arith, more, within)) (tree_of text) refl
]
  where
    by_depth : nest shape ≤ 100 → option_and_then (λ tree. reader tree None) (tree_of text) ≡ reader shape None
    by_depth low = ap (option_and_then (λ tree. reader tree None)) (IsTextOf-tree_of text shape written low)

    by_tree : most < nest shape → (found : Option Shape) → tree_of text ≡ found
        → option_and_then (λ tree. reader tree None) found ≡ reader shape None
    by_tree deep None is = sym (not_read most reader shallow shape None deep)
    by_tree deep (Some tree) is = ap (λ one. reader one None) (IsTextOf-unique tree shape text (tree_of-IsTextOf text tree is) written)

pub read_subtree-IsTextOf : (shape : Shape) (text : List ℕ) → IsTextOf shape text → read_subtree text ≡ judged (subtree shape None)
unfolding read_subtree
read_subtree-IsTextOf shape text written = ap judged (read_by_tree 65 subtree subtree_is_shallow (omega arith) shape text written)

pub read_item-IsTextOf : (shape : Shape) (text : List ℕ) → IsTextOf shape text → read_item text ≡ judged (aci_item shape None)
unfolding read_item
read_item-IsTextOf shape text written = ap judged (read_by_tree 71 aci_item item_is_shallow (omega arith) shape text written)

-- so a text that is too deep is refused
pub read_subtree-deep : (shape : Shape) (text : List ℕ) → IsTextOf shape text → 65 < nest shape → read_subtree text ≡ Err Text
read_subtree-deep shape text written deep = read_subtree-IsTextOf shape text written ∙ ap judged (subtree-deep shape None deep)

pub read_item-deep : (shape : Shape) (text : List ℕ) → IsTextOf shape text → 71 < nest shape → read_item text ≡ Err Text
read_item-deep shape text written deep = read_item-IsTextOf shape text written ∙ ap judged (aci_item-deep shape None deep)
