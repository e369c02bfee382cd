-- What was read of a text is what it is written for.
use Rattle.std.proofs.Common.{◌≡◌, ◌≤◌, ℕ, List, refl, ap, ◌∙◌, subst}
use Rattle.std.specs.Prelude.{Option, Some, None, option_and_then, Result, Ok, Err, IfOk}
use Rattle.plain_values.specs.Answers.{Answers}
use Rattle.gser_tree.specs.looking.Shapes.{Shape, nest}
use Rattle.gser_tree.specs.TextOf.{IsTextOf}
use Rattle.gser_tree.specs.Growing.{tree_of}
use Rattle.gser_tree.specs.Reading.{Found}
use Rattle.gser_tree.proofs.Theorems.{tree_of-IsTextOf, IsTextOf-tree_of}
use Rattle.subtree_spec.specs.declared.error.BadText.{BadText}
use Rattle.subtree_spec.specs.declared.error.BadText.TheVariants.{Text}
use Rattle.subtree_spec.specs.declared.spec.Spec.{Spec}
use Rattle.subtree_spec.specs.Subtrees.{Subtree, subtree_of}
use Rattle.subtree_spec.specs.SubtreeText.{subtree, SubText, unless_bad, judged, fault_of, read_subtree}

-- a value without a bad place
judged_ok : (found : Option (Found Subtree)) (spec : Subtree) → judged found ≡ Ok spec → found ≡ Some (record { value = spec; bad = None })
judged_ok None spec h = cc
judged_ok (Some found) spec h = inner found.bad refl h
  where
    inner : (bad : Option ℕ) → found.bad ≡ bad → unless_bad bad found.value ≡ Ok spec → Some found ≡ Some (record { value = spec; bad = None })
    inner (Some place) is h = cc
    inner None is h =
        let same : found.value ≡ spec = cc in
        ap (λ b. Some (record { value = found.value; bad = b })) is ∙ ap (λ v. Some (record { value = v; bad = None })) same

-- a text that reads as a specification
pub reads_as : (text : List ℕ) (spec : Subtree) → read_subtree text ≡ Ok spec → SubText spec text
unfolding read_subtree
reads_as text spec h = inner (tree_of text) refl (judged_ok (option_and_then (λ shape. subtree shape None) (tree_of text)) spec h)
  where
    inner : (found : Option Shape) → tree_of text ≡ found → option_and_then (λ shape. subtree shape None) found ≡ Some (record { value = spec; bad = None })
        → SubText spec text
    inner None is h = cc
    inner (Some shape) is h = record { shape = shape; written = tree_of-IsTextOf text shape is; reads = h }

-- what a call returned
pub read_text : (text : List ℕ) (result : Result Spec BadText) → Answers subtree_of fault_of result (read_subtree text)
    → IfOk result (λ spec. SubText (subtree_of spec) text)
read_text text (Ok spec) h = reads_as text (subtree_of spec) h
read_text text (Err fault) h = tt

-- the value that a text is written for decides
pub reads_shape : (text : List ℕ) (shape : Shape) → IsTextOf shape text → nest shape ≤ 100 → read_subtree text ≡ judged (subtree shape None)
unfolding read_subtree
reads_shape text shape written deep =
    ap (λ found. judged (option_and_then (λ shape. subtree shape None) found)) (IsTextOf-tree_of text shape written deep)

pub read_shape : (text : List ℕ) (result : Result Spec BadText) → Answers subtree_of fault_of result (read_subtree text)
    → (shape : Shape) → IsTextOf shape text → nest shape ≤ 100 → Answers subtree_of fault_of result (judged (subtree shape None))
read_shape text result h shape written deep =
    subst (λ (r : Result Subtree BadText). Answers subtree_of fault_of result r) (reads_shape text shape written deep) h

-- a text that is written for no value
reads_nothing : (text : List ℕ) → ((shape : Shape) → IsTextOf shape text → ⊥) → read_subtree text ≡ Err Text
unfolding read_subtree
reads_nothing text never = inner (tree_of text) refl
  where
    inner : (found : Option Shape) → tree_of text ≡ found → judged (option_and_then (λ shape. subtree shape None) found) ≡ Err Text
    inner None is = refl
    inner (Some shape) is = absurd (never shape (tree_of-IsTextOf text shape is))

pub read_nothing : (text : List ℕ) (result : Result Spec BadText) → Answers subtree_of fault_of result (read_subtree text)
    → ((shape : Shape) → IsTextOf shape text → ⊥) → Answers subtree_of fault_of result (Err Text)
read_nothing text result h never = subst (λ (r : Result Subtree BadText). Answers subtree_of fault_of result r) (reads_nothing text never) h
