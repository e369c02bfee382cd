-- What was read of a text is what it is written for.
use Rattle.std.proofs.Common.{◌≡◌, ◌≤◌, ℕ, List, refl, ap, ◌∙◌, subst}
use Rattle.std.specs.Prelude.{Option, Some, None, option_and_then, Result, Ok, Err, IfOk}
use Rattle.dir_tree.specs.plain_values.Answers.{Answers}
use Rattle.gser_tree.specs.looking.Shapes.{Shape, nest}
use Rattle.gser_tree.specs.TextOf.{IsTextOf}
use Rattle.gser_tree.specs.Growing.{tree_of}
use Rattle.gser_tree.specs.Reading.{Found}
use Rattle.gser_tree.proofs.Theorems.{tree_of-IsTextOf, IsTextOf-tree_of}
use Rattle.subtree_spec.specs.declared.error.BadText.{BadText}
use Rattle.subtree_spec.specs.declared.error.BadText.TheVariants.{Text}
use Rattle.aci_item.specs.declared.item.AciItem.{AciItem}
use Rattle.aci_item.specs.item.Items.{Item}
use Rattle.aci_item.specs.item.Views.{item_of_code}
use Rattle.subtree_spec.specs.SubtreeText.{unless_bad, judged, fault_of}
use Rattle.aci_item.specs.AciText.{aci_item, AciText, read_item}

-- a value without a bad place
judged_ok : (found : Option (Found Item)) (item : Item) → judged found ≡ Ok item → found ≡ Some (record { value = item; bad = None })
judged_ok None item h = cc
judged_ok (Some found) item h = inner found.bad refl h
  where
    inner : (bad : Option ℕ) → found.bad ≡ bad → unless_bad bad found.value ≡ Ok item → Some found ≡ Some (record { value = item; bad = None })
    inner (Some place) is h = cc
    inner None is h =
        let same : found.value ≡ item = cc in
        ap (λ b. Some (record { value = found.value; bad = b })) is ∙ ap (λ v. Some (record { value = v; bad = None })) same

-- a text that reads as a itemification
pub reads_as : (text : List ℕ) (item : Item) → read_item text ≡ Ok item → AciText item text
unfolding read_item
reads_as text item h = inner (tree_of text) refl (judged_ok (option_and_then (λ shape. aci_item shape None) (tree_of text)) item h)
  where
    inner : (found : Option Shape) → tree_of text ≡ found → option_and_then (λ shape. aci_item shape None) found ≡ Some (record { value = item; bad = None })
        → AciText item text
    inner None is h = cc
    inner (Some shape) is h = record { shape = shape; written = tree_of-IsTextOf text shape is; reads = h }

-- what a call returned
pub read_text : (text : List ℕ) (result : Result AciItem BadText) → Answers item_of_code fault_of result (read_item text)
    → IfOk result (λ item. AciText (item_of_code item) text)
read_text text (Ok item) h = reads_as text (item_of_code item) h
read_text text (Err fault) h = tt

-- the value that a text is written for decides
pub reads_shape : (text : List ℕ) (shape : Shape) → IsTextOf shape text → nest shape ≤ 100 → read_item text ≡ judged (aci_item shape None)
unfolding read_item
reads_shape text shape written deep =
    ap (λ found. judged (option_and_then (λ shape. aci_item shape None) found)) (IsTextOf-tree_of text shape written deep)

pub read_shape : (text : List ℕ) (result : Result AciItem BadText) → Answers item_of_code fault_of result (read_item text)
    → (shape : Shape) → IsTextOf shape text → nest shape ≤ 100 → Answers item_of_code fault_of result (judged (aci_item shape None))
read_shape text result h shape written deep =
    subst (λ (r : Result Item BadText). Answers item_of_code fault_of result r) (reads_shape text shape written deep) h

-- a text that is written for no value
reads_nothing : (text : List ℕ) → ((shape : Shape) → IsTextOf shape text → ⊥) → read_item text ≡ Err Text
unfolding read_item
reads_nothing text never = inner (tree_of text) refl
  where
    inner : (found : Option Shape) → tree_of text ≡ found → judged (option_and_then (λ shape. aci_item shape None) found) ≡ Err Text
    inner None is = refl
    inner (Some shape) is = absurd (never shape (tree_of-IsTextOf text shape is))

pub read_nothing : (text : List ℕ) (result : Result AciItem BadText) → Answers item_of_code fault_of result (read_item text)
    → ((shape : Shape) → IsTextOf shape text → ⊥) → Answers item_of_code fault_of result (Err Text)
read_nothing text result h never = subst (λ (r : Result Item BadText). Answers item_of_code fault_of result r) (reads_nothing text never) h
