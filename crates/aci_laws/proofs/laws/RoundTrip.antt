-- A good item is read again from its printed form.
use Rattle.std.proofs.Common.{◌≡◌, ℕ, List, ap, ◌∙◌, arith}
use Rattle.std.specs.Prelude.{None, Ok}
use Rattle.gser_tree.specs.Writing.{text_of}
use Rattle.gser_tree.proofs.Theorems.{IsRead, IsTextOf-written}
use Rattle.subtree_spec.specs.SubtreeText.{judged}
use Rattle.aci_item.specs.AciText.{AciText, aci_item, read_item}
use Rattle.aci_laws.specs.GoodItems.{IsGoodItem}
use Rattle.aci_item.specs.ItemPrinted.{print_item}
use Rattle.aci_item.specs.item.Items.{Item}
use Rattle.aci_laws.proofs.laws.ItemOnly.{item_is_good}
use Rattle.aci_laws.proofs.laws.ItemPrints.{item_prints}
use Rattle.aci_item.proofs.Theorems.{reads_shape}
use Rattle.aci_laws.proofs.laws.WrittenTexts.{HasTexts-from_IsTextOf}

pub AciText-print_item : (item : Item) → IsGoodItem item → AciText item (text_of (print_item item))
AciText-print_item item good =
    let found = IsTextOf-written 71 (IsRead aci_item item) (print_item item) (item_prints item good) in
    record { shape = found.0; written = found.1; reads = found.3 None }

pub read_item-print_item : (item : Item) → IsGoodItem item → read_item (text_of (print_item item)) ≡ Ok item
read_item-print_item item good =
    let found = IsTextOf-written 71 (IsRead aci_item item) (print_item item) (item_prints item good) in
    reads_shape (text_of (print_item item)) found.0 found.1 (omega (arith, found.2)) ∙ ap judged (found.3 None)

-- what a text gives is good
pub IsGoodItem-from_AciText : (item : Item) (text : List ℕ) → AciText item text → IsGoodItem item
IsGoodItem-from_AciText item text given =
    (item_is_good given.shape None item given.reads).1 (HasTexts-from_IsTextOf given.shape text given.written)
