-- The tuples of an entry, item by item.
use Rattle.std.proofs.Common.{◌≡◌, ℕ, Bool, true, false, List, [], ◌++◌, map, Option, Some, None, refl, sym, ap, ◌∙◌}
use Rattle.std.specs.Prelude.{flat_map, if◌then◌else◌}
use Rattle.std.specs.Option.{option_map_or}
use Rattle.std.proofs.lemmas.Grind.{flat_map-append}
use Rattle.std.proofs.lemmas.List.{map-append}
use Rattle.dir_tree.specs.dn_names.name.Names.{RdnSequence}
use Rattle.dir_tree.specs.Entry.{EntryInformation}
use Rattle.dir_tree.specs.Points.{is_subentry}
use Rattle.dir_tree.specs.tree.Trees.{superior_name, named_in}
use Rattle.acdf_filters.specs.admin_scope.InForce.{in_force}
use Rattle.acdf_filters.specs.aci_item.AciTuples.{AciTuple}
use Rattle.acdf_filters.specs.Tuples.{TaggedTuples, Listed, items_in, listed_by, listed_in, inherited, tuples_of, prescriptive_aci, entry_aci, subentry_aci}
use Rattle.certify.specs.Making.{inherited_items, counting_items, tuples_in}
use Rattle.certify.proofs.ListLemmas.{map-both, map-itself, flat_map-agree, map-flat_map, flat_map-both}

-- something said of each tuple with its item's tag
abbrev pub said_by : {B : Type 0} → (List ℕ → AciTuple → B) → TaggedTuples → List B
said_by say item = map (say item.tag) item.tuples

-- the same of a tuple that is listed
abbrev pub said_of : {B : Type 0} → (List ℕ → AciTuple → B) → Listed → B
said_of say x = say x.tag x.tuple

-- of an item
said-item : {B : Type 0} (say : List ℕ → AciTuple → B) (source : RdnSequence) (item : TaggedTuples)
    → said_by say item ≡ map (said_of say) (listed_by source item)
said-item say source item =
    sym (map-both (λ (tuple : AciTuple). record { source = source; tag = item.tag; tuple = tuple }) (said_of say) item.tuples)

-- of an entry's values of a type
said-kind : {B : Type 0} (say : List ℕ → AciTuple → B) (kind : ℕ) (entry : EntryInformation)
    → flat_map (said_by say) (items_in kind entry) ≡ map (said_of say) (listed_in kind entry)
said-kind say kind entry =
    flat_map-agree (said_by say) (λ item. map (said_of say) (listed_by entry.name item)) (said-item say entry.name) (items_in kind entry)
    ∙ sym (map-flat_map (said_of say) (listed_by entry.name) (items_in kind entry))

-- of those that an entry has from others
said-inherited : {B : Type 0} (say : List ℕ → AciTuple → B) (entries : List EntryInformation) (entry : EntryInformation)
    → flat_map (said_by say) (inherited_items entries entry) ≡ map (said_of say) (inherited entries entry)
unfolding inherited
said-inherited {B = B} say entries entry = by (is_subentry entry)
  where
    above : (o : Option EntryInformation)
        → flat_map (said_by say) (option_map_or (items_in subentry_aci) o []) ≡ map (said_of say) (option_map_or (listed_in subentry_aci) o [])
    above None = refl
    above (Some e) = said-kind say subentry_aci e

    by : (subentry : Bool)
        → flat_map (said_by say) (if subentry then option_map_or (items_in subentry_aci) (named_in (superior_name entry.name) entries) []
        else flat_map (items_in prescriptive_aci) (in_force entries entry))
        ≡ map (said_of say) (if subentry then option_map_or (listed_in subentry_aci) (named_in (superior_name entry.name) entries) []
        else flat_map (listed_in prescriptive_aci) (in_force entries entry))
    by true = above (named_in (superior_name entry.name) entries)
    by false =
        flat_map-both (said_by say) (items_in prescriptive_aci) (in_force entries entry)
        ∙ flat_map-agree (λ e. flat_map (said_by say) (items_in prescriptive_aci e)) (λ e. map (said_of say) (listed_in prescriptive_aci e))
        (said-kind say prescriptive_aci) (in_force entries entry)
        ∙ sym (map-flat_map (said_of say) (listed_in prescriptive_aci) (in_force entries entry))

-- of all that count for it
pub said-tuples : {B : Type 0} (say : List ℕ → AciTuple → B) (entries : List EntryInformation) (entry : EntryInformation)
    → flat_map (said_by say) (counting_items entries entry) ≡ map (said_of say) (tuples_of entries entry)
unfolding tuples_of
said-tuples {B = B} say entries entry =
    flat_map-append (said_by say) (inherited_items entries entry) (items_in entry_aci entry)
    ∙ ap (λ (xs : List B). xs ++ flat_map (said_by say) (items_in entry_aci entry)) (said-inherited say entries entry)
    ∙ ap (λ (xs : List B). map (said_of say) (inherited entries entry) ++ xs) (said-kind say entry_aci entry)
    ∙ sym (map-append (said_of say) (inherited entries entry) (listed_in entry_aci entry))

-- the tuples alone
pub tuples_in-counting : (entries : List EntryInformation) (entry : EntryInformation)
    → tuples_in (counting_items entries entry) ≡ map (λ x. x.tuple) (tuples_of entries entry)
tuples_in-counting entries entry =
    flat_map-agree (λ item. item.tuples) (said_by (λ (_ : List ℕ) (tuple : AciTuple). tuple)) (λ item. sym (map-itself item.tuples)) (counting_items entries entry)
    ∙ said-tuples (λ (_ : List ℕ) (tuple : AciTuple). tuple) entries entry
