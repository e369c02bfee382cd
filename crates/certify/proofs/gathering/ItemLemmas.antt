-- The items that a program reads are those whose tuples count.
use Rattle.std.proofs.Common.{◌≡◌, ℕ, true, false, List, [], ◌++◌, Option, Some, None, refl, sym, ap, ◌∙◌}
use Rattle.std.specs.Prelude.{flat_map}
use Rattle.std.specs.Option.{option_map_or, option_and_then}
use Rattle.std.proofs.lemmas.Bool.{cond-true, cond-false}
use Rattle.dir_tree.specs.Entry.{EntryInformation}
use Rattle.dir_tree.specs.Points.{is_subentry}
use Rattle.dir_tree.specs.tree.Trees.{superior_name, named_in}
use Rattle.dir_tree.specs.tree.Numbered.{Numbered, IsNumberedTree, entry_of, entries_of, entries_at, find_name, superior_of}
use Rattle.dir_tree.proofs.TreeTheorems.{entry_of-found}
use Rattle.acdf_filters.specs.admin_scope.InForce.{in_force}
use Rattle.acdf_filters.specs.Tuples.{items_in, prescriptive_aci, entry_aci, subentry_aci}
use Rattle.certify.specs.Making.{items_at, inherited_items, counting_items}
use Rattle.certify.proofs.ListLemmas.{flat_map-at}

-- an ordinary entry has those of the subentries in force
pub items-ordinary : (rows : List Numbered) (entry : EntryInformation) (ids : List ℕ) → is_subentry entry ≡ false
    → entries_at rows ids ≡ in_force (entries_of rows) entry
    → flat_map (items_at rows prescriptive_aci) ids ≡ inherited_items (entries_of rows) entry
items-ordinary rows entry ids ordinary found =
    flat_map-at (λ id. entry_of id rows) (items_in prescriptive_aci) ids
    ∙ ap (flat_map (items_in prescriptive_aci)) found
    ∙ sym (cond-false (is_subentry entry) (option_map_or (items_in subentry_aci) (named_in (superior_name entry.name) (entries_of rows)) [])
    (flat_map (items_in prescriptive_aci) (in_force (entries_of rows) entry)) ordinary)

-- a subentry has those of the entry above it
pub items-subentry : (rows : List Numbered) (entry : EntryInformation) (id : ℕ) → IsNumberedTree rows → is_subentry entry ≡ true → entry_of id rows ≡ Some entry
    → option_map_or (items_at rows subentry_aci) (superior_of id rows) [] ≡ inherited_items (entries_of rows) entry
items-subentry rows entry id tree subentry known =
    let above : superior_of id rows ≡ find_name (superior_name entry.name) rows =
    ap (λ (o : Option EntryInformation). option_and_then (λ e. find_name (superior_name e.name) rows) o) known in
    ap (λ (o : Option ℕ). option_map_or (items_at rows subentry_aci) o []) above
    ∙ through (find_name (superior_name entry.name) rows)
    ∙ ap (λ (o : Option EntryInformation). option_map_or (items_in subentry_aci) o []) (entry_of-found (superior_name entry.name) rows tree.distinct)
    ∙ sym (cond-true (is_subentry entry) (option_map_or (items_in subentry_aci) (named_in (superior_name entry.name) (entries_of rows)) [])
    (flat_map (items_in prescriptive_aci) (in_force (entries_of rows) entry)) subentry)
  where
    through : (o : Option ℕ)
        → option_map_or (items_at rows subentry_aci) o [] ≡ option_map_or (items_in subentry_aci) (option_and_then (λ n. entry_of n rows) o) []
    through None = refl
    through (Some n) = refl

-- and each its own
pub items-own : (rows : List Numbered) (entry : EntryInformation) (id : ℕ) → entry_of id rows ≡ Some entry
    → inherited_items (entries_of rows) entry ++ items_at rows entry_aci id ≡ counting_items (entries_of rows) entry
items-own rows entry id known =
    ap (λ (o : Option EntryInformation). inherited_items (entries_of rows) entry ++ option_map_or (items_in entry_aci) o []) known
