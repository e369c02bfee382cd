-- The entries of numbers, and the first of all.
use Rattle.std.proofs.Common.{◌≡◌, ℕ, ◌==◌, ◌∙◌, sym, ap, subst, inl, inr, true, List, [], ◌∷◌, Option, Some, None, refl, find}
use Rattle.std.specs.Option.{option_map}
use Rattle.std.specs.declared.cmp.Ordering.TheVariants.{Less}
use Rattle.std.proofs.lemmas.Bool.{cases_Bool}
use Rattle.dir_tree.proofs.base_laws_proofs.Theorems.{find-map}
use Rattle.dir_tree.specs.dn_names.name.Names.{RdnSequence}
use Rattle.dir_tree.specs.dn_names.NameOrder.{name_cmp, is_same}
use Rattle.dir_tree.specs.Entry.{EntryInformation}
use Rattle.dir_tree.specs.Scope.{is_number}
use Rattle.dir_tree.specs.tree.Trees.{is_named}
use Rattle.dir_tree.specs.tree.Numbered.{Numbered, IsNumberedTree, entries_of, entry_of, find_name, suffix_of}
use Rattle.dir_tree.proofs.TreeTheorems.{named-found, found_row, found_later, all_known_entry, same_itself, not_same_back}
use Rattle.directory.specs.Targets.{is_suffix}

-- a number that is found is in use
pub in-use : (rows : List Numbered) → IsNumberedTree rows → (name : RdnSequence) (id : ℕ) → find_name name rows ≡ Some id → (entry : EntryInformation) × (entry_of id rows ≡ Some entry)
in-use rows tree name id e = by (find (λ row. is_named name row.entry) rows) refl
  where
    by : (found : Option Numbered) → find (λ row. is_named name row.entry) rows ≡ found → (entry : EntryInformation) × (entry_of id rows ≡ Some entry)
    by None f = (let lost : None ≡ Some id = sym (ap (option_map (λ (row : Numbered). row.id)) f) ∙ e in absurd cc)
    by (Some row) f = (
      row.entry,
      sym (named-found name rows tree.distinct id e) ∙ find-map (λ (row : Numbered). row.entry) (is_named name) rows ∙ ap (option_map (λ (row : Numbered). row.entry)) f,
    )

-- the first entry is the only one with its name
pub is_suffix-number : (id : ℕ) (entry : EntryInformation) (rows : List Numbered) → IsNumberedTree rows → entry_of id rows ≡ Some entry → is_suffix entry.name (entries_of rows) ≡ is_number id (suffix_of rows)
is_suffix-number id entry [] tree known = absurd cc
is_suffix-number id entry (row ∷ rows) tree known = elim (cases_Bool (row.id == id)) [
  | inl e ↦ (
      let same : row.entry ≡ entry = ap (λ (row : Numbered). row.entry) (found_row id entry row rows e known) in
      subst (λ (first : EntryInformation). is_same entry.name first.name ≡ true) (sym same) (same_itself entry.name) ∙ sym e)
  | inr e ↦ (
      let less = all_known_entry (λ later. name_cmp row.entry.name later.name ≡ Less) id entry rows tree.tree.sorted.0 (found_later id entry row rows e known) in
      not_same_back row.entry.name entry.name less ∙ sym e)
]
