-- What stands immediately below the entry whose place is taken.
use Rattle.std.proofs.Common.{◌≡◌, ℕ, ◌+◌, ◌==◌, Bool, true, false, not, ◌&&◌, ◌||◌, List, [], ◌∷◌, length, Option, Some, None, refl, sym, ap, ◌∙◌, inl, inr, arith}
use Rattle.std.specs.List.{list_any}
use Rattle.std.proofs.lemmas.Bool.{cases_Bool}
use Rattle.std.proofs.lemmas.Bool.Decides.{nat_tests}
use Rattle.dir_tree.specs.dn_names.NameOrder.{is_prefix_of}
use Rattle.dir_tree.specs.Entry.{EntryInformation}
use Rattle.dir_tree.specs.Points.{is_point, is_subentry}
use Rattle.dir_tree.specs.tree.Numbered.{Numbered, IsNumberedTree, entries_of, entry_of, without}
use Rattle.dir_tree.specs.Scope.{is_child, scoped}
use Rattle.dir_tree.specs.declared.scope.Scope.TheVariants.{One}
use Rattle.dir_tree.proofs.TreeTheorems.{scoped-One-entries, any_beside}
use Rattle.aci_item.specs.Rules.{stands_wrong_above}
use Rattle.schema_rules.specs.Beside.{stands_wrong_below, takes_all_below, is_wrong_below}
use Rattle.schema_rules.proofs.values.ListLemmas.{list_any-filter, list_any-filter_map}

-- no entry stands immediately below itself
no_child_of_itself : (entry : EntryInformation) (test : Bool) → (is_child entry.name entry && test) ≡ false
no_child_of_itself entry test =
    let longer : (length entry.name == length entry.name + 1) ≡ false = grind (arith, nat_tests) in
    rw longer (none (is_prefix_of entry.name entry.name))
  where
    none : (b : Bool) → ((b && false) && test) ≡ false
    none true = refl
    none false = refl

-- the walk finds those of the entries beside it
wrong_above_old :
    (entry : EntryInformation) (id : ℕ) (rows : List Numbered) → IsNumberedTree rows → (old : EntryInformation)
    → entry_of id rows ≡ Some old
    → list_any (is_wrong_below entry rows) (scoped One id rows) ≡ stands_wrong_above (Some old) (entries_of (without id rows)) entry
wrong_above_old entry id rows tree old known =
    sym (list_any-filter_map (stands_wrong_below entry) (λ id. entry_of id rows) (scoped One id rows))
    ∙ ap (list_any (stands_wrong_below entry)) (scoped-One-entries id old rows tree known)
    ∙ list_any-filter (stands_wrong_below entry) (is_child old.name) (entries_of rows)
    ∙ any_beside (λ other. is_child old.name other && stands_wrong_below entry other) id old rows tree.distinct known
    (no_child_of_itself old (stands_wrong_below entry old))

found_above :
    (entry : EntryInformation) (id : ℕ) (rows : List Numbered) → IsNumberedTree rows → (found : Option EntryInformation)
    → entry_of id rows ≡ found
    → list_any (is_wrong_below entry rows) (scoped One id rows) ≡ stands_wrong_above found (entries_of (without id rows)) entry
found_above entry id rows tree None none = rw none refl
found_above entry id rows tree (Some old) known = wrong_above_old entry id rows tree old known

-- below a point that is no subentry any may stand
none_wrong :
    (entry : EntryInformation) (old : Option EntryInformation) (others : List EntryInformation) → takes_all_below entry ≡ true
    → stands_wrong_above old others entry ≡ false
none_wrong entry None others takes = refl
none_wrong entry (Some old) others takes = all others
  where
    each : (point sub child other : Bool) → (point && not sub) ≡ true → (child && (sub || other && not point)) ≡ false
    each true false true true takes = refl
    each true false true false takes = refl
    each true false false other takes = refl
    each true true child other takes = absurd cc
    each false sub child other takes = absurd cc

    all :
        (others : List EntryInformation)
        → list_any (λ other. is_child old.name other && (is_subentry entry || is_subentry other && not (is_point entry))) others ≡ false
    all [] = refl
    all (other ∷ others) =
        rw (each (is_point entry) (is_subentry entry) (is_child old.name other) (is_subentry other) takes) (all others)

-- so there is no need to look at those below such a one
pub wrong_above :
    (entry : EntryInformation) (id : ℕ) (rows : List Numbered) → IsNumberedTree rows
    → (not (takes_all_below entry) && list_any (is_wrong_below entry rows) (scoped One id rows))
    ≡ stands_wrong_above (entry_of id rows) (entries_of (without id rows)) entry
wrong_above entry id rows tree = elim (cases_Bool (takes_all_below entry)) [
  | inl takes ↦ rw takes (sym (none_wrong entry (entry_of id rows) (entries_of (without id rows)) takes))
  | inr other ↦ rw other (found_above entry id rows tree (entry_of id rows) refl)
]
