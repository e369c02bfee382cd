-- What is kept without a number is kept of the entries without its entry.
use Rattle.std.proofs.Common.{◌≡◌, ◌⊎◌, inl, inr, ◌==◌, ℕ, true, false, not, List, [], ◌∷◌, map, filter, Option, Some, None, refl, sym, ap, subst, ◌∙◌}
use Rattle.std.specs.Prelude.{IsSome}
use Rattle.std.specs.List.{AllByRecursion}
use Rattle.std.specs.Option.{option_map, option_and_then}
use Rattle.std.proofs.lemmas.Bool.{cases_Bool, eqb-true, eqb-false}
use Rattle.dir_tree.specs.Entry.{EntryInformation}
use Rattle.dir_tree.specs.tree.Trees.{has_below, taken_out}
use Rattle.dir_tree.specs.tree.Numbered.{Numbered, IsNumberedTree, entries_of, entry_of, entries_at, without}
use Rattle.dir_tree.proofs.TreeTheorems.{entries_of-without, same_itself, entry_of-other, unlisted-without, number_left, other_name, outside}
use Rattle.acdf_filters.specs.subtree_spec.Subtrees.{subtree_of}
use Rattle.acdf_filters.specs.admin_scope.InForce.{subtree_of_entry, in_force}
use Rattle.acdf_filters.specs.admin_scope.declared.subtrees.AccessSubentry.{AccessSubentry}
use Rattle.acdf_filters.specs.admin_scope.Finding.{AreSubtrees, subtree_at}
use Rattle.acdf_filters.proofs.admin_scope_proofs.Theorems.{in_force-taken}
use Rattle.aci_lists.specs.declared.kept.Holdings.{Holdings}
use Rattle.aci_lists.specs.kept.Lists.{Lists, lists_at, AreOf}
use Rattle.aci_lists.specs.kept.Holdings.{IsHeld, without_number, without_subentry, IsForgotten}

-- a filter of subentries, seen through their numbers
subentries-filter : (number : ℕ) (list : List AccessSubentry) → map (λ one. one.number.0) (without_subentry number list) ≡ filter (λ id. not (id == number)) (map (λ one. one.number.0) list)
subentries-filter number [] = refl
subentries-filter number (one ∷ list) = elim (cases_Bool (one.number.0 == number)) [
  | inl e ↦ rw e (subentries-filter number list)
  | inr e ↦ rw e (ap (λ (ids : List ℕ). one.number.0 ∷ ids) (subentries-filter number list))
]

module _ (number : ℕ) (old : EntryInformation) (rows : List Numbered) (tree : IsNumberedTree rows) (known : entry_of number rows ≡ Some old) where
  left_entries : entries_of (without number rows) ≡ taken_out old.name (entries_of rows)
  left_entries = entries_of-without number old rows tree known

  -- the entries of the numbers that are left
  entries_at-left : (ids : List ℕ) → entries_at (without number rows) (filter (λ id. not (id == number)) ids) ≡ taken_out old.name (entries_at rows ids)
  entries_at-left [] = refl
  entries_at-left (id ∷ ids) = by (cases_Bool (id == number)) (entries_at-left ids)
    where
      Later : Type 0
      Later = entries_at (without number rows) (filter (λ id. not (id == number)) ids) ≡ taken_out old.name (entries_at rows ids)

      Goal : Type 0
      Goal = entries_at (without number rows) (filter (λ id. not (id == number)) (id ∷ ids)) ≡ taken_out old.name (entries_at rows (id ∷ ids))

      at : (o : Option EntryInformation) → (id == number) ≡ false → entry_of id rows ≡ o → entry_of id (without number rows) ≡ o → Later → Goal
      at None e was there later = rw (e, there, was) later
      at (Some entry) e was there later =
          let differs = other_name number old rows tree known id entry there in
          rw (e, there, was, differs) (ap (λ (xs : List EntryInformation). entry ∷ xs) later)

      by : (((id == number) ≡ true) ⊎ ((id == number) ≡ false)) → Later → Goal
      by (inl e) later =
          let was : entry_of id rows ≡ Some old = ap (λ n. entry_of n rows) (eqb-true id number e) ∙ known in
          let itself = same_itself old.name in
          rw (e, was, itself) later
      by (inr e) later = at (entry_of id rows) e refl (entry_of-other id number rows (eqb-false id number e)) later

  live-left : (ids : List ℕ) → AllByRecursion (λ id. IsSome (entry_of id rows)) ids → AllByRecursion (λ id. IsSome (entry_of id (without number rows))) (filter (λ id. not (id == number)) ids)
  live-left [] h = tt
  live-left (id ∷ ids) h = by (cases_Bool (id == number)) (live-left ids h.1)
    where
      Later : Type 0
      Later = AllByRecursion (λ id. IsSome (entry_of id (without number rows))) (filter (λ id. not (id == number)) ids)

      by : (((id == number) ≡ true) ⊎ ((id == number) ≡ false)) → Later → AllByRecursion (λ id. IsSome (entry_of id (without number rows))) (filter (λ id. not (id == number)) (id ∷ ids))
      by (inl e) later = rw e later
      by (inr e) later = rw e (subst (λ (o : Option EntryInformation). IsSome o) (sym (entry_of-other id number rows (eqb-false id number e))) h.0, later)

  -- the lists of an entry that is left
  lists-left : has_below old.name (entries_of rows) ≡ false → (id : ℕ) (entry : EntryInformation) (lists : Lists) → entry_of id (without number rows) ≡ Some entry → AreOf rows entry lists → AreOf (without number rows) entry (without_number number lists)
  lists-left alone id entry lists there are = record {
    in_force =
        entries_at-left lists.in_force
        ∙ ap (taken_out old.name) are.in_force
        ∙ sym (in_force-taken old.name (entries_of rows) entry (outside number old rows tree known alone id entry there))
        ∙ ap (λ entries. in_force entries entry) (sym left_entries);
    live = live-left lists.in_force are.live;
    prescriptive = are.prescriptive;
    own = are.own;
    below = are.below;
  }

  -- the subtrees that are left
  subtrees-left : (list : List AccessSubentry) → AllByRecursion (λ one. option_map subtree_of one.subtree ≡ subtree_at one.number.0 rows) list → AllByRecursion (λ one. option_map subtree_of one.subtree ≡ subtree_at one.number.0 (without number rows)) (without_subentry number list)
  subtrees-left [] h = tt
  subtrees-left (one ∷ list) h = by (cases_Bool (one.number.0 == number)) (subtrees-left list h.1)
    where
      Later : Type 0
      Later = AllByRecursion (λ one. option_map subtree_of one.subtree ≡ subtree_at one.number.0 (without number rows)) (without_subentry number list)

      by : (((one.number.0 == number) ≡ true) ⊎ ((one.number.0 == number) ≡ false)) → Later → AllByRecursion (λ one. option_map subtree_of one.subtree ≡ subtree_at one.number.0 (without number rows)) (without_subentry number (one ∷ list))
      by (inl e) later = rw e later
      by (inr e) later = rw e (h.0 ∙ ap (option_and_then subtree_of_entry) (sym (entry_of-other one.number.0 number rows (eqb-false one.number.0 number e))), later)

  -- all that is kept
  pub held-without : has_below old.name (entries_of rows) ≡ false → (one other : Holdings) → IsHeld one rows → IsForgotten number one other → IsHeld other (without number rows)
  held-without alone one other held forgotten = record {
    subtrees =
        subst (λ (list : List AccessSubentry). AreSubtrees list (without number rows)) (sym forgotten.subtrees) (record {
          numbers =
              subentries-filter number one.subtrees.items
              ∙ ap (filter (λ id. not (id == number))) held.subtrees.numbers
              ∙ unlisted-without number rows;
          subtrees = subtrees-left one.subtrees.items held.subtrees.subtrees;
        });
    lists = λ id entry there.
        let differs = number_left id number entry rows there in
        let was : entry_of id rows ≡ Some entry = sym (entry_of-other id number rows differs) ∙ there in
        subst (AreOf (without number rows) entry) (sym (forgotten.lists id differs))
        (lists-left alone id entry (lists_at one.lists.items id) there (held.lists id entry was));
  }
