-- What stands neither at nor below the superior that an entry leaves is apart from the entry as it was.
use Rattle.std.proofs.Common.{◌≡◌, ◌≢◌, inl, inr, ℕ, true, false, List, [], ◌∷◌, Option, Some, None, refl, sym, ap, subst, ◌∙◌, arith}
use Rattle.std.specs.Prelude.{is_some, unwrap_or}
use Rattle.std.specs.List.{AllByRecursion}
use Rattle.std.specs.Option.{option_and_then}
use Rattle.std.proofs.lemmas.Bool.{cases_eq, eq-eqb}
use Rattle.dir_tree.specs.dn_names.NameOrder.{is_same}
use Rattle.dir_tree.specs.Entry.{EntryInformation}
use Rattle.dir_tree.specs.tree.Trees.{has_below, named_in, superior_name}
use Rattle.dir_tree.specs.tree.Numbered.{Numbered, IsNumberedTree, entries_of, entry_of, find_name, suffix_of, superior_of, without}
use Rattle.dir_tree.specs.Scope.{is_within, scoped}
use Rattle.dir_tree.specs.declared.scope.Scope.TheVariants.{Sub}
use Rattle.dir_tree.proofs.TreeTheorems.{all_known_entry, all_under_suffix, entry_of-found, filled as name_filled, found_both, found_row, found_same, length-same, length-superior, outside, superior_of-others}
use Rattle.aci_index.proofs.laws.NumberLemmas.{entry_of-new}
use Rattle.aci_index.proofs.laws.RowLemmas.{change-taken}
use Rattle.aci_index.proofs.inserting.ReachLemmas.{IsApart, unreached-Sub}

-- all entries are at or below the suffix
within_suffix : (id : ℕ) (old : EntryInformation) (number : ℕ) (entry : EntryInformation) (rows : List Numbered) → IsNumberedTree rows → entry_of id rows ≡ Some old
    → suffix_of rows ≡ Some id → entry_of number rows ≡ Some entry → is_within old.name entry ≡ true
within_suffix id old number entry [] tree known is there = absurd cc
within_suffix id old number entry (first ∷ rows) tree known is there =
    let number_is : first.id ≡ id = cc in
    let same : first.entry ≡ old = ap (λ (row : Numbered). row.entry) (found_row id old first rows (eq-eqb first.id id number_is) known) in
    subst (λ (base : EntryInformation). is_within base.name entry ≡ true) same
    (all_known_entry (λ other. is_within first.entry.name other ≡ true) number entry (first ∷ rows) (all_under_suffix first.entry (entries_of rows) tree.tree) there)

module _ (id : ℕ) (old : EntryInformation) (rows new : List Numbered) (tree : IsNumberedTree rows) (known : entry_of id rows ≡ Some old) (others : without id rows ≡ without id new) where
  -- the superior has another number
  other_superior : (top : ℕ) (base : EntryInformation) → entry_of top rows ≡ Some base → is_same (superior_name old.name) base.name ≡ true → top ≢ id
  other_superior top base at same e =
      let both : Some base ≡ Some old = sym at ∙ ap (λ (n : ℕ). entry_of n rows) e ∙ known in
      let is : base ≡ old = cc in
      let itself : is_same (superior_name old.name) old.name ≡ true = ap (λ (x : EntryInformation). is_same (superior_name old.name) x.name) (sym is) ∙ same in
      let filled = all_known_entry (λ other. other.name ≢ []) id old rows tree.tree.named known in
      let alike = length-same (superior_name old.name) old.name itself in
      let less = length-superior old.name in
      let some = name_filled old.name filled in
      omega arith

  module _ (number : ℕ) (entry : EntryInformation) (there : entry_of number new ≡ Some entry) (differs : number ≢ id) (alone : has_below old.name (entries_of rows) ≡ false) (h : AllByRecursion (λ other. other ≢ number) (scoped Sub (unwrap_or (superior_of id rows) id) new)) where
    was : entry_of number rows ≡ Some entry
    was = sym (entry_of-new id number rows new others differs) ∙ there

    above : superior_of id rows ≡ find_name (superior_name old.name) rows
    above = ap (λ (o : Option EntryInformation). option_and_then (λ e. find_name (superior_name e.name) rows) o) known

    reached_at : (top : ℕ) → superior_of id rows ≡ Some top → AllByRecursion (λ other. other ≢ number) (scoped Sub top new)
    reached_at top e = subst (λ (found : Option ℕ). AllByRecursion (λ other. other ≢ number) (scoped Sub (unwrap_or found id) new)) e h

    -- it keeps its place
    found : (top : ℕ) → superior_of id rows ≡ Some top → (o : Option EntryInformation) → named_in (superior_name old.name) (entries_of rows) ≡ o → IsApart old entry
    found top e None f =
        let clash : true ≡ false = sym (ap is_some (sym above ∙ e)) ∙ found_both (superior_name old.name) rows ∙ ap is_some f in
        absurd cc
    found top e (Some base) f =
        let at : entry_of top rows ≡ Some base =
        sym (ap (option_and_then (λ n. entry_of n rows)) (sym above ∙ e)) ∙ entry_of-found (superior_name old.name) rows tree.distinct ∙ f in
        let same = found_same (superior_name old.name) base (entries_of rows) f in
        let stays : entry_of top new ≡ Some base = entry_of-new id top rows new others (other_superior top base at same) ∙ at in
        record { top = base.name; superior = same; outside = unreached-Sub top base number entry new stays there (reached_at top e) }

    -- of the suffix none is apart, and none is left where it goes
    whole : suffix_of rows ≡ Some id → IsApart old entry
    whole f =
        let left : entry_of number (without id rows) ≡ Some entry = entry_of-new id number rows (without id rows) (change-taken id old rows known).others differs ∙ was in
        let clash : true ≡ false = sym (within_suffix id old number entry rows tree known f was) ∙ outside id old rows tree known alone number entry left in
        absurd cc

    no_suffix : superior_of id rows ≡ None → suffix_of rows ≢ Some id → IsApart old entry
    no_suffix e f =
        let is = superior_of-others id old rows tree known f in
        let clash : true ≡ false = sym is ∙ ap is_some e in
        absurd cc

    first : superior_of id rows ≡ None → (o : Option ℕ) → suffix_of rows ≡ o → IsApart old entry
    first e None f = no_suffix e (λ g. let clash : None ≡ Some id = sym f ∙ g in absurd cc)
    first e (Some other) f = elim (cases_eq other id) [
      | inl g ↦ whole (f ∙ ap Some g)
      | inr g ↦ no_suffix e (λ k. g (let clash : Some other ≡ Some id = sym f ∙ k in cc))
    ]

    pub apart-left : IsApart old entry
    apart-left = by (superior_of id rows) refl
      where
        by : (o : Option ℕ) → superior_of id rows ≡ o → IsApart old entry
        by None e = first e (suffix_of rows) refl
        by (Some top) e = found top e (named_in (superior_name old.name) (entries_of rows)) refl
