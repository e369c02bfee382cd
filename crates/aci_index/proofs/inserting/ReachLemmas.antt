-- The entries that a write does not reach are neither at nor below the top of what it reaches.
use Rattle.std.proofs.Common.{◌≡◌, ◌≢◌, ◌⊎◌, inl, inr, ℕ, ◌==◌, true, false, List, [], ◌∷◌, filter, Option, Some, None, refl, sym, ap, subst, ◌∙◌}
use Rattle.std.specs.Prelude.{is_some, unwrap_or}
use Rattle.std.specs.List.{AllByRecursion}
use Rattle.std.specs.Option.{option_and_then}
use Rattle.std.proofs.lemmas.Bool.{cases_Bool, cond-true, cond-false, eqb-true, cases_eq}
use Rattle.dir_tree.specs.dn_names.name.Names.{RdnSequence}
use Rattle.dir_tree.specs.dn_names.NameOrder.{is_same}
use Rattle.dir_tree.specs.Entry.{EntryInformation}
use Rattle.dir_tree.specs.tree.Trees.{named_in, superior_name}
use Rattle.dir_tree.specs.tree.Numbered.{Numbered, IsNumberedTree, ids_of, entries_of, find_name, entry_of, suffix_of, superior_of}
use Rattle.dir_tree.specs.Scope.{is_within, in_scope, scoped}
use Rattle.dir_tree.specs.declared.scope.Scope.TheVariants.{Sub}
use Rattle.dir_tree.proofs.TreeTheorems.{entry_of-found, superior_of-others, scoped-Sub, found_same, found_both, found_row, found_later}

-- a number in use is among the numbers
used_among : (number : ℕ) (entry : EntryInformation) (rows : List Numbered) → entry_of number rows ≡ Some entry → AllByRecursion (λ id. id ≢ number) (ids_of rows) → ⊥
used_among number entry [] known h = absurd cc
used_among number entry (x ∷ rows) known h = elim (cases_Bool (x.id == number)) [
  | inl e ↦ h.0 (eqb-true x.id number e)
  | inr e ↦ used_among number entry rows (found_later number entry x rows e known) h.1
]

-- an entry whose number is not among those at and below a name is neither at nor below it
pub unreached : (base : RdnSequence) (number : ℕ) (entry : EntryInformation) (rows : List Numbered) → entry_of number rows ≡ Some entry
    → AllByRecursion (λ id. id ≢ number) (ids_of (filter (λ row. is_within base row.entry) rows)) → is_within base entry ≡ false
unreached base number entry [] known h = absurd cc
unreached base number entry (x ∷ rows) known h = by (cases_Bool (x.id == number)) (cases_Bool (is_within base x.entry)) (unreached base number entry rows)
  where
    Others : List Numbered → Type 0
    Others kept = AllByRecursion (λ id. id ≢ number) (ids_of kept)

    kept_here : is_within base x.entry ≡ true → Others (x ∷ filter (λ row. is_within base row.entry) rows)
    kept_here f = subst Others (cond-true (is_within base x.entry) (x ∷ filter (λ row. is_within base row.entry) rows) (filter (λ row. is_within base row.entry) rows) f) h

    kept_later : is_within base x.entry ≡ false → Others (filter (λ row. is_within base row.entry) rows)
    kept_later f = subst Others (cond-false (is_within base x.entry) (x ∷ filter (λ row. is_within base row.entry) rows) (filter (λ row. is_within base row.entry) rows) f) h

    by : (((x.id == number) ≡ true) ⊎ ((x.id == number) ≡ false)) → ((is_within base x.entry ≡ true) ⊎ (is_within base x.entry ≡ false))
        → (entry_of number rows ≡ Some entry → Others (filter (λ row. is_within base row.entry) rows) → is_within base entry ≡ false) → is_within base entry ≡ false
    by (inl e) (inl f) later = absurd ((kept_here f).0 (eqb-true x.id number e))
    by (inl e) (inr f) later = ap (λ (row : Numbered). is_within base row.entry) (sym (found_row number entry x rows e known)) ∙ f
    by (inr e) (inl f) later = later (found_later number entry x rows e known) (kept_here f).1
    by (inr e) (inr f) later = later (found_later number entry x rows e known) (kept_later f)

-- so of the entry of a number
pub unreached-Sub : (top : ℕ) (base : EntryInformation) (number : ℕ) (entry : EntryInformation) (rows : List Numbered) → entry_of top rows ≡ Some base → entry_of number rows ≡ Some entry
    → AllByRecursion (λ id. id ≢ number) (scoped Sub top rows) → is_within base.name entry ≡ false
unreached-Sub top base number entry rows at known h =
    unreached base.name number entry rows known
    (subst (λ (ids : List ℕ). AllByRecursion (λ id. id ≢ number) ids) (ap (λ o. in_scope Sub top o rows) at) h)

-- a name that the superior of the one has, and that the entry is neither at nor below
pub record IsApart (one entry : EntryInformation) : Type 0 where
  pub top : RdnSequence
  pub superior : is_same (superior_name one.name) top ≡ true
  pub outside : is_within top entry ≡ false

-- what is not at or below the superior of an entry, or the entry itself where it has none, is apart from the entry
pub unreached-around : (id : ℕ) (one : EntryInformation) (number : ℕ) (entry : EntryInformation) (rows : List Numbered) → IsNumberedTree rows → entry_of id rows ≡ Some one
    → entry_of number rows ≡ Some entry → AllByRecursion (λ other. other ≢ number) (scoped Sub (unwrap_or (superior_of id rows) id) rows) → IsApart one entry
unreached-around id one number entry rows tree known there h = by (superior_of id rows) refl
  where
    name : RdnSequence
    name = superior_name one.name

    above : superior_of id rows ≡ find_name (superior_name one.name) rows
    above = ap (λ (o : Option EntryInformation). option_and_then (λ e. find_name (superior_name e.name) rows) o) known

    reached_at : (o : Option ℕ) → superior_of id rows ≡ o → AllByRecursion (λ other. other ≢ number) (scoped Sub (unwrap_or o id) rows)
    reached_at o e = subst (λ (found : Option ℕ). AllByRecursion (λ other. other ≢ number) (scoped Sub (unwrap_or found id) rows)) e h

    found : (top : ℕ) → superior_of id rows ≡ Some top → (o : Option EntryInformation) → named_in (superior_name one.name) (entries_of rows) ≡ o → IsApart one entry
    found top e None f =
        let clash : true ≡ false = sym (ap is_some (sym above ∙ e)) ∙ found_both (superior_name one.name) rows ∙ ap is_some f in
        absurd cc
    found top e (Some base) f =
        let at : entry_of top rows ≡ Some base =
        sym (ap (option_and_then (λ n. entry_of n rows)) (sym above ∙ e)) ∙ entry_of-found (superior_name one.name) rows tree.distinct ∙ f in
        record {
          top = base.name;
          superior = found_same (superior_name one.name) base (entries_of rows) f;
          outside = unreached-Sub top base number entry rows at there (reached_at (Some top) e);
        }

    whole : superior_of id rows ≡ None → suffix_of rows ≡ Some id → IsApart one entry
    whole e f =
        absurd (used_among number entry rows there
        (subst (λ (ids : List ℕ). AllByRecursion (λ other. other ≢ number) ids) (scoped-Sub id rows tree f) (reached_at None e)))

    alone : superior_of id rows ≡ None → suffix_of rows ≢ Some id → IsApart one entry
    alone e f =
        let is = superior_of-others id one rows tree known f in
        let clash : true ≡ false = sym is ∙ ap is_some e in
        absurd cc

    first : superior_of id rows ≡ None → (o : Option ℕ) → suffix_of rows ≡ o → IsApart one entry
    first e None f = alone e (λ g. let clash : None ≡ Some id = sym f ∙ g in absurd cc)
    first e (Some other) f = elim (cases_eq other id) [
      | inl g ↦ whole e (f ∙ ap Some g)
      | inr g ↦ alone e (λ k. g (let clash : Some other ≡ Some id = sym f ∙ k in cc))
    ]

    by : (o : Option ℕ) → superior_of id rows ≡ o → IsApart one entry
    by None e = first e (suffix_of rows) refl
    by (Some top) e = found top e (named_in (superior_name one.name) (entries_of rows)) refl
