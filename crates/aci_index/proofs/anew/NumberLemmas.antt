-- Numbers below a bound: of the entries that are reached, and of those after a change.
use Rattle.std.proofs.Common.{◌≡◌, inl, inr, ℕ, ◌<◌, ◌==◌, List, [], ◌∷◌, filter, subst, ap, sym, refl, Option, Some, None, ◌≤◌, arith}
use Rattle.std.specs.List.{AllByRecursion}
use Rattle.std.proofs.lemmas.Bool.{cases_Bool}
use Rattle.dir_tree.specs.Entry.{EntryInformation}
use Rattle.dir_tree.specs.tree.Trees.{is_before}
use Rattle.dir_tree.specs.tree.Numbered.{Numbered, ids_of, entry_of, put_row, without}
use Rattle.dir_tree.specs.Scope.{is_within, in_scope, scoped}
use Rattle.dir_tree.specs.declared.scope.Scope.TheVariants.{Sub}
use Rattle.dir_tree.proofs.TreeTheorems.{all_known}
use Rattle.aci_index.specs.Reach.{AreBelow}

pub below-more : (bound more : ℕ) (rows : List Numbered) → bound ≤ more → AreBelow bound rows → AreBelow more rows
below-more bound more [] e h = tt
below-more bound more (x ∷ rows) e h = (let less = h.0 in omega arith, below-more bound more rows e h.1)

below_kept : (bound : ℕ) (base : EntryInformation) (rows : List Numbered) → AreBelow bound rows → AllByRecursion (λ id. id < bound) (ids_of (filter (λ row. is_within base.name row.entry) rows))
below_kept bound base [] h = tt
below_kept bound base (x ∷ rows) h = elim (cases_Bool (is_within base.name x.entry)) [
  | inl e ↦ rw e (h.0, below_kept bound base rows h.1)
  | inr e ↦ rw e (below_kept bound base rows h.1)
]

-- so are those that a scope takes in
pub below-scoped : (bound top : ℕ) (rows : List Numbered) → AreBelow bound rows → AllByRecursion (λ id. id < bound) (scoped Sub top rows)
below-scoped bound top rows h = by (entry_of top rows) refl
  where
    by : (o : Option EntryInformation) → entry_of top rows ≡ o → AllByRecursion (λ id. id < bound) (scoped Sub top rows)
    by None e = subst (λ (ids : List ℕ). AllByRecursion (λ id. id < bound) ids) (sym (ap (λ o. in_scope Sub top o rows) e)) tt
    by (Some base) e = subst (λ (ids : List ℕ). AllByRecursion (λ id. id < bound) ids) (sym (ap (λ o. in_scope Sub top o rows) e)) (below_kept bound base rows h)

below_put : (bound : ℕ) (row : Numbered) (rows : List Numbered) → row.id < bound → AreBelow bound rows → AreBelow bound (put_row row rows)
below_put bound row [] e h = (e, tt)
below_put bound row (x ∷ rows) e h = elim (cases_Bool (is_before x.entry.name row.entry.name)) [
  | inl f ↦ rw f (h.0, below_put bound row rows e h.1)
  | inr f ↦ rw f (e, h)
]

below_without : (bound id : ℕ) (rows : List Numbered) → AreBelow bound rows → AreBelow bound (without id rows)
below_without bound id [] h = tt
below_without bound id (x ∷ rows) h = elim (cases_Bool (x.id == id)) [
  | inl e ↦ rw e (below_without bound id rows h.1)
  | inr e ↦ rw e (h.0, below_without bound id rows h.1)
]

-- and those after an entry took another's place
pub below-replaced : (bound id : ℕ) (old one : EntryInformation) (rows : List Numbered) → AreBelow bound rows → entry_of id rows ≡ Some old
    → AreBelow bound (put_row (record { id = id; entry = one }) (without id rows))
below-replaced bound id old one rows h known =
    below_put bound (record { id = id; entry = one }) (without id rows) (all_known (λ row. row.id < bound) id old rows h known) (below_without bound id rows h)
