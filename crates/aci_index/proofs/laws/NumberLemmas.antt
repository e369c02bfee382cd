-- Lists of numbers of subentries in force stay right for an entry, where what changes stands aside from it.
use Rattle.std.proofs.Common.{◌≡◌, ◌≢◌, ℕ, true, List, [], ◌∷◌, refl, ap, sym, subst, ◌∙◌, inl, inr, Option, Some, None}
use Rattle.std.specs.Prelude.{flat_map, IsSome, IfSome}
use Rattle.std.specs.List.{AllByRecursion}
use Rattle.std.proofs.lemmas.Bool.{cases_Bool}
use Rattle.dir_tree.proofs.base_laws_proofs.Theorems.{all_append}
use Rattle.dir_tree.specs.Entry.{EntryInformation}
use Rattle.dir_tree.specs.Points.{is_subentry}
use Rattle.dir_tree.specs.Scope.{is_within}
use Rattle.dir_tree.specs.tree.Numbered.{Numbered, entries_of, entry_of, entries_at, without, IsNumberedTree}
use Rattle.dir_tree.proofs.TreeTheorems.{entry_of-other}
use Rattle.acdf_filters.specs.admin_scope.Areas.{areas}
use Rattle.acdf_filters.specs.admin_scope.InForce.{AreInForce, reaches, in_force_at, in_force}
use Rattle.aci_index.specs.Aside.{IsNeverInForce, IsAside, IsChangeOf}
use Rattle.aci_index.proofs.laws.AreaLemmas.{AreLike, are_like_itself, like-areas}
use Rattle.aci_index.proofs.laws.RowLemmas.{in_force-aside}

-- the subentry is in force for the entry under some point that it is at or below
IsSometimeInForce : EntryInformation → EntryInformation → Type 0
IsSometimeInForce entry subentry =
    (point : EntryInformation) × (is_within point.name entry ≡ true) × (reaches point subentry entry ≡ true)

sometime-never : (entry subentry : EntryInformation) → IsNeverInForce entry subentry → IsSometimeInForce entry subentry → ⊥
unfolding IsSometimeInForce
sometime-never entry subentry never h = let clash = sym (never h.0 h.1) ∙ h.2 in absurd cc

-- each of those that are in force is so
all_under : (entry point : EntryInformation) (entries : List EntryInformation) → is_within point.name entry ≡ true
    → AllByRecursion (IsSometimeInForce entry) (in_force_at entry point entries)
unfolding IsSometimeInForce
all_under entry point [] within = tt
all_under entry point (x ∷ entries) within = elim (cases_Bool (reaches point x entry)) [
  | inl e ↦ rw e ((point, within, e), all_under entry point entries within)
  | inr e ↦ rw e (all_under entry point entries within)
]

all_found : (entry : EntryInformation) (entries points others : List EntryInformation) → AreLike entry points others
    → AllByRecursion (IsSometimeInForce entry) (flat_map (λ point. in_force_at entry point entries) points)
all_found entry entries [] others h = tt
all_found entry entries (x ∷ points) [] h = absurd h
all_found entry entries (x ∷ points) (y ∷ others) h =
    all_append (IsSometimeInForce entry) (in_force_at entry x entries) (flat_map (λ point. in_force_at entry point entries) points)
    (all_under entry x entries h.0.first) (all_found entry entries points others h.1)

all_in_force : (entries : List EntryInformation) (entry : EntryInformation)
    → AllByRecursion (IsSometimeInForce entry) (in_force entries entry)
unfolding in_force
all_in_force entries entry = elim (cases_Bool (is_subentry entry)) [
  | inl e ↦ rw e tt
  | inr e ↦ (
      let points = like-areas entry entries entries (are_like_itself entry entries) in
      rw e (all_found entry entries (areas entries entry) (areas entries entry) points)
      )
]

-- so a number that is never in force is not among theirs
not_among : (P : EntryInformation → Type 0) (id : ℕ) (rows : List Numbered) → IfSome (entry_of id rows) (λ one. P one → ⊥)
    → (ids : List ℕ) → AllByRecursion (λ other. IsSome (entry_of other rows)) ids → AllByRecursion P (entries_at rows ids)
    → AllByRecursion (λ other. other ≢ id) ids
not_among P id rows never [] live h = tt
not_among P id rows never (other ∷ ids) live h =
    by (entry_of other rows) refl live.0 h (λ rest. not_among P id rows never ids live.1 rest)
  where
    by : (o : Option EntryInformation) → entry_of other rows ≡ o → IsSome o → AllByRecursion P (entries_at rows (other ∷ ids))
        → (AllByRecursion P (entries_at rows ids) → AllByRecursion (λ other. other ≢ id) ids)
        → AllByRecursion (λ other. other ≢ id) (other ∷ ids)
    by None e some h later = absurd cc
    by (Some x) e some h later =
        let all : AllByRecursion P (x ∷ entries_at rows ids) = rw e at h in (
          (λ is.
              let known : entry_of id rows ≡ Some x = sym (ap (λ n. entry_of n rows) is) ∙ e in
              let none : IfSome (Some x) (λ one. P one → ⊥) = subst (λ o. IfSome o (λ one. P one → ⊥)) known never in
              none all.0),
          later all.1,
        )

-- the rows of other numbers give the same entries
pub entry_of-new : (id other : ℕ) (rows new : List Numbered) → without id rows ≡ without id new → other ≢ id
    → entry_of other new ≡ entry_of other rows
entry_of-new id other rows new same differs =
    sym (entry_of-other other id new differs) ∙ ap (entry_of other) (sym same) ∙ entry_of-other other id rows differs

entries_at-new : (id : ℕ) (rows new : List Numbered) → without id rows ≡ without id new → (ids : List ℕ)
    → AllByRecursion (λ other. other ≢ id) ids → entries_at new ids ≡ entries_at rows ids
entries_at-new id rows new same [] h = refl
entries_at-new id rows new same (other ∷ ids) h =
    by (entry_of other rows) refl (entry_of-new id other rows new same h.0) (entries_at-new id rows new same ids h.1)
  where
    by : (o : Option EntryInformation) → entry_of other rows ≡ o → entry_of other new ≡ entry_of other rows
        → entries_at new ids ≡ entries_at rows ids → entries_at new (other ∷ ids) ≡ entries_at rows (other ∷ ids)
    by None e like later = let there = like ∙ e in rw (there, e) later
    by (Some x) e like later = let there = like ∙ e in rw (there, e) (ap (λ (xs : List EntryInformation). x ∷ xs) later)

live-new : (id : ℕ) (rows new : List Numbered) → without id rows ≡ without id new → (ids : List ℕ)
    → AllByRecursion (λ other. other ≢ id) ids → AllByRecursion (λ other. IsSome (entry_of other rows)) ids
    → AllByRecursion (λ other. IsSome (entry_of other new)) ids
live-new id rows new same [] h live = tt
live-new id rows new same (other ∷ ids) h live = (
  subst (λ (o : Option EntryInformation). IsSome o) (sym (entry_of-new id other rows new same h.0)) live.0,
  live-new id rows new same ids h.1 live.1,
)

-- the entry of the number, if there is one, is not in force
never_some : (entry : EntryInformation) (one : Option EntryInformation) → IfSome one (IsNeverInForce entry)
    → IfSome one (λ subentry. IsSometimeInForce entry subentry → ⊥)
never_some entry None h = tt
never_some entry (Some one) h = sometime-never entry one h

-- so the numbers are others, and stay
other_numbers : (id : ℕ) (rows : List Numbered) (one : Option EntryInformation) (entry : EntryInformation) (ids : List ℕ)
    → entry_of id rows ≡ one → IfSome one (IsNeverInForce entry) → AreInForce rows entry ids
    → AllByRecursion (λ number. number ≢ id) ids
other_numbers id rows one entry ids before never known =
    not_among (IsSometimeInForce entry) id rows
    (subst (λ (o : Option EntryInformation). IfSome o (λ subentry. IsSometimeInForce entry subentry → ⊥)) (sym before)
    (never_some entry one never))
    ids known.live
    (subst (λ (found : List EntryInformation). AllByRecursion (IsSometimeInForce entry) found) (sym known.exact)
    (all_in_force (entries_of rows) entry))

pub numbers-aside : (id : ℕ) (rows new : List Numbered) (one other : Option EntryInformation) (entry : EntryInformation)
    (ids : List ℕ) → IsNumberedTree rows → IsNumberedTree new → IsChangeOf id rows new one other → IsAside entry one other
    → AreInForce rows entry ids → AreInForce new entry ids
numbers-aside id rows new one other entry ids tree also change aside known =
    let others = other_numbers id rows one entry ids change.before aside.first known in
    record {
      exact =
          entries_at-new id rows new change.others ids others
          ∙ known.exact
          ∙ in_force-aside id rows new one other entry tree also change aside;
      live = live-new id rows new change.others ids others known.live;
    }
