-- The numbers that are found are those of the subentries in force.
use Rattle.std.proofs.Common.{◌≡◌, ℕ, Bool, true, false, ◌&&◌, List, [], ◌∷◌, ◌++◌, map, filter, Option, Some, None, refl, sym, ap, subst, ◌∙◌, inl, inr}
use Rattle.std.specs.Prelude.{flat_map, IsSome}
use Rattle.std.specs.List.{AllByRecursion}
use Rattle.std.specs.Option.{option_map, option_map_or, option_and_then}
use Rattle.std.proofs.lemmas.Bool.{cases_Bool}
use Rattle.std.proofs.lemmas.List.Elements.{filter_map-append, filter_agree}
use Rattle.dir_tree.proofs.base_laws_proofs.Theorems.{filter-filter, all_append}
use Rattle.dir_tree.specs.Entry.{EntryInformation}
use Rattle.dir_tree.specs.Points.{is_subentry, is_access_subentry}
use Rattle.dir_tree.specs.tree.Numbered.{Numbered, ids_of, entries_of, entry_of, entries_at, subentry_rows, IsNumberedTree}
use Rattle.dir_tree.specs.Scope.{is_child}
use Rattle.dir_tree.proofs.TreeTheorems.{entries_at-kept}
use Rattle.subtree_spec.specs.Subtrees.{Subtree, subtree_of}
use Rattle.admin_scope.specs.declared.subtrees.AccessSubentry.{AccessSubentry}
use Rattle.admin_scope.specs.Areas.{areas}
use Rattle.admin_scope.specs.InForce.{subtree_of_entry, subtree_holds, reaches, in_force_at, in_force}
use Rattle.admin_scope.specs.Walking.{walk_of}
use Rattle.admin_scope.specs.Finding.{stands, holds_under, applying, numbers_at, subtree_at, holds_read, AreSubtrees, holds_by, applying_by, numbers_by}
use Rattle.admin_scope.proofs.subentries.ListLemmas.{flat_map-agree}
use Rattle.admin_scope.proofs.subentries.WalkLemmas.{live-stands, areas-gathered}

-- the entries of the numbers that pass are the entries that pass
entries_at-filter : (rows : List Numbered) (test : EntryInformation → Bool) (ids : List ℕ) → entries_at rows (filter (λ id. stands test id rows) ids) ≡ filter test (entries_at rows ids)
entries_at-filter rows test [] = refl
entries_at-filter rows test (id ∷ ids) = by (entry_of id rows) refl (entries_at-filter rows test ids)
  where
    Goal : Type 0
    Goal = entries_at rows (filter (λ id. stands test id rows) (id ∷ ids)) ≡ filter test (entries_at rows (id ∷ ids))

    by : (o : Option EntryInformation) → entry_of id rows ≡ o → entries_at rows (filter (λ id. stands test id rows) ids) ≡ filter test (entries_at rows ids) → Goal
    by None e later = rw e later
    by (Some x) e later = elim (cases_Bool (test x)) [
      | inl f ↦ rw (e, f, e) (ap (λ rest. x ∷ rest) later)
      | inr f ↦ rw (e, f) later
    ]

-- under one point
and_turned : (a b c : Bool) → (a && (b && c)) ≡ (b && (a && c))
and_turned true b c = refl
and_turned false true c = refl
and_turned false false c = refl

entries_at-numbers_at : (rows : List Numbered) → IsNumberedTree rows → (entry point : EntryInformation) (id : ℕ) → entry_of id rows ≡ Some point → entries_at rows (numbers_at rows entry id) ≡ in_force_at entry point (entries_of rows)
entries_at-numbers_at rows tree entry point id e =
    ap (λ o. entries_at rows (option_map_or (applying rows entry) o [])) e
    ∙ entries_at-filter rows (λ subentry. holds_under point subentry entry) (ids_of (subentry_rows rows))
    ∙ ap (filter (λ subentry. holds_under point subentry entry)) (entries_at-kept is_access_subentry rows tree.distinct)
    ∙ filter-filter (λ subentry. holds_under point subentry entry) is_access_subentry (entries_of rows)
    ∙ filter_agree (λ subentry. is_access_subentry subentry && holds_under point subentry entry) (λ subentry. reaches point subentry entry)
    (λ subentry. and_turned (is_access_subentry subentry) (is_child point.name subentry) (subtree_holds point subentry entry)) (entries_of rows)

-- under all
entries_at-flat_map : (rows : List Numbered) → IsNumberedTree rows → (entry : EntryInformation) (ids : List ℕ) → entries_at rows (flat_map (numbers_at rows entry) ids) ≡ flat_map (λ point. in_force_at entry point (entries_of rows)) (entries_at rows ids)
entries_at-flat_map rows tree entry [] = refl
entries_at-flat_map rows tree entry (id ∷ ids) = by (entry_of id rows) refl (entries_at-flat_map rows tree entry ids)
  where
    Later : Type 0
    Later = entries_at rows (flat_map (numbers_at rows entry) ids) ≡ flat_map (λ point. in_force_at entry point (entries_of rows)) (entries_at rows ids)

    by : (o : Option EntryInformation) → entry_of id rows ≡ o → Later → entries_at rows (flat_map (numbers_at rows entry) (id ∷ ids)) ≡ flat_map (λ point. in_force_at entry point (entries_of rows)) (entries_at rows (id ∷ ids))
    by None e later = rw e later
    by (Some point) e later =
        filter_map-append (λ id. entry_of id rows) (numbers_at rows entry id) (flat_map (numbers_at rows entry) ids)
        ∙ ap (λ front. front ++ entries_at rows (flat_map (numbers_at rows entry) ids)) (entries_at-numbers_at rows tree entry point id e)
        ∙ ap (λ rest. in_force_at entry point (entries_of rows) ++ rest) later
        ∙ sym (split e)
      where
        split : entry_of id rows ≡ Some point → flat_map (λ point. in_force_at entry point (entries_of rows)) (entries_at rows (id ∷ ids)) ≡ in_force_at entry point (entries_of rows) ++ flat_map (λ point. in_force_at entry point (entries_of rows)) (entries_at rows ids)
        split e = rw e refl

-- so what is found below the points is what is in force
in_force-found : (rows : List Numbered) → IsNumberedTree rows → (entry : EntryInformation) → is_subentry entry ≡ false → (ids : List ℕ) → entries_at rows ids ≡ areas (entries_of rows) entry → entries_at rows (flat_map (numbers_at rows entry) ids) ≡ in_force (entries_of rows) entry
unfolding in_force
in_force-found rows tree entry ordinary ids e =
    entries_at-flat_map rows tree entry ids
    ∙ ap (flat_map (λ point. in_force_at entry point (entries_of rows))) e
    ∙ sym (rw ordinary refl)

pub in_force-gathered : (rows : List Numbered) → IsNumberedTree rows → (entry : EntryInformation) → is_subentry entry ≡ false → (ids : List ℕ) → ids ≡ flat_map (numbers_at rows entry) (walk_of entry.name rows) → entries_at rows ids ≡ in_force (entries_of rows) entry
in_force-gathered rows tree entry ordinary ids e =
    ap (entries_at rows) e
    ∙ in_force-found rows tree entry ordinary (walk_of entry.name rows) (areas-gathered rows tree entry (walk_of entry.name rows) refl)

-- nothing is in force for a subentry
pub in_force-subentry : (rows : List Numbered) (entry : EntryInformation) → is_subentry entry ≡ true → [] ≡ in_force (entries_of rows) entry
unfolding in_force
in_force-subentry rows entry e = sym (rw e refl)

-- each number that is found is that of an entry
live-filter : (rows : List Numbered) (test : EntryInformation → Bool) (ids : List ℕ) → AllByRecursion (λ id. IsSome (entry_of id rows)) (filter (λ id. stands test id rows) ids)
live-filter rows test [] = tt
live-filter rows test (id ∷ ids) = elim (cases_Bool (stands test id rows)) [
  | inl e ↦ rw e (live-stands test id rows e, live-filter rows test ids)
  | inr e ↦ rw e (live-filter rows test ids)
]

live-numbers_at : (rows : List Numbered) (entry : EntryInformation) (id : ℕ) → AllByRecursion (λ id. IsSome (entry_of id rows)) (numbers_at rows entry id)
live-numbers_at rows entry id = by (entry_of id rows)
  where
    by : (o : Option EntryInformation) → AllByRecursion (λ id. IsSome (entry_of id rows)) (option_map_or (applying rows entry) o [])
    by None = tt
    by (Some point) = live-filter rows (λ subentry. holds_under point subentry entry) (ids_of (subentry_rows rows))

live-flat_map : (rows : List Numbered) (entry : EntryInformation) (ids : List ℕ) → AllByRecursion (λ id. IsSome (entry_of id rows)) (flat_map (numbers_at rows entry) ids)
live-flat_map rows entry [] = tt
live-flat_map rows entry (id ∷ ids) = all_append _ _ _ (live-numbers_at rows entry id) (live-flat_map rows entry ids)

pub live-found : (rows : List Numbered) (entry : EntryInformation) (ids points : List ℕ) → ids ≡ flat_map (numbers_at rows entry) points → AllByRecursion (λ id. IsSome (entry_of id rows)) ids
live-found rows entry ids points e =
    subst (λ (all : List ℕ). AllByRecursion (λ id. IsSome (entry_of id rows)) all) (sym e) (live-flat_map rows entry points)

-- by the subtrees that were read the same numbers are found
holds_by-same : (rows : List Numbered) (entry point : EntryInformation) (one : AccessSubentry) → option_map subtree_of one.subtree ≡ subtree_at one.number.0 rows → holds_by rows entry point one ≡ stands (λ subentry. holds_under point subentry entry) one.number.0 rows
unfolding subtree_holds
holds_by-same rows entry point one e = by (entry_of one.number.0 rows) refl
  where
    by : (o : Option EntryInformation) → entry_of one.number.0 rows ≡ o → holds_by rows entry point one ≡ stands (λ subentry. holds_under point subentry entry) one.number.0 rows
    by None f = rw f refl
    by (Some below) f =
        let read : option_map subtree_of one.subtree ≡ subtree_of_entry below = e ∙ ap (option_and_then subtree_of_entry) f in
        rw f (ap (λ (subtree : Option Subtree). is_child point.name below && holds_read subtree point entry) read)

applying_by-map : (rows : List Numbered) (entry point : EntryInformation) (list : List AccessSubentry)
    → AllByRecursion (λ one. option_map subtree_of one.subtree ≡ subtree_at one.number.0 rows) list
    → applying_by rows entry list point ≡ filter (λ id. stands (λ subentry. holds_under point subentry entry) id rows) (map (λ one. one.number.0) list)
applying_by-map rows entry point [] h = refl
applying_by-map rows entry point (one ∷ list) h =
    let same = holds_by-same rows entry point one h.0 in
    let later = applying_by-map rows entry point list h.1 in
    elim (cases_Bool (holds_by rows entry point one)) [
      | inl e ↦ (let also = sym same ∙ e in rw (e, also) (ap (λ (ids : List ℕ). one.number.0 ∷ ids) later))
      | inr e ↦ (let also = sym same ∙ e in rw (e, also) later)
    ]

pub numbers_by-same : (rows : List Numbered) (entry : EntryInformation) (list : List AccessSubentry) → AreSubtrees list rows → (id : ℕ) → numbers_by rows entry list id ≡ numbers_at rows entry id
numbers_by-same rows entry list are id = by (entry_of id rows)
  where
    by : (o : Option EntryInformation) → option_map_or (applying_by rows entry list) o [] ≡ option_map_or (applying rows entry) o []
    by None = refl
    by (Some point) =
        applying_by-map rows entry point list are.subtrees
        ∙ ap (filter (λ id. stands (λ subentry. holds_under point subentry entry) id rows)) are.numbers

pub all_numbers_by : (rows : List Numbered) (entry : EntryInformation) (list : List AccessSubentry) → AreSubtrees list rows → (ids : List ℕ) → flat_map (numbers_by rows entry list) ids ≡ flat_map (numbers_at rows entry) ids
all_numbers_by rows entry list are ids = flat_map-agree (numbers_by rows entry list) (numbers_at rows entry) (numbers_by-same rows entry list are) ids
