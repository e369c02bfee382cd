-- The points that are found front by front are the areas.
use Rattle.std.proofs.Common.{◌≡◌, ℕ, zero, suc, ◌-◌, ◌<◌, ◌≤◌, Bool, true, false, ◌||◌, List, [], ◌∷◌, ◌++◌, length, take, filter, Option, Some, None, refl, sym, ap, subst, ◌∙◌, arith, inl, inr}
use Rattle.std.specs.Prelude.{option_to_list, option_map, unwrap_or, IsSome, if◌then◌else◌}
use Rattle.std.specs.List.{AllByRecursion, list_any}
use Rattle.std.specs.Option.{option_and_then, option_map_or}
use Rattle.std.proofs.lemmas.Bool.{cases_Bool, le-leb}
use Rattle.dir_tree.specs.dn_names.name.Names.{RdnSequence}
use Rattle.dir_tree.specs.Entry.{EntryInformation}
use Rattle.dir_tree.specs.Points.{is_specific_point, is_inner_point}
use Rattle.dir_tree.specs.tree.Numbered.{Numbered, entries_of, entry_of, entries_at, find_name, find_front, AreDistinct, IsNumberedTree}
use Rattle.dir_tree.proofs.TreeTheorems.{entry_of-found}
use Rattle.admin_scope.specs.Areas.{is_access_point, to_specific, areas}
use Rattle.admin_scope.specs.Walking.{with_front, points_up, is_specific_front, has_specific, first_front, walk_of}
use Rattle.admin_scope.specs.Finding.{stands}
use Rattle.admin_scope.proofs.subentries.LineLemmas.{line_up, reverse-line_of}

-- what the walk finds, where there is a specific point among it
abbrev found_up : Bool → List Numbered → List ℕ → Option (List EntryInformation)
found_up there rows ids = if there then Some (entries_at rows ids) else None

one_front : (rows : List Numbered) (front : Option ℕ) (line : List EntryInformation) (there : Bool) (above : List ℕ) → to_specific (filter is_access_point line) ≡ found_up there rows above → to_specific (filter is_access_point (option_to_list (option_and_then (λ id. entry_of id rows) front) ++ line)) ≡ found_up (option_map_or (λ id. stands is_specific_point id rows) front false || there) rows (with_front rows front above)
one_front rows None line there above h = h
one_front rows (Some n) line there above h = by (entry_of n rows) refl
  where
    Goal : Type 0
    Goal = to_specific (filter is_access_point (option_to_list (entry_of n rows) ++ line)) ≡ found_up (stands is_specific_point n rows || there) rows (with_front rows (Some n) above)

    below_inner : (x : EntryInformation) → entry_of n rows ≡ Some x → (b : Bool) → option_map (λ points. x ∷ points) (found_up b rows above) ≡ found_up b rows (n ∷ above)
    below_inner x e true = rw e refl
    below_inner x e false = refl

    at : (x : EntryInformation) → entry_of n rows ≡ Some x → Goal
    at x e = elim (cases_Bool (is_specific_point x)) [
      | inl s ↦ rw (e, s, s, e) refl
      | inr s ↦ elim (cases_Bool (is_inner_point x)) [
        | inl i ↦ (let after = below_inner x e there in rw (e, s, i, s, h) after)
        | inr i ↦ rw (e, s, i) h
      ]
    ]

    by : (o : Option EntryInformation) → entry_of n rows ≡ o → Goal
    by None e = rw e h
    by (Some x) e = at x e

-- the walk finds what the definition says
walk : (rows : List Numbered) → AreDistinct rows → (len : ℕ) (name : RdnSequence) → len ≤ length name → to_specific (filter is_access_point (line_up len name (entries_of rows))) ≡ found_up (has_specific len name rows) rows (points_up len name rows)
unfolding points_up has_specific
walk rows d zero name h = refl
walk rows d (suc len) name h =
    let in_name = le-leb (suc len) (length name) h in
    let front : find_front (suc len) name rows ≡ find_name (take (suc len) name) rows = rw in_name refl in
    ap (λ o. to_specific (filter is_access_point (option_to_list o ++ line_up len name (entries_of rows)))) (sym (entry_of-found (take (suc len) name) rows d))
    ∙ one_front rows (find_name (take (suc len) name) rows) (line_up len name (entries_of rows)) (has_specific len name rows) (points_up len name rows) (walk rows d len name (omega arith))
    ∙ ap (λ o. found_up (option_map_or (λ id. stands is_specific_point id rows) o false || has_specific len name rows) rows (with_front rows o (points_up len name rows))) (sym front)

begun : (name : RdnSequence) (rows : List Numbered) → unwrap_or (found_up (has_specific (length name) name rows) rows (points_up (length name) name rows)) [] ≡ entries_at rows (points_up (first_front name rows) name rows)
unfolding points_up
begun name rows = elim (cases_Bool (has_specific (length name) name rows)) [
  | inl e ↦ rw e refl
  | inr e ↦ rw e refl
]

own_points : (rows : List Numbered) → IsNumberedTree rows → (entry : EntryInformation) → entries_at rows (points_up (first_front entry.name rows) entry.name rows) ≡ areas (entries_of rows) entry
unfolding areas
own_points rows tree entry =
    sym (ap (λ line. unwrap_or (to_specific (filter is_access_point line)) []) (reverse-line_of entry.name (entries_of rows) tree.tree.sorted tree.tree.named)
    ∙ ap (λ o. unwrap_or o []) (walk rows tree.distinct (length entry.name) entry.name (omega arith))
    ∙ begun entry.name rows)

-- what passes a test is there
pub live-stands : (test : EntryInformation → Bool) (id : ℕ) (rows : List Numbered) → stands test id rows ≡ true → IsSome (entry_of id rows)
live-stands test id rows e = by (entry_of id rows) e
  where
    by : (o : Option EntryInformation) → option_map_or test o false ≡ true → IsSome o
    by None f = absurd cc
    by (Some x) f = refl

-- each number of the walk is that of an entry
live-points_up : (len : ℕ) (name : RdnSequence) (rows : List Numbered) → AllByRecursion (λ id. IsSome (entry_of id rows)) (points_up len name rows)
unfolding points_up
live-points_up zero name rows = tt
live-points_up (suc len) name rows = with (find_front (suc len) name rows) (points_up len name rows) (live-points_up len name rows)
  where
    with : (o : Option ℕ) (above : List ℕ) → AllByRecursion (λ id. IsSome (entry_of id rows)) above → AllByRecursion (λ id. IsSome (entry_of id rows)) (with_front rows o above)
    with None above h = h
    with (Some id) above h = elim (cases_Bool (stands is_specific_point id rows)) [
      | inl e ↦ rw e (live-stands is_specific_point id rows e, tt)
      | inr e ↦ elim (cases_Bool (stands is_inner_point id rows)) [
        | inl f ↦ rw (e, f) (live-stands is_inner_point id rows f, h)
        | inr f ↦ rw (e, f) h
      ]
    ]

-- one front less
points_up-step : (len : ℕ) (name : RdnSequence) (rows : List Numbered) → 0 < len → points_up len name rows ≡ with_front rows (find_front len name rows) (points_up (len - 1) name rows)
unfolding points_up
points_up-step zero name rows h = absurd (omega arith)
points_up-step (suc len) name rows h =
    let left : suc len - 1 ≡ len = omega arith in
    ap (λ n. with_front rows (find_front (suc len) name rows) (points_up n name rows)) (sym left)

points_up-none : (name : RdnSequence) (rows : List Numbered) → points_up 0 name rows ≡ []
unfolding points_up
points_up-none name rows = refl

-- a front that is a specific point, an inner one, another entry, or none
pub points_up-specific : (len : ℕ) (name : RdnSequence) (rows : List Numbered) (id : ℕ) → 0 < len → find_front len name rows ≡ Some id → stands is_specific_point id rows ≡ true → points_up len name rows ≡ id ∷ points_up 0 name rows
points_up-specific len name rows id h e s =
    points_up-step len name rows h ∙ ap (λ o. with_front rows o (points_up (len - 1) name rows)) e ∙ rw s (ap (λ rest. id ∷ rest) (sym (points_up-none name rows)))

pub points_up-inner : (len : ℕ) (name : RdnSequence) (rows : List Numbered) (id : ℕ) → 0 < len → find_front len name rows ≡ Some id → stands is_specific_point id rows ≡ false → stands is_inner_point id rows ≡ true → points_up len name rows ≡ id ∷ points_up (len - 1) name rows
points_up-inner len name rows id h e s i =
    points_up-step len name rows h ∙ ap (λ o. with_front rows o (points_up (len - 1) name rows)) e ∙ rw (s, i) refl

pub points_up-other : (len : ℕ) (name : RdnSequence) (rows : List Numbered) (id : ℕ) → 0 < len → find_front len name rows ≡ Some id → stands is_specific_point id rows ≡ false → stands is_inner_point id rows ≡ false → points_up len name rows ≡ points_up (len - 1) name rows
points_up-other len name rows id h e s i =
    points_up-step len name rows h ∙ ap (λ o. with_front rows o (points_up (len - 1) name rows)) e ∙ rw (s, i) refl

pub points_up-nothing : (len : ℕ) (name : RdnSequence) (rows : List Numbered) → 0 < len → find_front len name rows ≡ None → points_up len name rows ≡ points_up (len - 1) name rows
points_up-nothing len name rows h e =
    points_up-step len name rows h ∙ ap (λ o. with_front rows o (points_up (len - 1) name rows)) e

pub points_up-end : (len : ℕ) (name : RdnSequence) (rows : List Numbered) → len ≡ 0 → points_up len name rows ≡ []
points_up-end len name rows e = ap (λ n. points_up n name rows) e ∙ points_up-none name rows

has_specific-step : (len : ℕ) (name : RdnSequence) (rows : List Numbered) → 0 < len → has_specific len name rows ≡ (is_specific_front len name rows || has_specific (len - 1) name rows)
unfolding has_specific
has_specific-step zero name rows h = absurd (omega arith)
has_specific-step (suc len) name rows h =
    let left : suc len - 1 ≡ len = omega arith in
    ap (λ n. is_specific_front (suc len) name rows || has_specific n name rows) (sym left)

has_specific-none : (name : RdnSequence) (rows : List Numbered) → has_specific 0 name rows ≡ false
unfolding has_specific
has_specific-none name rows = refl

-- a front that is a specific point, or is none
pub has_specific-here : (len : ℕ) (name : RdnSequence) (rows : List Numbered) → 0 < len → is_specific_front len name rows ≡ true → has_specific len name rows ≡ true
has_specific-here len name rows h e = has_specific-step len name rows h ∙ rw e refl

pub has_specific-other : (len : ℕ) (name : RdnSequence) (rows : List Numbered) → 0 < len → is_specific_front len name rows ≡ false → has_specific len name rows ≡ has_specific (len - 1) name rows
has_specific-other len name rows h e = has_specific-step len name rows h ∙ rw e refl

pub has_specific-end : (len : ℕ) (name : RdnSequence) (rows : List Numbered) → len ≡ 0 → has_specific len name rows ≡ false
has_specific-end len name rows e = ap (λ n. has_specific n name rows) e ∙ has_specific-none name rows

-- one of the points that are found is specific exactly where one of the fronts is
pub any_specific : List Numbered → List ℕ → Bool
any_specific rows ids = list_any (λ id. stands is_specific_point id rows) ids

pub specific-found : (len : ℕ) (name : RdnSequence) (rows : List Numbered) → any_specific rows (points_up len name rows) ≡ has_specific len name rows
unfolding any_specific points_up has_specific
specific-found zero name rows = refl
specific-found (suc len) name rows = by (find_front (suc len) name rows) (points_up len name rows) (has_specific len name rows) (specific-found len name rows)
  where
    by : (front : Option ℕ) (above : List ℕ) (there : Bool) → list_any (λ id. stands is_specific_point id rows) above ≡ there
        → list_any (λ id. stands is_specific_point id rows) (with_front rows front above) ≡ (option_map_or (λ id. stands is_specific_point id rows) front false || there)
    by None above there h = h
    by (Some id) above there h = elim (cases_Bool (stands is_specific_point id rows)) [
      | inl e ↦ rw (e, e) refl
      | inr e ↦ elim (cases_Bool (stands is_inner_point id rows)) [
        | inl f ↦ rw (e, f, e) h
        | inr f ↦ rw (e, f) h
      ]
    ]

pub specific-step : (rows : List Numbered) (left rest : List ℕ) (point : ℕ) (was is there : Bool) → left ≡ point ∷ rest → was ≡ false → is ≡ stands is_specific_point point rows
    → (was || any_specific rows left) ≡ there → (is || any_specific rows rest) ≡ there
unfolding any_specific
specific-step rows left rest point was is there e not_yet one h =
    ap (λ (test : Bool). test || any_specific rows rest) one
    ∙ ap (any_specific rows) (sym e)
    ∙ ap (λ (test : Bool). test || any_specific rows left) (sym not_yet)
    ∙ h

-- where none is, no point governs the name
pub walk-none : (name : RdnSequence) (rows : List Numbered) (left : List ℕ) (was : Bool) → left ≡ [] → was ≡ false
    → (was || any_specific rows left) ≡ has_specific (length name) name rows → walk_of name rows ≡ []
unfolding any_specific
walk-none name rows left was none not_yet h =
    let absent : has_specific (length name) name rows ≡ false =
    sym h ∙ ap (λ (test : Bool). test || any_specific rows left) not_yet ∙ ap (any_specific rows) none in
    ap (λ (there : Bool). points_up (if there then length name else 0) name rows) absent ∙ points_up-none name rows

-- the same of a list of the numbers
pub areas-gathered : (rows : List Numbered) → IsNumberedTree rows → (entry : EntryInformation) (ids : List ℕ) → ids ≡ walk_of entry.name rows → entries_at rows ids ≡ areas (entries_of rows) entry
areas-gathered rows tree entry ids e = ap (entries_at rows) e ∙ own_points rows tree entry

pub live-gathered : (rows : List Numbered) (name : RdnSequence) (ids : List ℕ) → ids ≡ walk_of name rows → AllByRecursion (λ id. IsSome (entry_of id rows)) ids
live-gathered rows name ids e =
    subst (λ (all : List ℕ). AllByRecursion (λ id. IsSome (entry_of id rows)) all) (sym e) (live-points_up (first_front name rows) name rows)
