-- Lists of points that are the same but for what their entries hold besides names and roles.
use Rattle.std.proofs.Common.{◌≡◌, Bool, true, false, ◌&&◌, List, [], ◌∷◌, ◌++◌, refl, ap, sym, subst, ◌∙◌, inl, inr, filter, reverse, Option, Some, None, ◌⊎◌}
use Rattle.std.specs.Prelude.{⊤, unwrap_or, option_map, flat_map}
use Rattle.std.proofs.lemmas.Bool.{cases_Bool}
use Rattle.std.proofs.lemmas.Grind.{reverse_onto}
use Rattle.dir_tree.proofs.base_laws_proofs.Theorems.{filter-filter, reverse-filter}
use Rattle.dir_tree.specs.dn_names.NameOrder.{is_same, is_prefix_of}
use Rattle.dir_tree.proofs.dn_names_proofs.Theorems.{is_same-types_and_keys}
use Rattle.dir_tree.specs.Entry.{EntryInformation}
use Rattle.dir_tree.specs.tree.Trees.{is_before, put_in}
use Rattle.dir_tree.specs.Points.{is_specific_point}
use Rattle.dir_tree.specs.Scope.{is_within}
use Rattle.dir_tree.proofs.TreeTheorems.{like_before}
use Rattle.acdf_filters.specs.admin_scope.Areas.{line_of, is_access_point, points_from, to_specific, areas}
use Rattle.aci_index.specs.Aside.{is_point_over}

-- two points over the entry, of one place and one kind
pub record IsLike (entry one other : EntryInformation) : Type 0 where
  pub first : is_within one.name entry ≡ true
  pub second : is_within other.name entry ≡ true
  pub named : is_same one.name other.name ≡ true
  pub specific : is_specific_point one ≡ is_specific_point other

-- two lists of such points
abbrev pub AreLike : EntryInformation → List EntryInformation → List EntryInformation → Type 0
AreLike entry [] [] = ⊤
AreLike entry [] (y ∷ ys) = ⊥
AreLike entry (x ∷ xs) [] = ⊥
AreLike entry (x ∷ xs) (y ∷ ys) = IsLike entry x y × AreLike entry xs ys

like_itself : (entry one : EntryInformation) → is_point_over entry one ≡ true → IsLike entry one one
like_itself entry one e = record {
  first = left (is_within one.name entry) (is_access_point one) e;
  second = left (is_within one.name entry) (is_access_point one) e;
  named = (is_same-types_and_keys one.name one.name).1 refl;
  specific = refl;
}
  where
    left : (a b : Bool) → (a && b) ≡ true → a ≡ true
    left true b f = refl
    left false b f = absurd cc

pub are_like_itself : (entry : EntryInformation) (entries : List EntryInformation)
    → AreLike entry (filter (is_point_over entry) entries) (filter (is_point_over entry) entries)
are_like_itself entry [] = tt
are_like_itself entry (x ∷ entries) = elim (cases_Bool (is_point_over entry x)) [
  | inl e ↦ rw e (like_itself entry x e, are_like_itself entry entries)
  | inr e ↦ rw e (are_like_itself entry entries)
]

-- one of two points put in
pub like-put_in : (entry one other : EntryInformation) (entries : List EntryInformation) → IsLike entry one other
    → is_point_over entry one ≡ true → is_point_over entry other ≡ true
    → AreLike entry (filter (is_point_over entry) (put_in one entries)) (filter (is_point_over entry) (put_in other entries))
like-put_in entry one other [] like e f = rw (e, f) (like, tt)
like-put_in entry one other (x ∷ entries) like e f =
    by (cases_Bool (is_before x.name one.name)) (like-put_in entry one other entries like e f)
  where
    Later : Type 0
    Later = AreLike entry (filter (is_point_over entry) (put_in one entries)) (filter (is_point_over entry) (put_in other entries))

    Goal : Type 0
    Goal = AreLike entry (filter (is_point_over entry) (put_in one (x ∷ entries))) (filter (is_point_over entry) (put_in other (x ∷ entries)))

    by : ((is_before x.name one.name ≡ true) ⊎ (is_before x.name one.name ≡ false)) → Later → Goal
    by (inl g) later =
        let also : is_before x.name other.name ≡ true = sym (like_before one.name other.name x.name like.named) ∙ g in
        elim (cases_Bool (is_point_over entry x)) [
          | inl k ↦ rw (g, also, k) (like_itself entry x k, later)
          | inr k ↦ rw (g, also, k) later
        ]
    by (inr g) later =
        let also : is_before x.name other.name ≡ false = sym (like_before one.name other.name x.name like.named) ∙ g in
        rw (g, also, e, f) (like, are_like_itself entry (x ∷ entries))

-- the lists turned round
like-append : (entry : EntryInformation) (xs ys us vs : List EntryInformation) → AreLike entry xs ys → AreLike entry us vs
    → AreLike entry (xs ++ us) (ys ++ vs)
like-append entry [] [] us vs h k = k
like-append entry [] (y ∷ ys) us vs h k = absurd h
like-append entry (x ∷ xs) [] us vs h k = absurd h
like-append entry (x ∷ xs) (y ∷ ys) us vs h k = (h.0, like-append entry xs ys us vs h.1 k)

like-reverse : (entry : EntryInformation) (xs ys : List EntryInformation) → AreLike entry xs ys
    → AreLike entry (reverse xs) (reverse ys)
like-reverse entry [] [] h = tt
like-reverse entry [] (y ∷ ys) h = absurd h
like-reverse entry (x ∷ xs) [] h = absurd h
like-reverse entry (x ∷ xs) (y ∷ ys) h =
    let turned = like-append entry (reverse xs) (reverse ys) (x ∷ []) (y ∷ []) (like-reverse entry xs ys h.1) (h.0, tt) in
    rw (reverse_onto xs x [], reverse_onto ys y []) turned

-- the points up to the first specific one
abbrev SomeLike : EntryInformation → Option (List EntryInformation) → Option (List EntryInformation) → Type 0
SomeLike entry None None = ⊤
SomeLike entry None (Some ys) = ⊥
SomeLike entry (Some xs) None = ⊥
SomeLike entry (Some xs) (Some ys) = AreLike entry xs ys

like_more : (entry x y : EntryInformation) (one other : Option (List EntryInformation)) → IsLike entry x y
    → SomeLike entry one other → SomeLike entry (option_map (λ points. x ∷ points) one) (option_map (λ points. y ∷ points) other)
like_more entry x y None None h k = tt
like_more entry x y None (Some ys) h k = absurd k
like_more entry x y (Some xs) None h k = absurd k
like_more entry x y (Some xs) (Some ys) h k = (h, k)

like-to_specific : (entry : EntryInformation) (xs ys : List EntryInformation) → AreLike entry xs ys
    → SomeLike entry (to_specific xs) (to_specific ys)
like-to_specific entry [] [] h = tt
like-to_specific entry [] (y ∷ ys) h = absurd h
like-to_specific entry (x ∷ xs) [] h = absurd h
like-to_specific entry (x ∷ xs) (y ∷ ys) h =
    let above = like_more entry x y (to_specific xs) (to_specific ys) h.0 (like-to_specific entry xs ys h.1) in
    elim (cases_Bool (is_specific_point x)) [
      | inl e ↦ (let also = sym h.0.specific ∙ e in rw (e, also) (h.0, tt))
      | inr e ↦ (let also = sym h.0.specific ∙ e in rw (e, also) above)
    ]

like-unwrap_or : (entry : EntryInformation) (one other : Option (List EntryInformation)) → SomeLike entry one other
    → AreLike entry (unwrap_or one []) (unwrap_or other [])
like-unwrap_or entry None None h = tt
like-unwrap_or entry None (Some ys) h = absurd h
like-unwrap_or entry (Some xs) None h = absurd h
like-unwrap_or entry (Some xs) (Some ys) h = h

-- the points are filtered before they are turned round
points_from-reverse : (entry : EntryInformation) (entries : List EntryInformation)
    → points_from entry.name entries ≡ reverse (filter (is_point_over entry) entries)
points_from-reverse entry entries =
    sym (reverse-filter is_access_point (line_of entry.name entries))
    ∙ ap reverse (filter-filter is_access_point (λ one. is_prefix_of one.name entry.name) entries)

-- so the areas are like where the points are
pub like-areas : (entry : EntryInformation) (xs ys : List EntryInformation)
    → AreLike entry (filter (is_point_over entry) xs) (filter (is_point_over entry) ys)
    → AreLike entry (areas xs entry) (areas ys entry)
unfolding areas
like-areas entry xs ys h =
    let turned = like-reverse entry (filter (is_point_over entry) xs) (filter (is_point_over entry) ys) h in
    let points : AreLike entry (points_from entry.name xs) (points_from entry.name ys) =
    subst (λ (other : List EntryInformation). AreLike entry (points_from entry.name xs) other) (sym (points_from-reverse entry ys))
    (subst (λ (one : List EntryInformation). AreLike entry one (reverse (filter (is_point_over entry) ys)))
    (sym (points_from-reverse entry xs)) turned) in
    like-unwrap_or entry (to_specific (points_from entry.name xs)) (to_specific (points_from entry.name ys))
    (like-to_specific entry (points_from entry.name xs) (points_from entry.name ys) points)

-- and functions that agree of like points make the same of like lists
pub like-flat_map : {B : Type 0} (entry : EntryInformation) (f g : EntryInformation → List B)
    → ((x y : EntryInformation) → IsLike entry x y → f x ≡ g y) → (xs ys : List EntryInformation) → AreLike entry xs ys
    → flat_map f xs ≡ flat_map g ys
like-flat_map entry f g agree [] [] h = refl
like-flat_map entry f g agree [] (y ∷ ys) h = absurd h
like-flat_map entry f g agree (x ∷ xs) [] h = absurd h
like-flat_map entry f g agree (x ∷ xs) (y ∷ ys) h = rw (agree x y h.0, like-flat_map entry f g agree xs ys h.1) refl
