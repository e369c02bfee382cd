-- The order of places once a value was taken out, and the values that are left.
use Rattle.std.proofs.Common.{◌≡◌, ℕ, zero, suc, ◌+◌, ◌<◌, nat_lt, Bool, true, false, cond, not, ◌||◌, ◌==◌, List, [], ◌∷◌, ◌++◌, length, map, filter, get_or, set, take, drop, remove, add-one, refl, sym, ap, ◌∙◌, arith, true≢false}
use Rattle.std.specs.List.{AllByRecursion, list_any}
use Rattle.std.specs.Str.{bytes_eq}
use Rattle.std.proofs.lemmas.Bool.Decides.{nat_tests}
use Rattle.std.proofs.lemmas.Bool.{or_left, or_right}
use Rattle.dn_names.specs.name.Names.{Keyed}
use Rattle.value_lists.specs.Orders.{key_at, place_after, IsOrder}
use Rattle.value_lists.proofs.places.OrderLemmas.{AreInOrder-filter}
use Rattle.value_lists.proofs.places.PlaceLemmas.{or_cases}

-- one value less
length-without : (values : List Keyed) (place : ℕ) → place < length values → suc (length (remove values place)) ≡ length values
length-without [] place within = absurd (omega arith)
length-without (value ∷ values) zero within = omega arith
length-without (value ∷ values) (suc place) within = omega (arith, length-without values place (omega arith))

-- one place further on
place_after-suc : (place other : ℕ) → ((place == other) ≡ false) → place_after (suc place) (suc other) ≡ suc (place_after place other)
place_after-suc place other apart = grind (arith, nat_tests)

-- the other values have their keys at the places after
key_at-without : (values : List Keyed) (place other : ℕ) → place < length values → (place == other) ≡ false → key_at (remove values place) (place_after place other) ≡ key_at values other
key_at-without [] place other within apart = absurd (omega arith)
key_at-without (value ∷ values) zero zero within apart = absurd (true≢false apart)
key_at-without (value ∷ values) zero (suc other) within apart = grind (arith, nat_tests)
key_at-without (value ∷ values) (suc place) zero within apart = grind (arith, nat_tests)
key_at-without (value ∷ values) (suc place) (suc other) within apart =
    let apart_before : (place == other) ≡ false = grind (arith, nat_tests) in
    ap (key_at (value ∷ remove values place)) (place_after-suc place other apart_before)
    ∙ key_at-without values place other (omega arith) apart_before

-- the places but for the one
abbrev pub other_places : ℕ → List ℕ → List ℕ
other_places place places = filter (λ other. not (place == other)) places

kept_case : (P : Bool → Type 0) (b : Bool) → (b ≡ true → P true) → (b ≡ false → P false) → P b
kept_case P true f g = f refl
kept_case P false f g = g refl

map-without : (values : List Keyed) (place : ℕ) (places : List ℕ) → place < length values → map (key_at (remove values place)) (map (place_after place) (other_places place places)) ≡ map (key_at values) (other_places place places)
map-without values place [] within = refl
map-without values place (other ∷ places) within =
    let later = map-without values place places within in
    kept_case (λ same. map (key_at (remove values place)) (map (place_after place) (cond (not same) (other ∷ other_places place places) (other_places place places))) ≡ map (key_at values) (cond (not same) (other ∷ other_places place places) (other_places place places)))
    (place == other) (λ same. later)
    (λ apart. rw (key_at-without values place other within apart, later) refl)

-- the places after are below the lesser number
place_after-below : (place other count : ℕ) → place < suc count → other < suc count → (place == other) ≡ false → place_after place other < count
place_after-below place other count within below apart = grind (arith, nat_tests)

within-without : (place count : ℕ) (places : List ℕ) → place < suc count → AllByRecursion (λ other. other < suc count) places → AllByRecursion (λ other. other < count) (map (place_after place) (other_places place places))
within-without place count [] within all = tt
within-without place count (other ∷ places) within all =
    let later = within-without place count places within all.1 in
    kept_case (λ same. AllByRecursion (λ other. other < count) (map (place_after place) (cond (not same) (other ∷ other_places place places) (other_places place places))))
    (place == other) (λ same. later)
    (λ apart. (place_after-below place other count within all.0 apart, later))

-- a place among the places, apart from the one, has its place after among those after
any-without : (place other wanted : ℕ) (places : List ℕ) → (place == other) ≡ false → place_after place other ≡ wanted → list_any (λ next. other == next) places ≡ true → list_any (λ next. wanted == next) (map (place_after place) (other_places place places)) ≡ true
any-without place other wanted [] apart is e = absurd (true≢false (sym e))
any-without place other wanted (next ∷ places) apart is e =
    let rest = λ (f : list_any (λ next. other == next) places ≡ true). any-without place other wanted places apart is f in
    let left = map (place_after place) (other_places place places) in
    kept_case (λ same. list_any (λ next. wanted == next) (map (place_after place) (cond (not same) (next ∷ other_places place places) (other_places place places))) ≡ true)
    (place == next)
    (λ same. or_cases (other == next) (list_any (λ next. other == next) places) e (λ here. absurd (grind (arith, nat_tests))) rest)
    (λ differs. or_cases (other == next) (list_any (λ next. other == next) places) e
    (λ here. or_left (wanted == place_after place next) (list_any (λ next. wanted == next) left) (grind (arith, nat_tests)))
    (λ later. or_right (wanted == place_after place next) (list_any (λ next. wanted == next) left) (rest later)))

-- the places after, without the one, are those of the values that are left
pub IsOrder-without : (values : List Keyed) (places : List ℕ) (place : ℕ) → place < length values → IsOrder values places → IsOrder (remove values place) (map (place_after place) (other_places place places))
IsOrder-without values places place within order =
    let count = length-without values place within in
    record {
      within = within-without place (length (remove values place)) places (omega (arith, count)) (rw count order.within);
      complete = λ other below.
          any-without place (cond (nat_lt other place) other (suc other)) other places (grind (arith, nat_tests)) (grind (arith, nat_tests))
          (order.complete (cond (nat_lt other place) other (suc other)) (grind (arith, nat_tests, count)));
      ordered = rw (map-without values place places within) (AreInOrder-filter (key_at values) (λ other. not (place == other)) places order.ordered);
    }

-- a value that has the key, taken out, leaves what the key's values taken out leave
filter-without : (key : List ℕ) (values : List Keyed) (place : ℕ) → place < length values → bytes_eq key (key_at values place) ≡ true → filter (λ value. not (bytes_eq key value.key)) (remove values place) ≡ filter (λ value. not (bytes_eq key value.key)) values
filter-without key [] place within e = absurd (omega arith)
filter-without key (value ∷ values) zero within e = rw e refl
filter-without key (value ∷ values) (suc place) within e =
    ap (λ left. cond (not (bytes_eq key value.key)) (value ∷ left) left) (filter-without key values place (omega arith) e)

-- where no value has the key, none is taken out
filter-none : (key : List ℕ) (values : List Keyed) → list_any (λ value. bytes_eq key value.key) values ≡ false → values ≡ filter (λ value. not (bytes_eq key value.key)) values
filter-none key [] none = refl
filter-none key (value ∷ values) none =
    kept_case (λ same. (same || list_any (λ value. bytes_eq key value.key) values) ≡ false → value ∷ values ≡ cond (not same) (value ∷ filter (λ value. not (bytes_eq key value.key)) values) (filter (λ value. not (bytes_eq key value.key)) values))
    (bytes_eq key value.key) (λ same e. absurd (true≢false e)) (λ differs e. ap (λ left. value ∷ left) (filter-none key values e)) none

-- one place more is counted down
counted :
    (f : ℕ → ℕ) (places : List ℕ) (index d : ℕ) → index < length places
    → set (map f (take index places) ++ drop index places) index
    (f (get_or (map f (take index places) ++ drop index places) index d))
    ≡ map f (take (suc index) places) ++ drop (suc index) places
counted f [] index d within = absurd (omega arith)
counted f (place ∷ places) zero d within = refl
counted f (place ∷ places) (suc index) d within =
    ap (λ later. f place ∷ later) (counted f places index d (omega arith))

-- the same, as the loop says it
pub counted-next :
    (f : ℕ → ℕ) (places now : List ℕ) (index d value : ℕ) → index < length places
    → now ≡ map f (take index places) ++ drop index places → value ≡ f (get_or now index d)
    → set now index value ≡ map f (take (index + 1) places) ++ drop (index + 1) places
counted-next f places now index d value within is put =
    rw (put, is)
    (counted f places index d within ∙ ap (λ count. map f (take count places) ++ drop count places) (sym (add-one index)))

-- both, of values as a search saw them
pub filter-step :
    (key : List ℕ) (values seen : List Keyed) (place : ℕ) → seen ≡ values → place < length seen
    → bytes_eq key (key_at seen place) ≡ true
    → filter (λ value. not (bytes_eq key value.key)) (remove values place)
    ≡ filter (λ value. not (bytes_eq key value.key)) values
filter-step key values seen place same within e = filter-without key values place (rw same at within) (rw same at e)

pub filter-last :
    (key : List ℕ) (values seen : List Keyed) → seen ≡ values
    → false ≡ list_any (λ value. bytes_eq key value.key) seen
    → values ≡ filter (λ value. not (bytes_eq key value.key)) values
filter-last key values seen same none = filter-none key values (sym (rw same at none))
