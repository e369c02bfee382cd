-- The texts between asterisks, and what they say.
use Rattle.std.proofs.Common.{◌≡◌, ℕ, ◌+◌, ◌<◌, ◌≤◌, Bool, true, false, None, List, [], ◌∷◌, ◌++◌, length, take, drop, refl, sym, ap, ◌∙◌, arith, drop-drop, append_assoc}
use Rattle.std.specs.Prelude.{◌==◌, cond}
use Rattle.std.specs.List.{position_or_len, slice_split, onto_first}
use Rattle.std.proofs.lemmas.List.Elements.{All-from_get_or}
use Rattle.std.proofs.lemmas.List.Splits.{slice_split_first, slice_split_none}
use Rattle.std.proofs.lemmas.List.Sums.{fails_before_first}
use Rattle.ldap_filter.specs.filter.Filters.Filter.{Present, Parts}
use Rattle.filter_text.specs.Items.{value_of, part_of, any_of, final_of, matched_by, parts_of}

-- the octet is an asterisk
abbrev is_star : ℕ → Bool
is_star octet = octet == 42

-- the first text stands before the first asterisk
pub parts_of-first : (text : List ℕ) (place : ℕ) (front back rest : List ℕ) → place ≡ position_or_len (λ octet. octet == 42) text → place < length text → front ≡ take place text → back ≡ drop place text → rest ≡ drop 1 back → parts_of text ≡ front ∷ parts_of rest
unfolding parts_of
parts_of-first text place front back rest is within before behind next =
    let less : position_or_len is_star text < length text = omega (arith, is) in
    slice_split_first is_star text 0 less
    ∙ ap (λ (t : List ℕ). t ∷ slice_split is_star (drop (position_or_len is_star text + 1) text)) (ap (λ (n : ℕ). take n text) (sym is) ∙ sym before)
    ∙ ap (λ (t : List ℕ). front ∷ slice_split is_star t) (ap (λ (n : ℕ). drop (n + 1) text) (sym is) ∙ sym (next ∙ ap (drop 1) behind ∙ drop-drop 1 place text))

-- a text without an asterisk is the one
pub parts_of-none : (text : List ℕ) (place : ℕ) → place ≡ position_or_len (λ octet. octet == 42) text → length text ≤ place → parts_of text ≡ text ∷ []
unfolding parts_of
parts_of-none text place is beyond =
    slice_split_none is_star text (All-from_get_or (λ octet. (octet == 42) ≡ false) text 0 (λ i within. fails_before_first is_star text i 0 (omega (arith, is))))

-- there is a first text
pub first_part : (text : List ℕ) → (first : List ℕ) × (rest : List (List ℕ)) × (parts_of text ≡ first ∷ rest)
unfolding parts_of
first_part [] = ([], [], refl)
first_part (x ∷ xs) = begun (is_star x) (first_part xs)
  where
    begun : (star : Bool) → (first : List ℕ) × (rest : List (List ℕ)) × (parts_of xs ≡ first ∷ rest) → (first : List ℕ) × (rest : List (List ℕ)) × (cond star ([] ∷ slice_split is_star xs) (onto_first x (slice_split is_star xs)) ≡ first ∷ rest)
    begun true more = ([], slice_split is_star xs, refl)
    begun false (first, rest, is) = (x ∷ first, rest, ap (onto_first x) is)

-- parts of which the first is not the last
pub any_of-more : (part text : List ℕ) → any_of (part ∷ parts_of text) ≡ value_of part ∷ any_of (parts_of text)
any_of-more part text =
    let (first, rest, is) = first_part text in
    ap (λ (parts : List (List ℕ)). any_of (part ∷ parts)) is ∙ ap (λ (parts : List (List ℕ)). value_of part ∷ any_of parts) (sym is)

-- one part more was read
pub any_of-step : (items done : List (List ℕ)) (one part rest left : List ℕ) (total : List (List ℕ)) → items ≡ done ++ one ∷ [] → one ≡ value_of part → parts_of left ≡ part ∷ parts_of rest → done ++ any_of (parts_of left) ≡ total → items ++ any_of (parts_of rest) ≡ total
any_of-step items done one part rest left total more is cut so_far =
    ap (λ (t : List (List ℕ)). t ++ any_of (parts_of rest)) (more ∙ ap (λ (t : List ℕ). done ++ t ∷ []) is)
    ∙ append_assoc done (value_of part ∷ []) (any_of (parts_of rest))
    ∙ ap (λ (t : List (List ℕ)). done ++ t) (sym (ap any_of cut ∙ any_of-more part rest))
    ∙ so_far

pub final_of-more : (part text : List ℕ) → final_of (part ∷ parts_of text) ≡ final_of (parts_of text)
final_of-more part text =
    let (first, rest, is) = first_part text in
    ap (λ (parts : List (List ℕ)). final_of (part ∷ parts)) is ∙ ap final_of (sym is)

-- an asterisk alone is presence
pub matched_by-alone : (kind first rest : List ℕ) → first ≡ [] → rest ≡ [] → Present kind ≡ matched_by kind (first ∷ parts_of rest)
unfolding parts_of
matched_by-alone kind first rest bare blank =
    ap (λ (t : List ℕ). matched_by kind (t ∷ [] ∷ [])) (sym bare) ∙ ap (λ (t : List ℕ). matched_by kind (first ∷ slice_split is_star t)) (sym blank)

-- other texts between asterisks are parts
pub matched_by-parts : (kind first rest : List ℕ) → (first ≡ [] → rest ≡ [] → ⊥) → matched_by kind (first ∷ parts_of rest) ≡ Parts kind (part_of first) (any_of (parts_of rest)) (final_of (parts_of rest))
unfolding parts_of
matched_by-parts kind [] [] not_alone = absurd (not_alone refl refl)
matched_by-parts kind [] (y ∷ ys) not_alone = begun (is_star y) (first_part ys)
  where
    begun : (star : Bool) → (front : List ℕ) × (more : List (List ℕ)) × (slice_split is_star ys ≡ front ∷ more)
        → matched_by kind ([] ∷ cond star ([] ∷ slice_split is_star ys) (onto_first y (slice_split is_star ys)))
        ≡ Parts kind None (any_of (cond star ([] ∷ slice_split is_star ys) (onto_first y (slice_split is_star ys)))) (final_of (cond star ([] ∷ slice_split is_star ys) (onto_first y (slice_split is_star ys))))
    begun true (front, more, is) = rw is
    begun false (front, more, is) = rw is
matched_by-parts kind (x ∷ xs) rest not_alone = let (front, more, is) = first_part rest in rw is
