-- The integer that is computed is the one that the content stands for.
use Rattle.std.proofs.Common.{◌*◌, ◌+◌, ◌<◌, ◌^◌, ◌≡◌, ℕ, ◌-◌, ◌≤◌, Bool, true, false, cond, leb, List, [], ◌∷◌, length, drop, Some, None, refl, sym, ap, ◌∙◌, inl, inr, arith}
use Rattle.std.specs.Prelude.{◌&&◌, ℤ, pos, negsuc, int_lt, IfSome}
use Rattle.std.specs.Int.{w64, to_be_bytes}
use Rattle.std.proofs.lemmas.List.{drop-map, length-drop, length-map}
use Rattle.std.proofs.lemmas.Bool.{cond_both, cases_lt, and_parts, and_from, not-true, leb-true, le-leb, lt-ltb, le-ltb, ne_eqb, eqb-false}
use Rattle.std.proofs.lemmas.Nat.{mul-le}
use Rattle.std.proofs.Math.Nat.{pow-le-pow_right}
use Rattle.ber_elements.specs.write.Element.{number_after}
use Rattle.ber_elements.specs.Integer.{turned, signed_number, IsShortest, IsInteger, is_spare, is_shortest, int_at, trimmed, magnitude, int_octets}
use Rattle.ber_elements.proofs.number.NumberLemmas.{number_least}

pub shortest_sound : (content : List ℕ) → is_shortest content ≡ true → IsShortest content
shortest_sound [] e = absurd cc
shortest_sound (b ∷ []) e = tt
shortest_sound (b ∷ c ∷ octets) e =
    let unlike : is_spare b c ≡ false = not-true (is_spare b c) e in (
      λ is low. eqb-false b 0 (rw (lt-ltb c 128 low) at unlike) is,
      λ is high. eqb-false b 255 (rw (le-ltb c 128 high) at unlike) is,
    )

pub shortest_complete : (content : List ℕ) → IsShortest content → is_shortest content ≡ true
shortest_complete [] h = absurd h
shortest_complete (b ∷ []) h = refl
shortest_complete (b ∷ c ∷ octets) h =
    elim (cases_lt c 128) [
      | inl low ↦ rw (lt-ltb c 128 low, ne_eqb b 0 (λ is. h.0 is low)) refl
      | inr high ↦ rw (le-ltb c 128 high, ne_eqb b 255 (λ is. h.1 is high)) refl
    ]

found_by : (content : List ℕ) (test : Bool) → (is_shortest content && leb (length content) 8) ≡ test
    → IfSome (cond test (Some (signed_number content)) None) (λ value. IsInteger content value × (length content ≤ 8))
found_by content true e =
    let parts = and_parts (is_shortest content) (leb (length content) 8) e in
    (record { shortest = shortest_sound content parts.0; stands = refl }, leb-true (length content) 8 parts.1)
found_by content false e = tt

pub int_sound : (content : List ℕ) → IfSome (int_at content) (λ value. IsInteger content value × (length content ≤ 8))
unfolding int_at
int_sound content = found_by content (is_shortest content && leb (length content) 8) refl

pub int_complete : (content : List ℕ) (value : ℤ) → IsInteger content value → length content ≤ 8 → int_at content ≡ Some value
unfolding int_at
int_complete content value h few =
    rw (and_from (is_shortest content) (leb (length content) 8) (shortest_complete content h.shortest) (le-leb (length content) 8 few))
    (ap (λ (z : ℤ). Some z) (sym h.stands))

-- octets of which there is at most one have no spare zero
pub short_trimmed : (octets : List ℕ) → length octets ≤ 1 → trimmed octets ≡ octets
short_trimmed [] h = refl
short_trimmed (b ∷ []) h = refl
short_trimmed (b ∷ c ∷ octets) h = absurd (omega arith)

-- turned octets lose the same front
pub negative_octets : (value : ℤ) (octets now : List ℕ) (spare : ℕ) → int_lt value (pos 0) ≡ true → octets ≡ to_be_bytes w64 (magnitude value)
    → drop spare octets ≡ trimmed octets → now ≡ turned octets → drop spare now ≡ int_octets value
unfolding int_octets
negative_octets value octets now spare negative are front turns =
    let shorter : drop spare (turned octets) ≡ turned (trimmed octets) = drop-map (λ (b : ℕ). 255 - b) spare octets ∙ ap turned front in
    let whole : drop spare now ≡ turned (trimmed (to_be_bytes w64 (magnitude value))) = ap (drop spare) turns ∙ shorter ∙ ap (λ (s : List ℕ). turned (trimmed s)) are in
    rw negative whole

pub natural_octets : (value : ℤ) (octets : List ℕ) (spare : ℕ) → int_lt value (pos 0) ≡ false → octets ≡ to_be_bytes w64 (magnitude value)
    → drop spare octets ≡ trimmed octets → drop spare octets ≡ int_octets value
unfolding int_octets
natural_octets value octets spare natural are front = rw natural (front ∙ ap trimmed are)

-- at least 128 with seven octets behind it passes 2 ^ 63
long_number : (n : ℕ) (octets : List ℕ) → 128 ≤ n → 7 ≤ length octets → 2 ^ 63 ≤ number_after n octets
long_number n octets large long =
    let powers : 256 ^ 7 ≤ 256 ^ length octets = let base : 0 < 256 = omega arith in pow-le-pow_right base long in
    let product : 128 * 256 ^ 7 ≤ n * 256 ^ length octets = mul-le 128 (256 ^ 7) n (256 ^ length octets) large powers in
    omega (arith, product, number_least n octets)

-- the shortest form of a natural number below 2 ^ 63 has at most eight octets
pub natural_short : (content : List ℕ) (n : ℕ) → IsInteger content (pos n) → n < 2 ^ 63 → length content ≤ 8
natural_short [] n h below = omega arith
natural_short (b ∷ []) n h below = omega arith
natural_short (b ∷ c ∷ octets) n h below =
    elim (cases_lt b 128) [
      | inl clear ↦
          let stands : pos n ≡ pos (number_after (256 * (256 * 0 + b) + c) octets) = rw (lt-ltb b 128 clear) at h.stands in
          let same : n ≡ number_after (256 * (256 * 0 + b) + c) octets = ap magnitude stands in
          elim (cases_lt (length octets) 7) [
            | inl few ↦ omega arith
            | inr long ↦
                let large : 128 ≤ 256 * (256 * 0 + b) + c = elim (cases_lt c 128) [
                  | inl low ↦ let some : b ≡ 0 → ⊥ = λ zero. h.shortest.0 zero low in omega (arith, some)
                  | inr high ↦ omega arith
                ] in
                absurd (omega (arith, same, long_number (256 * (256 * 0 + b) + c) octets large long))
          ]
      | inr set ↦
          let stands : pos n ≡ negsuc (number_after 0 (turned (b ∷ c ∷ octets))) = rw (le-ltb b 128 set) at h.stands in
          absurd cc
    ]

-- how many octets are written
pub written_length : (value : ℤ) (octets : List ℕ) (spare : ℕ) → octets ≡ to_be_bytes w64 (magnitude value) → drop spare octets ≡ trimmed octets
    → length (int_octets value) ≡ length octets - spare
unfolding int_octets
written_length value octets spare are front =
    let count : length (trimmed (to_be_bytes w64 (magnitude value))) ≡ length octets - spare =
    ap (λ (s : List ℕ). length (trimmed s)) (sym are) ∙ ap length (sym front) ∙ length-drop spare octets in
    cond_both (int_lt value (pos 0)) (turned (trimmed (to_be_bytes w64 (magnitude value)))) (trimmed (to_be_bytes w64 (magnitude value)))
    (λ (s : List ℕ). length s ≡ length octets - spare)
    (λ negative. length-map (trimmed (to_be_bytes w64 (magnitude value))) (λ (b : ℕ). 255 - b) ∙ count)
    (λ natural. count)
