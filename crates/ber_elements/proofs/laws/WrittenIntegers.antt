-- A written integer is the shortest form of it, and is read again.
use Rattle.std.proofs.Common.{◌≡◌, ℕ, ◌+◌, ◌-◌, ◌*◌, ◌^◌, ◌<◌, ◌≤◌, false, eqb, ltb, List, [], ◌∷◌, length, Some, refl, sym, ap, ◌∙◌, inl, inr, arith, w64}
use Rattle.std.specs.Prelude.{ℤ, pos, negsuc, FitsSigned, ◌&&◌}
use Rattle.std.specs.Int.{byte_at, to_be_bytes, from_be_bytes}
use Rattle.std.proofs.lemmas.Bool.{cases_Bool, and_parts, and_from, eqb-true, ltb-true, eq-eqb, lt-ltb, le-ltb, both_ways}
use Rattle.std.proofs.lemmas.List.{length-map}
use Rattle.std.proofs.lemmas.Nat.{from_be_bytes-to_be_bytes_8}
use Rattle.ber_elements.specs.write.Element.{number_after}
use Rattle.ber_elements.specs.Integer.{turned, signed_number, IsShortest, IsInteger, int_at, trimmed, int_octets}
use Rattle.ber_elements.proofs.integer.IntegerLemmas.{int_complete}

-- there is a first octet, and its first bit is clear
unfoldable pub Clear : List ℕ → Type 0
Clear [] = ⊥
Clear (b ∷ octets) = b < 128

-- no first octet only repeats a clear sign
unfoldable pub Trim : List ℕ → Type 0
Trim [] = ⊥
Trim (b ∷ []) = Unit {0}
Trim (b ∷ c ∷ octets) = b ≡ 0 → c < 128 → ⊥

unfoldable pub Octets : List ℕ → Type 0
Octets [] = Unit {0}
Octets (b ∷ octets) = (b < 256) × Octets octets

-- the shortest octets of a natural number with a clear first bit
record IsNatural (octets : List ℕ) (n : ℕ) : Type 0 where
  clear : Clear octets
  trim : Trim octets
  fits : Octets octets
  number : number_after 0 octets ≡ n
  few : length octets ≤ 8

trimmed_is : (octets : List ℕ) (n : ℕ) → Clear octets → Octets octets → number_after 0 octets ≡ n → length octets ≤ 8 → IsNatural (trimmed octets) n
unfolding Clear Trim Octets
trimmed_is [] n clear fits number few = absurd clear
trimmed_is (b ∷ []) n clear fits number few = record { clear = clear; trim = tt; fits = fits; number = number; few = few }
trimmed_is (b ∷ c ∷ octets) n clear fits number few =
    elim (cases_Bool (eqb b 0 && ltb c 128)) [
      | inl spare ↦
          let parts = and_parts (eqb b 0) (ltb c 128) spare in
          let zero : b ≡ 0 = eqb-true b 0 parts.0 in
          let start : 0 ≡ 256 * 0 + b = omega arith in
          rw spare (trimmed_is (c ∷ octets) n (ltb-true c 128 parts.1) fits.1 (ap (λ (k : ℕ). number_after k (c ∷ octets)) start ∙ number) (omega arith))
      | inr needed ↦
          rw needed (record {
            clear = clear;
            trim = (λ zero low. both_ways (eqb b 0 && ltb c 128) needed (and_from (eqb b 0) (ltb c 128) (eq-eqb b 0 zero) (lt-ltb c 128 low)));
            fits = fits;
            number = number;
            few = few;
          })
    ]

pub turned_turned : (octets : List ℕ) → Octets octets → turned (turned octets) ≡ octets
unfolding Octets
turned_turned [] h = refl
turned_turned (b ∷ octets) h =
    let same : 255 - (255 - b) ≡ b = omega (arith, h.0) in
    rw (same, turned_turned octets h.1) refl

natural_shortest : (octets : List ℕ) → Clear octets → Trim octets → IsShortest octets
unfolding Clear Trim
natural_shortest [] clear trim = absurd clear
natural_shortest (b ∷ []) clear trim = tt
natural_shortest (b ∷ c ∷ octets) clear trim = (trim, λ full high. absurd (omega arith))

natural_stands : (octets : List ℕ) → Clear octets → pos (number_after 0 octets) ≡ signed_number octets
unfolding Clear
natural_stands [] clear = absurd clear
natural_stands (b ∷ octets) clear = rw (lt-ltb b 128 clear) refl

turned_shortest : (octets : List ℕ) → Clear octets → Trim octets → IsShortest (turned octets)
unfolding Clear Trim
turned_shortest [] clear trim = absurd clear
turned_shortest (b ∷ []) clear trim = tt
turned_shortest (b ∷ c ∷ octets) clear trim = (λ zero low. absurd (omega arith), λ full high. trim (omega arith) (omega arith))

turned_stands : (octets : List ℕ) → Clear octets → Octets octets → negsuc (number_after 0 octets) ≡ signed_number (turned octets)
unfolding Clear
turned_stands [] clear fits = absurd clear
turned_stands (b ∷ octets) clear fits =
    let high : ltb (255 - b) 128 ≡ false = le-ltb (255 - b) 128 (omega arith) in
    rw high (ap (λ (s : List ℕ). negsuc (number_after 0 s)) (sym (turned_turned (b ∷ octets) fits)))

eight : (a b c d e f g h : ℕ) → number_after 0 (a ∷ b ∷ c ∷ d ∷ e ∷ f ∷ g ∷ h ∷ []) ≡ from_be_bytes w64 (a ∷ b ∷ c ∷ d ∷ e ∷ f ∷ g ∷ h ∷ [])
eight a b c d e f g h = omega arith

written_natural : (n : ℕ) → n < 2 ^ 63 → IsNatural (trimmed (to_be_bytes w64 n)) n
unfolding Clear Octets
written_natural n below =
    let clear : Clear (to_be_bytes w64 n) = omega arith in
    let fits : Octets (to_be_bytes w64 n) = (omega arith, (omega arith, (omega arith, (omega arith, (omega arith, (omega arith, (omega arith, (omega arith, tt)))))))) in
    let number : number_after 0 (to_be_bytes w64 n) ≡ n =
    eight (byte_at 7 n) (byte_at 6 n) (byte_at 5 n) (byte_at 4 n) (byte_at 3 n) (byte_at 2 n) (byte_at 1 n) (byte_at 0 n) ∙ from_be_bytes-to_be_bytes_8 n (omega arith) in
    trimmed_is (to_be_bytes w64 n) n clear fits number (omega arith)

-- a written integer is the shortest form of it, of at most eight octets
pub int_spells : (value : ℤ) → FitsSigned w64 value → IsInteger (int_octets value) value × (length (int_octets value) ≤ 8)
unfolding int_octets
int_spells (pos n) fits =
    let is = written_natural n fits.sfits in
    let natural : ltb n 0 ≡ false = le-ltb n 0 (omega arith) in
    rw natural (
      record {
        shortest = natural_shortest (trimmed (to_be_bytes w64 n)) is.clear is.trim;
        stands = ap (λ (k : ℕ). pos k) (sym is.number) ∙ natural_stands (trimmed (to_be_bytes w64 n)) is.clear;
      },
      is.few,
    )
int_spells (negsuc n) fits =
    let is = written_natural n fits.sfits in (
      record {
        shortest = turned_shortest (trimmed (to_be_bytes w64 n)) is.clear is.trim;
        stands = ap (λ (k : ℕ). negsuc k) (sym is.number) ∙ turned_stands (trimmed (to_be_bytes w64 n)) is.clear is.fits;
      },
      omega (arith, is.few, length-map (trimmed (to_be_bytes w64 n)) (λ (b : ℕ). 255 - b)),
    )

-- a written integer is read again
pub written_integer : (value : ℤ) → FitsSigned w64 value → int_at (int_octets value) ≡ Some value
written_integer value fits =
    let is = int_spells value fits in
    int_complete (int_octets value) value is.0 is.1
