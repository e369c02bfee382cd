-- An integer has one shortest form.
use Rattle.std.proofs.Common.{◌≡◌, ℕ, ◌+◌, ◌-◌, ◌*◌, ◌^◌, ◌<◌, ◌≤◌, List, [], ◌∷◌, length, refl, sym, ap, ◌∙◌, inl, inr, arith}
use Rattle.std.specs.Prelude.{ℤ, pos, negsuc}
use Rattle.std.proofs.lemmas.Bool.{cases_lt, lt-ltb, le-ltb}
use Rattle.std.proofs.lemmas.Nat.{mul-le}
use Rattle.std.proofs.Math.Nat.{pow-le-pow_right}
use Rattle.ber_elements.specs.write.Element.{number_after}
use Rattle.ber_elements.specs.Integer.{turned, signed_number, IsShortest, IsInteger, magnitude}
use Rattle.ber_elements.specs.Laws.{AreOctets}
use Rattle.ber_elements.proofs.number.NumberLemmas.{number_least}
use Rattle.ber_elements.proofs.laws.OneForm.{number_most}
use Rattle.ber_elements.proofs.laws.WrittenIntegers.{Clear, Trim, Octets, turned_turned}

record SameDigits (n n' : ℕ) (xs ys : List ℕ) : Type 0 where
  front : n ≡ n'
  octets : xs ≡ ys

-- as many octets that spell one number are the same
same_digits : (n n' : ℕ) (xs ys : List ℕ) → AreOctets xs → AreOctets ys → length xs ≡ length ys → number_after n xs ≡ number_after n' ys → SameDigits n n' xs ys
same_digits n n' [] [] fx fy count e = record { front = e; octets = refl }
same_digits n n' [] (y ∷ ys) fx fy count e = absurd (omega arith)
same_digits n n' (x ∷ xs) [] fx fy count e = absurd (omega arith)
same_digits n n' (x ∷ xs) (y ∷ ys) fx fy count e =
    let behind = same_digits (256 * n + x) (256 * n' + y) xs ys fx.1 fy.1 (omega arith) e in
    let front : n ≡ n' = omega (arith, behind.front, fx.0, fy.0) in
    let first : x ≡ y = omega (arith, behind.front, front) in
    record { front = front; octets = ap (λ (b : ℕ). b ∷ xs) first ∙ ap (λ (bs : List ℕ). y ∷ bs) behind.octets }

-- ---- numbers with a clear first bit

upper : (xs : List ℕ) → Clear xs → AreOctets xs → number_after 0 xs < 128 * 256 ^ (length xs - 1)
unfolding Clear
upper [] clear fits = absurd clear
upper (b ∷ octets) clear fits =
    let count : length (b ∷ octets) - 1 ≡ length octets = omega arith in
    let product : (256 * 0 + b + 1) * 256 ^ length octets ≤ 128 * 256 ^ length octets =
    mul-le (256 * 0 + b + 1) (256 ^ length octets) 128 (256 ^ length octets) (omega arith) (omega arith) in
    let power : 256 ^ (length (b ∷ octets) - 1) ≡ 256 ^ length octets = ap (λ (k : ℕ). 256 ^ k) count in
    omega (arith, number_most (256 * 0 + b) octets fits.1, product, power)

lower : (ys : List ℕ) → Trim ys → 2 ≤ length ys → 128 * 256 ^ (length ys - 2) ≤ number_after 0 ys
unfolding Trim
lower [] trim long = absurd trim
lower (b ∷ []) trim long = absurd (omega arith)
lower (b ∷ c ∷ octets) trim long =
    let count : length (b ∷ c ∷ octets) - 2 ≡ length octets = omega arith in
    let power : 256 ^ (length (b ∷ c ∷ octets) - 2) ≡ 256 ^ length octets = ap (λ (k : ℕ). 256 ^ k) count in
    let large : 128 ≤ 256 * (256 * 0 + b) + c = elim (cases_lt c 128) [
      | inl low ↦ let some : b ≡ 0 → ⊥ = λ zero. trim zero low in omega (arith, some)
      | inr high ↦ omega arith
    ] in
    let product : 128 * 256 ^ length octets ≤ (256 * (256 * 0 + b) + c) * 256 ^ length octets =
    mul-le 128 (256 ^ length octets) (256 * (256 * 0 + b) + c) (256 ^ length octets) large (omega arith) in
    omega (arith, number_least (256 * (256 * 0 + b) + c) octets, product, power)

-- a shorter form spells a smaller number
shorter_below : (xs ys : List ℕ) → Clear xs → AreOctets xs → Trim ys → 1 ≤ length xs → length xs < length ys → number_after 0 xs < number_after 0 ys
shorter_below xs ys clear fits trim some less =
    let base : 0 < 256 = omega arith in
    let order : length xs - 1 ≤ length ys - 2 = omega arith in
    let powers : 256 ^ (length xs - 1) ≤ 256 ^ (length ys - 2) = pow-le-pow_right base order in
    let long : 2 ≤ length ys = omega arith in
    omega (arith, upper xs clear fits, lower ys trim long, powers)

some_octet : (xs : List ℕ) → Clear xs → 1 ≤ length xs
unfolding Clear
some_octet [] clear = absurd clear
some_octet (b ∷ octets) clear = omega arith

same_natural : (xs ys : List ℕ) → Clear xs → Trim xs → AreOctets xs → Clear ys → Trim ys → AreOctets ys → number_after 0 xs ≡ number_after 0 ys → xs ≡ ys
same_natural xs ys cx tx fx cy ty fy e =
    elim (cases_lt (length xs) (length ys)) [
      | inl less ↦ let below = shorter_below xs ys cx fx ty (some_octet xs cx) less in absurd (omega (arith, below, e))
      | inr not_less ↦
          elim (cases_lt (length ys) (length xs)) [
            | inl more ↦ let below = shorter_below ys xs cy fy tx (some_octet ys cy) more in absurd (omega (arith, below, e))
            | inr not_more ↦ (same_digits 0 0 xs ys fx fy (omega arith) e).octets
          ]
    ]

-- ---- both signs

octets_are : (xs : List ℕ) → AreOctets xs → Octets xs
unfolding Octets
octets_are [] fits = tt
octets_are (b ∷ octets) fits = (fits.0, octets_are octets fits.1)

turned_octets : (xs : List ℕ) → AreOctets (turned xs)
turned_octets [] = tt
turned_octets (b ∷ octets) = (omega arith, turned_octets octets)

-- the content of a natural number, or of a negative one with each bit turned
record IsForm (octets : List ℕ) : Type 0 where
  clear : Clear octets
  trim : Trim octets

natural_form : (b : ℕ) (octets : List ℕ) → IsShortest (b ∷ octets) → b < 128 → IsForm (b ∷ octets)
unfolding Clear Trim
natural_form b [] shortest low = record { clear = low; trim = tt }
natural_form b (c ∷ octets) shortest low = record { clear = low; trim = shortest.0 }

turned_form : (b : ℕ) (octets : List ℕ) → AreOctets (b ∷ octets) → IsShortest (b ∷ octets) → 128 ≤ b → IsForm (turned (b ∷ octets))
unfolding Clear Trim
turned_form b [] fits shortest high = record { clear = omega arith; trim = tt }
turned_form b (c ∷ octets) fits shortest high =
    record { clear = omega arith; trim = λ zero low. shortest.1 (omega (arith, fits.0)) (omega (arith, fits.1.0)) }

stands_natural : (b : ℕ) (octets : List ℕ) → b < 128 → signed_number (b ∷ octets) ≡ pos (number_after 0 (b ∷ octets))
stands_natural b octets low = rw (lt-ltb b 128 low) refl

stands_turned : (b : ℕ) (octets : List ℕ) → 128 ≤ b → signed_number (b ∷ octets) ≡ negsuc (number_after 0 (turned (b ∷ octets)))
stands_turned b octets high = rw (le-ltb b 128 high) refl

both_natural : (m n : ℕ) → pos m ≡ pos n → m ≡ n
both_natural m n e = ap magnitude e

both_negative : (m n : ℕ) → negsuc m ≡ negsuc n → m ≡ n
both_negative m n e = ap magnitude e

pub one_form : (content other : List ℕ) (value : ℤ) → AreOctets content → AreOctets other → IsInteger content value → IsInteger other value → content ≡ other
one_form [] other value fx fy h k = absurd h.shortest
one_form (b ∷ octets) [] value fx fy h k = absurd k.shortest
one_form (b ∷ octets) (c ∷ others) value fx fy h k =
    let stands : signed_number (b ∷ octets) ≡ signed_number (c ∷ others) = sym h.stands ∙ k.stands in
    elim (cases_lt b 128) [
      | inl low ↦
          elim (cases_lt c 128) [
            | inl low' ↦
                let same = both_natural (number_after 0 (b ∷ octets)) (number_after 0 (c ∷ others)) (sym (stands_natural b octets low) ∙ stands ∙ stands_natural c others low') in
                let x = natural_form b octets h.shortest low in
                let y = natural_form c others k.shortest low' in
                same_natural (b ∷ octets) (c ∷ others) x.clear x.trim fx y.clear y.trim fy same
            | inr high' ↦
                let mixed : pos (number_after 0 (b ∷ octets)) ≡ negsuc (number_after 0 (turned (c ∷ others))) = sym (stands_natural b octets low) ∙ stands ∙ stands_turned c others high' in
                absurd cc
          ]
      | inr high ↦
          elim (cases_lt c 128) [
            | inl low' ↦
                let mixed : negsuc (number_after 0 (turned (b ∷ octets))) ≡ pos (number_after 0 (c ∷ others)) = sym (stands_turned b octets high) ∙ stands ∙ stands_natural c others low' in
                absurd cc
            | inr high' ↦
                let same = both_negative (number_after 0 (turned (b ∷ octets))) (number_after 0 (turned (c ∷ others))) (sym (stands_turned b octets high) ∙ stands ∙ stands_turned c others high') in
                let x = turned_form b octets fx h.shortest high in
                let y = turned_form c others fy k.shortest high' in
                let turns = same_natural (turned (b ∷ octets)) (turned (c ∷ others)) x.clear x.trim (turned_octets (b ∷ octets)) y.clear y.trim (turned_octets (c ∷ others)) same in
                sym (turned_turned (b ∷ octets) (octets_are (b ∷ octets) fx)) ∙ ap turned turns ∙ turned_turned (c ∷ others) (octets_are (c ∷ others) fy)
          ]
    ]
