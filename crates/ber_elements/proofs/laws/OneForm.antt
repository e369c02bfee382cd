-- An integer has one shortest form, and a written length is no longer than any other spelling.
use Rattle.std.proofs.Common.{◌≡◌, ℕ, suc, ◌+◌, ◌*◌, ◌^◌, ◌<◌, ◌≤◌, List, [], ◌∷◌, length, sym, ap, ◌∙◌, inl, inr, arith}
use Rattle.std.proofs.lemmas.Bool.{cases_lt, lt-ltb, le-ltb}
use Rattle.std.proofs.lemmas.Nat.{mul-le}
use Rattle.std.proofs.Math.Nat.{pow-succ', pow-le-pow_right, mul_assoc}
use Rattle.ber_elements.specs.write.Element.{number_after, SpellsLength}
use Rattle.ber_elements.specs.write.Spelling.{length_octets}
use Rattle.ber_elements.specs.Laws.{AreOctets}

-- octets spell a number below the one that one more leading 1 would spell
pub number_most : (n : ℕ) (octets : List ℕ) → AreOctets octets → number_after n octets < (n + 1) * 256 ^ length octets
number_most n [] fits = omega arith
number_most n (b ∷ octets) fits =
    let power : 256 ^ suc (length octets) ≡ 256 * 256 ^ length octets = pow-succ' 256 (length octets) in
    let grows : 256 * n + b + 1 ≤ (n + 1) * 256 = omega (arith, fits.0) in
    let more : (256 * n + b + 1) * 256 ^ length octets ≤ ((n + 1) * 256) * 256 ^ length octets =
    mul-le (256 * n + b + 1) (256 ^ length octets) ((n + 1) * 256) (256 ^ length octets) grows (omega arith) in
    let regroup : (n + 1) * 256 ^ suc (length octets) ≡ ((n + 1) * 256) * 256 ^ length octets =
    ap (λ (p : ℕ). (n + 1) * p) power ∙ sym (mul_assoc (n + 1) 256 (256 ^ length octets)) in
    omega (arith, number_most (256 * n + b) octets fits.1, more, regroup)

-- ---- lengths

few_octets : (octets : List ℕ) → AreOctets octets → 256 ^ length octets ≤ number_after 0 octets → ⊥
few_octets octets fits h = let most = number_most 0 octets fits in absurd (omega (arith, most))

long_is : (k : ℕ) (octets : List ℕ) → AreOctets octets → 256 ^ k ≤ number_after 0 octets → k < length octets
long_is k octets fits h =
    elim (cases_lt k (length octets)) [
      | inl more ↦ more
      | inr less ↦
          let base : 0 < 256 = omega arith in
          let powers : 256 ^ length octets ≤ 256 ^ k = pow-le-pow_right base less in
          absurd (few_octets octets fits (omega (arith, powers, h)))
    ]

pub shortest_length : (len : ℕ) (spelled : List ℕ) → AreOctets spelled → SpellsLength spelled len → length (length_octets len) ≤ length spelled
unfolding length_octets
shortest_length len [] fits spells = absurd spells
shortest_length len (b ∷ octets) fits spells =
    elim spells [
      | inl short ↦ rw (lt-ltb len 128 (omega arith)) (omega arith)
      | inr long ↦
          let number : number_after 0 octets ≡ len = sym long.3 in
          elim (cases_lt len 128) [
            | inl a ↦ rw (lt-ltb len 128 a) (omega arith)
            | inr a ↦ rw (le-ltb len 128 a) (elim (cases_lt len 256) [
              | inl d ↦ rw (lt-ltb len 256 d) (omega arith)
              | inr d ↦ rw (le-ltb len 256 d) (elim (cases_lt len 65536) [
                | inl e ↦ rw (lt-ltb len 65536 e) (let more = long_is 1 octets fits.1 (omega (arith, number)) in omega (arith, more))
                | inr e ↦ rw (le-ltb len 65536 e) (elim (cases_lt len 16777216) [
                  | inl f ↦ rw (lt-ltb len 16777216 f) (let more = long_is 2 octets fits.1 (omega (arith, number)) in omega (arith, more))
                  | inr f ↦ rw (le-ltb len 16777216 f) (let more = long_is 3 octets fits.1 (omega (arith, number)) in omega (arith, more))
                ])
              ])
            ])
          ]
    ]
