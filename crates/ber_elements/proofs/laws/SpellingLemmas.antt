-- What is written is a spelling, the shortest, and is read again.
use Rattle.std.proofs.Common.{◌≡◌, ℕ, ◌^◌, ◌<◌, List, [], ◌∷◌, ◌++◌, length, refl, sym, ap, ◌∙◌, inl, inr, arith, w32}
use Rattle.std.specs.Int.{byte_at, bytes_high_first, from_be_bytes}
use Rattle.std.proofs.lemmas.Bool.{cases_lt, lt-ltb, le-ltb}
use Rattle.std.proofs.lemmas.Nat.{from_be_bytes-to_be_bytes_4}
use Rattle.ber_elements.specs.declared.kinds.Header.TheVariants.{Head}
use Rattle.ber_elements.specs.write.Element.{number_after, SpellsLength, IsTag, IsHeader}
use Rattle.ber_elements.specs.Heading.{header_at}
use Rattle.ber_elements.specs.write.Spelling.{length_octets, header_octets}
use Rattle.ber_elements.proofs.laws.HeadingLemmas.{header_again}

four : (a b c d : ℕ) → number_after 0 (a ∷ b ∷ c ∷ d ∷ []) ≡ from_be_bytes w32 (a ∷ b ∷ c ∷ d ∷ [])
four a b c d = omega arith

-- the lowest octets spell a number that has no more
spells_four : (len : ℕ) → len < 2 ^ 32 → number_after 0 (bytes_high_first 4 len) ≡ len
spells_four len h = four (byte_at 3 len) (byte_at 2 len) (byte_at 1 len) (byte_at 0 len) ∙ from_be_bytes-to_be_bytes_4 len h

spells_three : (len : ℕ) → len < 16777216 → number_after 0 (bytes_high_first 3 len) ≡ len
spells_three len h =
    let top : byte_at 3 len ≡ 0 = omega arith in
    ap (λ (n : ℕ). number_after n (bytes_high_first 3 len)) (sym top) ∙ omega (arith, spells_four len (omega arith))

spells_two : (len : ℕ) → len < 65536 → number_after 0 (bytes_high_first 2 len) ≡ len
spells_two len h = omega arith

spells_one : (len : ℕ) → len < 256 → number_after 0 (bytes_high_first 1 len) ≡ len
spells_one len h = omega arith

-- the written length is a spelling of it
pub length_spells : (len : ℕ) → len < 2 ^ 32 → SpellsLength (length_octets len) len
unfolding length_octets
length_spells len h =
    elim (cases_lt len 128) [
      | inl short ↦ rw (lt-ltb len 128 short) (inl (short, refl, refl))
      | inr long ↦ rw (le-ltb len 128 long) (
          elim (cases_lt len 256) [
            | inl one ↦ rw (lt-ltb len 256 one) (inr (omega arith, omega arith, refl, sym (spells_one len one)))
            | inr more ↦ rw (le-ltb len 256 more) (
                elim (cases_lt len 65536) [
                  | inl two ↦ rw (lt-ltb len 65536 two) (inr (omega arith, omega arith, refl, sym (spells_two len two)))
                  | inr above ↦ rw (le-ltb len 65536 above) (
                      elim (cases_lt len 16777216) [
                        | inl three ↦ rw (lt-ltb len 16777216 three) (inr (omega arith, omega arith, refl, sym (spells_three len three)))
                        | inr most ↦ rw (le-ltb len 16777216 most) (inr (omega arith, omega arith, refl, sym (spells_four len h)))
                      ])
                ])
          ])
    ]

pub header_spells : (tag len : ℕ) → IsTag tag → len < 2 ^ 32 → IsHeader (header_octets tag len) tag len
header_spells tag len is_tag h = (refl, is_tag, length_spells len h)

-- a written header is read again, whatever follows it
pub written_header : (tag len : ℕ) (rest : List ℕ) → IsTag tag → len < 2 ^ 32
    → header_at (header_octets tag len ++ rest) ≡ Head tag (length (header_octets tag len)) len
written_header tag len rest is_tag h = header_again (header_octets tag len) rest tag len (header_spells tag len is_tag h)
