-- Values without escapes, and keys without octets 00, stand for themselves.
use Rattle.std.proofs.Common.{◌≡◌, ◌≢◌, ℕ, zero, suc, ◌+◌, Bool, true, false, List, [], ◌∷◌, ◌++◌, length, get_or, refl, sym, ap, ◌∙◌, arith, eqb-true}
use Rattle.std.specs.Prelude.{◌==◌, not, cond, if◌then◌else◌}
use Rattle.std.specs.List.{position_or_len}
use Rattle.std.proofs.lemmas.Bool.{cond-false}
use Rattle.dn_names.specs.declared.octets.Reading.TheVariants.{Plain, Escaped}
use Rattle.dn_names.specs.Reading.{spaced, octets_from}
use Rattle.dn_names.specs.path.PathKeys.{escape}

-- where the octet is nowhere, it is not the first, and nowhere after it
none_more : (b : Bool) (place count : ℕ) → cond (not b) (1 + place) 0 ≡ suc count → (b ≡ false) × (place ≡ count)
none_more true place count h = absurd (omega (arith, h))
none_more false place count h = (refl, omega (arith, h))

spaced-more : (octets : List ℕ) → octets ≢ [] → spaced octets ≡ 32 ∷ octets
spaced-more [] h = absurd (h refl)
spaced-more (x ∷ xs) h = refl

bare_piece : (x : ℕ) (xs : List ℕ) → (x == 92) ≡ false → octets_from Plain xs ≡ xs → (x ≡ 32 → xs ≢ []) → octets_from Plain (x ∷ xs) ≡ x ∷ xs
bare_piece x xs other e more =
    cond-false (x == 92) (octets_from Escaped xs) (if x == 32 then spaced (octets_from Plain xs) else x ∷ octets_from Plain xs) other
    ∙ (elim (x == 32) as (λ b. (x == 32) ≡ b → (if b then spaced (octets_from Plain xs) else x ∷ octets_from Plain xs) ≡ x ∷ xs) [
      | true ↦ λ is. ap spaced e ∙ spaced-more xs (more (eqb-true x 32 is)) ∙ ap (λ y. y ∷ xs) (sym (eqb-true x 32 is))
      | false ↦ λ _. ap (λ t. x ∷ t) e
    ] refl)

-- a text without a backslash whose last octet is no space
pub octets_from_bare : (text : List ℕ) (last : ℕ) → position_or_len (λ octet. octet == 92) text ≡ length text → suc last ≡ length text → get_or text last 0 ≢ 32 → octets_from Plain text ≡ text
octets_from_bare [] last none end other = refl
octets_from_bare (x ∷ []) zero none end other = bare_piece x [] (none_more (x == 92) 0 0 none).0 refl (λ space. absurd (other space))
octets_from_bare (x ∷ []) (suc last) none end other = absurd (omega (arith, end))
octets_from_bare (x ∷ y ∷ ys) zero none end other = absurd (omega (arith, end))
octets_from_bare (x ∷ y ∷ ys) (suc last) none end other =
    let more = none_more (x == 92) (position_or_len (λ octet. octet == 92) (y ∷ ys)) (length (y ∷ ys)) none in
    bare_piece x (y ∷ ys) more.0 (octets_from_bare (y ∷ ys) last more.1 (omega (arith, end)) other) (λ _ nil. absurd (omega (arith, ap length nil)))

-- a key without an octet 00
pub escape_bare : (octets : List ℕ) → position_or_len (λ octet. octet == 0) octets ≡ length octets → escape octets ≡ octets ++ 0 ∷ 0 ∷ []
escape_bare [] none = refl
escape_bare (zero ∷ octets) none = absurd (omega (arith, none))
escape_bare (suc n ∷ octets) none = ap (λ t. suc n ∷ t) (escape_bare octets (none_more (suc n == 0) (position_or_len (λ octet. octet == 0) octets) (length octets) none).1)
