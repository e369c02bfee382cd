-- Whether octets are UTF-8.
use Rattle.std.proofs.Common.{◌≡◌, ℕ, List, true, false, refl, sym}
use Rattle.std.specs.Prelude.{IsUtf8}
use Rattle.std.specs.Str.{is_utf8}
use Rattle.std.proofs.lemmas.Str.{IsUtf8-from_is_utf8, is_utf8-from_IsUtf8}

pub is_text : (octets : List ℕ) → IsUtf8 octets → true ≡ is_utf8 octets
is_text octets fact = sym (is_utf8-from_IsUtf8 octets fact)

pub no_text : (octets : List ℕ) → ¬ (IsUtf8 octets) → false ≡ is_utf8 octets
no_text octets refuted =
    elim (is_utf8 octets) as (λ b. is_utf8 octets ≡ b → false ≡ b) [
      | true ↦ λ e. absurd (refuted (IsUtf8-from_is_utf8 octets e))
      | false ↦ λ _. refl
    ] refl
