-- Whether the octets of a part are UTF-8.
use Rattle.std.proofs.Common.{◌≡◌, ℕ, List, true, false, refl, sym, ◌∙◌, ap, subst}
use Rattle.std.specs.Prelude.{IsUtf8, Some, None, if◌then◌else◌}
use Rattle.std.specs.Str.{is_utf8}
use Rattle.std.proofs.lemmas.Str.{IsUtf8-from_is_utf8, is_utf8-from_IsUtf8}
use Rattle.gser_tree.specs.declared.part.Part.{Part}
use Rattle.gser_tree.specs.TextOf.{part_at}

-- a test of octets
pub is_text : (octets : List ℕ) → IsUtf8 octets → true ≡ is_utf8 octets
is_text octets fact = sym (is_utf8-from_IsUtf8 octets fact)

pub no_text : (octets : List ℕ) → ¬ (IsUtf8 octets) → false ≡ is_utf8 octets
no_text octets refuted =
    elim (is_utf8 octets) as (λ b. is_utf8 octets ≡ b → false ≡ b) [
      | true ↦ λ e. absurd (refuted (IsUtf8-from_is_utf8 octets e))
      | false ↦ λ _. refl
    ] refl

-- a part whose octets passed
pub chosen_text : (part : Part) (place : ℕ) (octets made : List ℕ) → part_at place octets ≡ part → is_utf8 octets ≡ true → made ≡ octets
    → Some (part_at place made) ≡ (if is_utf8 part.text then Some part else None)
chosen_text part place octets made is test from =
    let chosen : Some (part_at place octets) ≡ (if is_utf8 octets then Some (part_at place octets) else None) = rw test refl in
    ap (λ m. Some (part_at place m)) from
    ∙ subst (λ (p : Part). Some (part_at place octets) ≡ (if is_utf8 p.text then Some p else None)) is chosen
