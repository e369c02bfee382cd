-- The printed form of a good name spells it, and is read as it.
use Rattle.std.proofs.Common.{◌≡◌, ◌≢◌, ℕ, Bool, true, false, List, [], ◌∷◌, ◌++◌, inl, inr, refl, sym, ap, subst, ◌∙◌, arith}
use Rattle.std.specs.Prelude.{◌==◌, if◌then◌else◌, slice_index}
use Rattle.std.proofs.lemmas.Bool.Decides.{nat_tests}
use Rattle.dn_names.specs.declared.classes.Class.{Class}
use Rattle.dn_names.specs.declared.classes.Class.TheVariants.{Space, Nul}
use Rattle.dn_names.specs.Classes.{class_of, is_plain, is_escapable, is_hex}
use Rattle.dn_names.specs.Spelling.{IsPiece, SpellsOctets, SpellsValue}
use Rattle.dn_names.specs.Printing.{is_escaped, print_octet, is_empty, print_from, print_value}

-- how a printed octet stands for the octet
escaped_class : (first last : Bool) (k : Class) → is_escaped first last k ≡ true → is_escapable k ≡ true
escaped_class first last Space h = refl
escaped_class first last k h = cc

abbrev is_nul : Class → Bool
is_nul Nul = true
is_nul k = false

not_nul : (x : ℕ) → (x == 0) ≡ false → is_nul (class_of x) ≡ false
unfolding class_of
not_nul x z = grind (arith, nat_tests)

bare_class : (first last : Bool) (k : Class) → is_escaped first last k ≡ false → is_nul k ≡ false → is_plain k ≡ true
bare_class first last Space h z = refl
bare_class first last k h z = cc

zero_hex : is_hex (class_of 48) ≡ true
unfolding class_of
zero_hex = refl

piece_printed : (first last : Bool) (x : ℕ) → IsPiece x (print_octet first last x)
piece_printed first last x =
    elim (is_escaped first last (class_of x)) as (λ b. is_escaped first last (class_of x) ≡ b → IsPiece x (if b then 92 ∷ x ∷ [] else if x == 0 then 92 ∷ 48 ∷ 48 ∷ [] else x ∷ [])) [
      | true ↦ λ e. inr (inl (refl, escaped_class first last (class_of x) e))
      | false ↦ λ e. elim (x == 0) as (λ z. (x == 0) ≡ z → IsPiece x (if z then 92 ∷ 48 ∷ 48 ∷ [] else x ∷ [])) [
        | true ↦ λ z. inr (inr (48, 48, refl, zero_hex, zero_hex, grind (arith, nat_tests)))
        | false ↦ λ z. inl (refl, bare_class first last (class_of x) e (not_nul x z))
      ] refl
    ] refl

-- no bare space stands at an end, and no bare # at the front
space_escaped : (first : Bool) → print_octet first true 32 ≡ 92 ∷ 32 ∷ []
unfolding class_of
space_escaped true = refl
space_escaped false = refl

last_octet : (first : Bool) (x : ℕ) → print_octet first true x ≢ 32 ∷ []
last_octet first x =
    elim (x == 32) as (λ b. (x == 32) ≡ b → print_octet first true x ≢ 32 ∷ []) [
      | true ↦ λ e bare. (let same : x ≡ 32 = grind (arith, nat_tests) in
          let is = ap (print_octet first true) same ∙ space_escaped first in let clash = sym is ∙ bare in cc)
      | false ↦ λ e bare. other_octet first x e bare
    ] refl
  where
    other_octet : (first : Bool) (x : ℕ) → (x == 32) ≡ false → print_octet first true x ≡ 32 ∷ [] → ⊥
    other_octet first x e bare =
        elim (is_escaped first true (class_of x)) as (λ b. (if b then 92 ∷ x ∷ [] else if x == 0 then 92 ∷ 48 ∷ 48 ∷ [] else x ∷ []) ≡ 32 ∷ [] → ⊥) [
          | true ↦ λ h. cc
          | false ↦ elim (x == 0) as (λ z. (if z then 92 ∷ 48 ∷ 48 ∷ [] else x ∷ []) ≡ 32 ∷ [] → ⊥) [
            | true ↦ λ h. cc
            | false ↦ λ h. (let same : x ≡ 32 = cc in grind (arith, nat_tests, e, same))
          ]
        ] bare

octets_printed : (first : Bool) (octets : List ℕ) → SpellsOctets octets (print_from first octets)
octets_printed first [] = tt
octets_printed first (x ∷ xs) = (print_octet first (is_empty xs) x, print_from false xs, refl, piece_printed first (is_empty xs) x, octets_printed false xs, λ nil. subst (λ (t : List ℕ). print_octet first (is_empty t) x ≢ 32 ∷ []) (sym nil) (last_octet first x))

bare_front : (last : Bool) (x : ℕ) → is_escaped true last (class_of x) ≡ false → (x ≢ 32) × (x ≢ 35)
unfolding class_of
bare_front last x h = ((λ e. (let clash = rw e at h in cc)), λ e. (let clash = rw e at h in cc))

-- a value may begin so
abbrev IsFront : List ℕ → Type 0
IsFront text = (slice_index text 0 ≢ 32) × (slice_index text 0 ≢ 35)

front_octet : (last : Bool) (x : ℕ) (rest : List ℕ) → IsFront (print_octet true last x ++ rest)
front_octet last x rest =
    elim (is_escaped true last (class_of x)) as (λ b. is_escaped true last (class_of x) ≡ b → IsFront ((if b then 92 ∷ x ∷ [] else if x == 0 then 92 ∷ 48 ∷ 48 ∷ [] else x ∷ []) ++ rest)) [
      | true ↦ λ h. backslash (x ∷ rest)
      | false ↦ λ h. elim (x == 0) as (λ z. IsFront ((if z then 92 ∷ 48 ∷ 48 ∷ [] else x ∷ []) ++ rest)) [
        | true ↦ backslash (48 ∷ 48 ∷ rest)
        | false ↦ bare_front last x h
      ]
    ] refl
  where
    backslash : (more : List ℕ) → IsFront (92 ∷ more)
    backslash more = ((λ e. omega (arith, e)), λ e. omega (arith, e))

value_front : (octets : List ℕ) → IsFront (print_from true octets)
value_front [] = ((λ e. omega (arith, e)), λ e. omega (arith, e))
value_front (x ∷ xs) = front_octet (is_empty xs) x (print_from false xs)

pub value_printed : (octets : List ℕ) → SpellsValue octets (print_value octets)
unfolding print_value
value_printed octets = ([], print_from true octets, refl, tt, (value_front octets).0, (value_front octets).1, octets_printed true octets)
