-- What is left after two fronts is what is left of what is left.
use Rattle.std.proofs.Common.{◌≡◌, ℕ, ◌+◌, ◌-◌, ◌<◌, length, drop, get_or, true, false, List, [], ◌∷◌, ◌++◌, Option, Some, None, refl, sym, ap, ◌∙◌, append_assoc, arith, eqb-true}
use Rattle.std.proofs.lemmas.List.{drop_more, length-drop}
use Rattle.std.proofs.lemmas.Bool.{cond-true}
use Rattle.std.proofs.lemmas.Bool.Decides.{nat_tests}
use Rattle.std.specs.Prelude.{◌==◌, if◌then◌else◌}
use Rattle.dn_names.specs.Printing.{print_octet, is_empty, print_from, join_from}
use Rattle.dn_names.specs.KeyReading.{strip}

-- where the first is there
pub strip_some : (front more octets rest : List ℕ) → strip front octets ≡ Some rest → strip (front ++ more) octets ≡ strip more rest
strip_some [] more octets rest e = (let is : octets ≡ rest = cc in ap (strip more) is)
strip_some (x ∷ front) more [] rest e = absurd cc
strip_some (x ∷ front) more (y ∷ octets) rest e =
    elim (x == y) as (λ b. (if b then strip front octets else None) ≡ Some rest → (if b then strip (front ++ more) octets else None) ≡ strip more rest) [
      | true ↦ λ h. strip_some front more octets rest h
      | false ↦ λ h. absurd cc
    ] e

-- where it isn't
pub strip_none : (front more octets : List ℕ) → strip front octets ≡ None → strip (front ++ more) octets ≡ None
strip_none [] more octets e = absurd cc
strip_none (x ∷ front) more [] e = refl
strip_none (x ∷ front) more (y ∷ octets) e =
    elim (x == y) as (λ b. (if b then strip front octets else None) ≡ None → (if b then strip (front ++ more) octets else None) ≡ None) [
      | true ↦ λ h. strip_none front more octets h
      | false ↦ λ h. refl
    ] e

-- where the first two of three are there, and where they aren't
pub strip_two : (front next more octets rest : List ℕ) → strip (front ++ next) octets ≡ Some rest → strip (front ++ (next ++ more)) octets ≡ strip more rest
strip_two front next more octets rest e = ap (λ t. strip t octets) (sym (append_assoc front next more)) ∙ strip_some (front ++ next) more octets rest e

pub strip_two_none : (front next more octets : List ℕ) → strip (front ++ next) octets ≡ None → strip (front ++ (next ++ more)) octets ≡ None
strip_two_none front next more octets e = ap (λ t. strip t octets) (sym (append_assoc front next more)) ∙ strip_none (front ++ next) more octets e

same : (x : ℕ) → (x == x) ≡ true
same x = grind (arith, nat_tests)

-- nothing is left of the front alone
pub strip_all : (front : List ℕ) → strip front front ≡ Some []
strip_all [] = refl
strip_all (x ∷ front) = cond-true (x == x) (strip front front) None (same x) ∙ strip_all front

pub strip_nil : (front octets : List ℕ) → strip front octets ≡ Some [] → octets ≡ front
strip_nil [] octets e = cc
strip_nil (x ∷ front) [] e = absurd cc
strip_nil (x ∷ front) (y ∷ octets) e =
    elim (x == y) as (λ b. (x == y) ≡ b → (if b then strip front octets else None) ≡ Some [] → y ∷ octets ≡ x ∷ front) [
      | true ↦ λ is h. (let heads = eqb-true x y is in let tails = strip_nil front octets h in cc)
      | false ↦ λ _ h. absurd cc
    ] refl e

not_first : (i : ℕ) → (i + 1 == 0) ≡ false
not_first i = grind (arith, nat_tests)

module _ {A : Type 0} (mark : ℕ) (show : A → List ℕ) (xs : List A) (i : ℕ) (x : A) (rest : List ℕ) (total : Option (List ℕ)) (left : drop i xs ≡ x ∷ drop (i + 1) xs) (e : strip (join_from mark show (i == 0) (drop i xs)) rest ≡ total) where
  -- one item more is there
  pub strip_next : (others : List ℕ) → strip ((if i == 0 then [] else mark ∷ []) ++ show x) rest ≡ Some others → strip (join_from mark show (i + 1 == 0) (drop (i + 1) xs)) others ≡ total
  strip_next others there =
      ap (λ b. strip (join_from mark show b (drop (i + 1) xs)) others) (not_first i)
      ∙ sym (strip_two (if i == 0 then [] else mark ∷ []) (show x) (join_from mark show false (drop (i + 1) xs)) rest others there)
      ∙ ap (λ t. strip (join_from mark show (i == 0) t) rest) (sym left)
      ∙ e

  -- and where it isn't
  pub strip_stop : strip ((if i == 0 then [] else mark ∷ []) ++ show x) rest ≡ None → None ≡ total
  strip_stop there =
      sym (strip_two_none (if i == 0 then [] else mark ∷ []) (show x) (join_from mark show false (drop (i + 1) xs)) rest there)
      ∙ ap (λ t. strip (join_from mark show (i == 0) t) rest) (sym left)
      ∙ e

length_of : (xs : List ℕ) → is_empty xs ≡ (length xs == 0)
length_of [] = refl
length_of (x ∷ xs) = grind (arith, nat_tests)

-- nothing stands behind the last octet
is_last : (xs : List ℕ) (i : ℕ) → i < length xs → is_empty (drop (i + 1) xs) ≡ (i == length xs - 1)
is_last xs i within = length_of (drop (i + 1) xs) ∙ ap (λ n. n == 0) (length-drop (i + 1) xs) ∙ none_left (length xs) i within
  where
    none_left : (n i : ℕ) → i < n → (n - (i + 1) == 0) ≡ (i == n - 1)
    none_left n i within = grind (arith, nat_tests)

module _ (value : List ℕ) (i : ℕ) (within : i < length value) (rest : List ℕ) (total : Option (List ℕ)) (e : strip (print_from (i == 0) (drop i value)) rest ≡ total) where
  this_octet : strip (print_octet (i == 0) (i == length value - 1) (get_or value i 0) ++ print_from false (drop (i + 1) value)) rest ≡ total
  this_octet =
      ap (λ b. strip (print_octet (i == 0) b (get_or value i 0) ++ print_from false (drop (i + 1) value)) rest) (sym (is_last value i within))
      ∙ ap (λ t. strip (print_from (i == 0) t) rest) (sym (drop_more value i 0 within))
      ∙ e

  -- one octet more of a value is there
  pub strip_octet : (others : List ℕ) → strip (print_octet (i == 0) (i == length value - 1) (get_or value i 0)) rest ≡ Some others → strip (print_from (i + 1 == 0) (drop (i + 1) value)) others ≡ total
  strip_octet others there =
      ap (λ b. strip (print_from b (drop (i + 1) value)) others) (not_first i)
      ∙ sym (strip_some (print_octet (i == 0) (i == length value - 1) (get_or value i 0)) (print_from false (drop (i + 1) value)) rest others there)
      ∙ this_octet

  -- and where it isn't
  pub strip_no_octet : strip (print_octet (i == 0) (i == length value - 1) (get_or value i 0)) rest ≡ None → None ≡ total
  strip_no_octet there =
      sym (strip_none (print_octet (i == 0) (i == length value - 1) (get_or value i 0)) (print_from false (drop (i + 1) value)) rest there)
      ∙ this_octet

-- where the front goes on and the octets have ended
pub strip_ended : (front : List ℕ) (i : ℕ) (rest : List ℕ) (total : Option (List ℕ)) → i < length front → (length rest == 0) ≡ true → strip (drop i front) rest ≡ total → None ≡ total
strip_ended front i [] total within ended e = sym (ap (λ t. strip t []) (drop_more front i 0 within)) ∙ e
strip_ended front i (x ∷ rest) total within ended e = absurd (grind (arith, nat_tests, ended))
