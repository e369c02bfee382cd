-- Bits of a number, and the permissions that are among them.
use Rattle.std.proofs.Common.{◌≡◌, ℕ, ◌<◌, ◌+◌, ◌*◌, ◌^◌, ◌%◌, Bool, true, false, cond, eqb, List, [], ◌∷◌, ◌∙◌, refl, sym, ap, eq-eqb, eqb-true, zero-mul, one-mul, arith, inl, inr, w32}
use Rattle.std.specs.Prelude.{◌==◌, ◌&&◌, ◌||◌, not, filter, find, map, option_map, Option, Some, None, bit_and, bit_or, if◌then◌else◌}
use Rattle.std.specs.Int.{bit_at}
use Rattle.std.specs.List.{list_any}
use Rattle.std.proofs.lemmas.Bool.{cases_eq, ne_eqb}
use Rattle.std.proofs.lemmas.Map.Views.{any-filter_same}
use Rattle.std.proofs.lemmas.Nat.{one_shl, pow_pos}
use Rattle.std.proofs.lemmas.Nat.Bits.{bit_at_set_same, bit_at_set_other, and_pow, bit_at-lt}
use Rattle.aci_item.specs.declared.permission.Permission.{Permission}
use Rattle.aci_item.specs.declared.permission.Permission.TheVariants.{Add, DiscloseOnError, Read, Remove, Browse, Export, Import, Modify, Rename, ReturnDn, Compare, FilterMatch, Invoke}
use Rattle.std.specs.Str.{bytes_eq}
use Rattle.aci_item.specs.declared.bits.Row.{Row}
use Rattle.aci_item.specs.ItemPrinted.{bit_name}
use Rattle.aci_item.specs.Rows.{named_bit, row_of}
use Rattle.aci_item.specs.Permission.{Bit, permissions, place_of, bit_place, all_bits, is_same, is_bit, is_among, has_bit, in_order, put_bit, permissions_of, has_some, bits_of}

-- each bit is one of all
bit_in_all : (permission : Permission) (grants : Bool) → list_any (is_bit (record { permission = permission; grants = grants })) all_bits ≡ true
bit_in_all Add true = refl
bit_in_all DiscloseOnError true = refl
bit_in_all Read true = refl
bit_in_all Remove true = refl
bit_in_all Browse true = refl
bit_in_all Export true = refl
bit_in_all Import true = refl
bit_in_all Modify true = refl
bit_in_all Rename true = refl
bit_in_all ReturnDn true = refl
bit_in_all Compare true = refl
bit_in_all FilterMatch true = refl
bit_in_all Invoke true = refl
bit_in_all Add false = refl
bit_in_all DiscloseOnError false = refl
bit_in_all Read false = refl
bit_in_all Remove false = refl
bit_in_all Browse false = refl
bit_in_all Export false = refl
bit_in_all Import false = refl
bit_in_all Modify false = refl
bit_in_all Rename false = refl
bit_in_all ReturnDn false = refl
bit_in_all Compare false = refl
bit_in_all FilterMatch false = refl
bit_in_all Invoke false = refl

-- each permission is one of all
permission_in_all : (permission : Permission) → list_any (is_same permission) permissions ≡ true
permission_in_all Add = refl
permission_in_all DiscloseOnError = refl
permission_in_all Read = refl
permission_in_all Remove = refl
permission_in_all Browse = refl
permission_in_all Export = refl
permission_in_all Import = refl
permission_in_all Modify = refl
permission_in_all Rename = refl
permission_in_all ReturnDn = refl
permission_in_all Compare = refl
permission_in_all FilterMatch = refl
permission_in_all Invoke = refl

and_true : (one other : Bool) → other ≡ true → (one && other) ≡ one
and_true true other h = h
and_true false other h = refl

-- a bit is among those of all bits that pass a test of their places, where it passes
pub among_filtered : (test : ℕ → Bool) (bit : Bit) → is_among (filter (λ b. test (bit_place b)) all_bits) bit ≡ test (bit_place bit)
among_filtered test bit =
    any-filter_same (is_bit bit) (λ b. test (bit_place b)) (test (bit_place bit))
    (λ b same. ap test (sym (eqb-true (bit_place bit) (bit_place b) same))) all_bits
    ∙ and_true (test (bit_place bit)) (list_any (is_bit bit) all_bits) (bit_in_all bit.permission bit.grants)

-- the same of permissions
pub permission_filtered : (test : ℕ → Bool) (permission : Permission)
    → list_any (is_same permission) (filter (λ p. test (place_of p)) permissions) ≡ test (place_of permission)
permission_filtered test permission =
    any-filter_same (is_same permission) (λ p. test (place_of p)) (test (place_of permission))
    (λ p same. ap test (sym (eqb-true (place_of permission) (place_of p) same))) permissions
    ∙ and_true (test (place_of permission)) (list_any (is_same permission) permissions) (permission_in_all permission)

-- a permission of a tuple is one that its bits have
pub has_permission : (permission : Permission) (grants : Bool) (bits : List Bit)
    → list_any (is_same permission) (permissions_of grants bits) ≡ has_bit permission grants bits
has_permission permission grants bits =
    permission_filtered (λ place. list_any (λ b. 2 * place + (if grants then 0 else 1) == bit_place b) bits) permission

-- the test of a mask
pub mask_test : (number place : ℕ) → place < 32 → not (eqb (bit_and number (1 * 2 ^ place % 2 ^ 32)) 0) ≡ (bit_at number place == 1)
mask_test number place within =
    ap (λ m. not (eqb (bit_and number m) 0)) (one_shl place 32 within)
    ∙ ap (λ m. not (eqb m 0)) (and_pow number place)
    ∙ inner (bit_at number place) (bit_at-lt number place)
  where
    inner : (b : ℕ) → b < 2 → not (eqb (b * 2 ^ place) 0) ≡ (b == 1)
    inner b small = elim (cases_eq b 0) [
      | inl absent ↦
          ap not (eq-eqb (b * 2 ^ place) 0 (ap (λ x. x * 2 ^ place) absent ∙ zero-mul (2 ^ place))) ∙ sym (ne_eqb b 1 (λ e. omega arith))
      | inr apart ↦
          let one : b ≡ 1 = omega arith in
          let power : b * 2 ^ place ≡ 2 ^ place = ap (λ x. x * 2 ^ place) one ∙ one-mul (2 ^ place) in
          ap not (ne_eqb (b * 2 ^ place) 0 (λ e. omega (arith, power, pow_pos place, e))) ∙ sym (eq-eqb b 1 one)
    ]

-- two tests that agree leave the same bits
pub filtered : (one other : Bit → Bool) → ((b : Bit) → one b ≡ other b) → (bits : List Bit) → filter one bits ≡ filter other bits
filtered one other same [] = refl
filtered one other same (b ∷ bits) =
    ap (λ t. cond t (b ∷ filter one bits) (filter one bits)) (same b)
    ∙ ap (λ rest. cond (other b) (b ∷ rest) rest) (filtered one other same bits)

-- the bits of a number stand in order
pub bits_in_order : (number : ℕ) → in_order (bits_of number) ≡ bits_of number
bits_in_order number =
    filtered (is_among (bits_of number)) (λ bit. bit_at number (bit_place bit) == 1) (λ bit. among_filtered (λ place. bit_at number place == 1) bit)
    all_bits

-- a bit more
pub mask_set : (number : ℕ) (bit : Bit) → bit_place bit < 32
    → bits_of (bit_or number (1 * 2 ^ bit_place bit % 2 ^ 32)) ≡ put_bit bit (bits_of number)
mask_set number bit within = filtered (λ b. bit_at (bit_or number (1 * 2 ^ bit_place bit % 2 ^ 32)) (bit_place b) == 1) (is_among (bit ∷ bits_of number)) each all_bits
  where
    each : (b : Bit) → (bit_at (bit_or number (1 * 2 ^ bit_place bit % 2 ^ 32)) (bit_place b) == 1) ≡ is_among (bit ∷ bits_of number) b
    each b = elim (cases_eq (bit_place b) (bit_place bit)) [
      | inl same ↦
          ap (λ p. bit_at (bit_or number (1 * 2 ^ bit_place bit % 2 ^ 32)) p == 1) same
          ∙ ap (λ n. n == 1) (bit_at_set_same w32 number (bit_place bit) within)
          ∙ sym (ap (λ t. t || is_among (bits_of number) b) (eq-eqb (bit_place b) (bit_place bit) same))
      | inr apart ↦
          ap (λ n. n == 1) (bit_at_set_other w32 number (bit_place bit) within (bit_place b) apart)
          ∙ sym (among_filtered (λ place. bit_at number place == 1) b)
          ∙ sym (ap (λ t. t || is_among (bits_of number) b) (ne_eqb (bit_place b) (bit_place bit) apart))
    ]

-- what is found of mapped values
find-map : {X Y : Type 0} (test : Y → Bool) (f : X → Y) (xs : List X) → option_map f (find (λ x. test (f x)) xs) ≡ find test (map f xs)
find-map test f [] = refl
find-map test f (x ∷ xs) =
    elim (test (f x)) as (λ b. option_map f (cond b (Some x) (find (λ x. test (f x)) xs)) ≡ cond b (Some (f x)) (find test (map f xs)))
    [ true ↦ refl | false ↦ find-map test f xs ]

option_map-map : {X Y Z : Type 0} (g : Y → Z) (f : X → Y) (found : Option X) → option_map g (option_map f found) ≡ option_map (λ x. g (f x)) found
option_map-map g f None = refl
option_map-map g f (Some x) = refl

option_map-id : {X : Type 0} (found : Option X) → option_map (λ x. x) found ≡ found
option_map-id None = refl
option_map-id (Some x) = refl

-- the first row of a name is that of the bit
pub row_named : (rows : List Row) (text : List ℕ) → map row_of rows ≡ map named_bit all_bits
    → option_map (λ row. (row_of row).1) (find (λ row. bytes_eq text row.name.now) rows) ≡ find (λ bit. bytes_eq text (bit_name bit)) all_bits
row_named rows text same =
    let test : List ℕ × Bit → Bool = λ pair. bytes_eq text pair.0 in
    sym (option_map-map (λ (pair : List ℕ × Bit). pair.1) row_of (find (λ row. bytes_eq text row.name.now) rows))
    ∙ ap (option_map (λ (pair : List ℕ × Bit). pair.1)) (find-map test row_of rows ∙ ap (find test) same ∙ sym (find-map test named_bit all_bits))
    ∙ option_map-map (λ (pair : List ℕ × Bit). pair.1) named_bit (find (λ bit. bytes_eq text (bit_name bit)) all_bits)
    ∙ option_map-id (find (λ bit. bytes_eq text (bit_name bit)) all_bits)

-- there are some permissions that pass a test where one passes it
pub some_filtered : (test : Permission → Bool) (some : List Permission) → has_some (filter test some) ≡ list_any test some
some_filtered test [] = refl
some_filtered test (permission ∷ rest) =
    elim (test permission) as (λ b. has_some (cond b (permission ∷ filter test rest) (filter test rest)) ≡ (b || list_any test rest))
    [ true ↦ refl | false ↦ some_filtered test rest ]
