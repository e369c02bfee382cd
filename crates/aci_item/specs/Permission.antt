-- Permissions, and what grantsAndDenials is made of (X.501 18.4.2.4).
use Rattle.std.specs.Prelude.{ℕ, ◌+◌, ◌*◌, ◌==◌, Bool, true, false, List, [], ◌∷◌, filter, flat_map, if◌then◌else◌}
use Rattle.std.specs.Int.{bit_at}
use Rattle.std.specs.List.{list_any}
use Rattle.aci_item.specs.declared.permission.Permission.{Permission}
use Rattle.aci_item.specs.declared.permission.Permission.TheVariants.{Add, DiscloseOnError, Read, Remove, Browse, Export, Import, Modify, Rename, ReturnDn, Compare, FilterMatch, Invoke}

-- a grant of a permission, or a denial of it
pub record Bit : Type 0 where
  pub permission : Permission
  pub grants : Bool

-- each permission, in the order of the bits
abbrev pub permissions : List Permission
permissions =
    Add ∷ DiscloseOnError ∷ Read ∷ Remove ∷ Browse ∷ Export ∷ Import ∷ Modify ∷ Rename ∷ ReturnDn ∷ Compare ∷ FilterMatch ∷ Invoke ∷ []

-- the place of a permission among them
abbrev pub place_of : Permission → ℕ
place_of Add = 0
place_of DiscloseOnError = 1
place_of Read = 2
place_of Remove = 3
place_of Browse = 4
place_of Export = 5
place_of Import = 6
place_of Modify = 7
place_of Rename = 8
place_of ReturnDn = 9
place_of Compare = 10
place_of FilterMatch = 11
place_of Invoke = 12

-- GrantsAndDenials: bit 2k grants the k-th permission, and bit 2k + 1 denies it
abbrev pub bit_place : Bit → ℕ
bit_place bit = 2 * place_of bit.permission + (if bit.grants then 0 else 1)

-- each bit, in rising order
abbrev pub all_bits : List Bit
all_bits =
    flat_map (λ permission. record { permission = permission; grants = true } ∷ record { permission = permission; grants = false } ∷ [])
    permissions

-- the same permission
abbrev pub is_same : Permission → Permission → Bool
is_same one other = place_of one == place_of other

-- the same bit
abbrev pub is_bit : Bit → Bit → Bool
is_bit one other = bit_place one == bit_place other

-- the bit is among bits
abbrev pub is_among : List Bit → Bit → Bool
is_among bits bit = list_any (is_bit bit) bits

-- the same for a permission
abbrev pub has_bit : Permission → Bool → List Bit → Bool
has_bit permission grants bits = is_among bits (record { permission = permission; grants = grants })

-- bits as a set: in rising order, each once
abbrev pub in_order : List Bit → List Bit
in_order bits = filter (is_among bits) all_bits

-- bits with one more
abbrev pub put_bit : Bit → List Bit → List Bit
put_bit bit bits = in_order (bit ∷ bits)

-- the permissions that bits grant, or those that they deny
abbrev pub permissions_of : Bool → List Bit → List Permission
permissions_of grants bits = filter (λ permission. has_bit permission grants bits) permissions

-- there are some
abbrev pub has_some : List Permission → Bool
has_some [] = false
has_some (permission ∷ rest) = true

-- the bits of a number, in rising order
abbrev pub bits_of : ℕ → List Bit
bits_of number = filter (λ bit. bit_at number (bit_place bit) == 1) all_bits
