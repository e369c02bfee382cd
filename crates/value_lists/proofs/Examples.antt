-- The definitions on values that are known.
use Rattle.std.proofs.Common.{◌≡◌, ℕ, true, false, List, [], ◌∷◌, map, filter, not, ◌==◌, remove, refl}
use Rattle.dn_names.specs.name.Names.{Keyed}
use Rattle.value_lists.specs.Orders.{is_before, key_at, place_after}

-- a value whose key is its octets
abbrev keyed : List ℕ → Keyed
keyed octets = record { octets = octets; key = octets }

-- `bb`, `a`, `b`
abbrev three : List Keyed
three = keyed (98 ∷ 98 ∷ []) ∷ keyed (97 ∷ []) ∷ keyed (98 ∷ []) ∷ []

-- a front comes before what it begins, and a key not before itself
front_first : is_before (98 ∷ []) (98 ∷ 98 ∷ []) ≡ true
front_first = refl

not_itself : is_before (98 ∷ []) (98 ∷ []) ≡ false
not_itself = refl

-- the keys at the places 1, 2, 0 are in order
places_in_order : map (key_at three) (1 ∷ 2 ∷ 0 ∷ []) ≡ (97 ∷ []) ∷ (98 ∷ []) ∷ (98 ∷ 98 ∷ []) ∷ []
places_in_order = refl

-- past the last there is no key
past_the_last : key_at three 3 ≡ []
past_the_last = refl

-- without the value at place 1, the places after are 1, 0, with the same keys
places_after : map (place_after 1) (filter (λ other. not (1 == other)) (1 ∷ 2 ∷ 0 ∷ [])) ≡ 1 ∷ 0 ∷ []
places_after = refl

keys_after : map (key_at (remove three 1)) (1 ∷ 0 ∷ []) ≡ (98 ∷ []) ∷ (98 ∷ 98 ∷ []) ∷ []
keys_after = refl
