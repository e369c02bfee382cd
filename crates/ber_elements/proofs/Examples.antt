-- The definitions, computed on known octets.
use Rattle.std.proofs.Common.{◌≡◌, ◌^◌, ◌-◌, [], ◌∷◌, Some, None, refl}
use Rattle.std.specs.Prelude.{pos, negsuc}
use Rattle.ber_elements.specs.declared.kinds.Header.TheVariants.{Head, Short, Bad}
use Rattle.ber_elements.specs.Heading.{length_at, header_at}
use Rattle.ber_elements.specs.Integer.{int_at, int_octets}
use Rattle.ber_elements.specs.write.Spelling.{length_octets, header_octets}

-- each form of the length 5, and the front of one
short_form : header_at (4 ∷ 5 ∷ []) ≡ Head 4 2 5
unfolding header_at length_at
short_form = refl

long_form_1 : header_at (4 ∷ 0x81 ∷ 5 ∷ 9 ∷ []) ≡ Head 4 3 5
unfolding header_at length_at
long_form_1 = refl

long_form_4 : header_at (4 ∷ 0x84 ∷ 0 ∷ 0 ∷ 0 ∷ 5 ∷ []) ≡ Head 4 6 5
unfolding header_at length_at
long_form_4 = refl

front : header_at (4 ∷ 0x84 ∷ 0 ∷ 0 ∷ 0 ∷ []) ≡ Short
unfolding header_at length_at
front = refl

-- the indefinite length, five octets of length, a tag of more than one octet
indefinite : header_at (0x30 ∷ 0x80 ∷ []) ≡ Bad
unfolding header_at length_at
indefinite = refl

five_octets : header_at (0x30 ∷ 0x85 ∷ []) ≡ Bad
unfolding header_at length_at
five_octets = refl

high_tag : header_at (0x1f ∷ []) ≡ Bad
unfolding header_at
high_tag = refl

-- integers, both ways
minus_one : int_octets (negsuc 0) ≡ 0xff ∷ []
unfolding int_octets
minus_one = refl

zero_written : int_octets (pos 0) ≡ 0 ∷ []
unfolding int_octets
zero_written = refl

n128 : int_octets (pos 128) ≡ 0 ∷ 0x80 ∷ []
unfolding int_octets
n128 = refl

below_zero : int_octets (negsuc 127) ≡ 0x80 ∷ []
unfolding int_octets
below_zero = refl

least : int_octets (negsuc (2 ^ 63 - 1)) ≡ 0x80 ∷ 0 ∷ 0 ∷ 0 ∷ 0 ∷ 0 ∷ 0 ∷ 0 ∷ []
unfolding int_octets
least = refl

least_read : int_at (0x80 ∷ 0 ∷ 0 ∷ 0 ∷ 0 ∷ 0 ∷ 0 ∷ 0 ∷ []) ≡ Some (negsuc (2 ^ 63 - 1))
unfolding int_at
least_read = refl

not_shortest : int_at (0 ∷ 0x7f ∷ []) ≡ None
unfolding int_at
not_shortest = refl

nothing : int_at [] ≡ None
unfolding int_at
nothing = refl

-- the shortest lengths
written_127 : header_octets 4 127 ≡ 4 ∷ 127 ∷ []
unfolding length_octets
written_127 = refl

written_128 : header_octets 4 128 ≡ 4 ∷ 0x81 ∷ 128 ∷ []
unfolding length_octets
written_128 = refl

written_65536 : header_octets 4 65536 ≡ 4 ∷ 0x83 ∷ 1 ∷ 0 ∷ 0 ∷ []
unfolding length_octets
written_65536 = refl
