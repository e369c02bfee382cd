-- The printed form of filters (RFC 4515 section 3).
use Rattle.std.specs.Prelude.{ℕ, ◌+◌, ◌/◌, ◌%◌, Bool, ◌==◌, ◌||◌, ◌&&◌, not, nat_lt, List, [], ◌∷◌, ◌++◌, Option, Some, None, flat_map, if◌then◌else◌}
use Rattle.std.specs.Int.{is_in_range}
use Rattle.ldap_filter.specs.filter.Filters.{Filter, Filters}
use Rattle.ldap_filter.specs.filter.Filters.Filter.{And, Or, Not, Equal, Parts, AtLeast, AtMost, Present, Approx, Extensible}
use Rattle.ldap_filter.specs.filter.Filters.Filters.{Nil, Cons}

-- a hexadecimal digit, in lower case
abbrev pub hex_digit : ℕ → ℕ
hex_digit n = if nat_lt n 10 then 48 + n else 87 + n

-- the octet is printed as itself: a space or another visible octet of ASCII but for ( ) * and \
abbrev pub is_shown : ℕ → Bool
is_shown octet = is_in_range 32 126 octet && not (octet == 40 || (octet == 41 || (octet == 42 || octet == 92)))

-- an octet of a value, as itself or as a backslash and two digits
abbrev pub print_octet : ℕ → List ℕ
print_octet octet = if is_shown octet then octet ∷ [] else 92 ∷ hex_digit (octet / 16) ∷ hex_digit (octet % 16) ∷ []

-- a value
unfoldable pub print_value : List ℕ → List ℕ
print_value octets = flat_map print_octet octets

-- the first or the last part of substrings
abbrev pub print_part : Option (List ℕ) → List ℕ
print_part None = []
print_part (Some octets) = print_value octets

-- the parts between, each with the asterisk behind it
abbrev pub print_any : List (List ℕ) → List ℕ
print_any parts = flat_map (λ part. print_value part ++ 42 ∷ []) parts

-- a type, an operator and the text of a value
abbrev pub print_item : List ℕ → List ℕ → List ℕ → List ℕ
print_item kind operator text = 40 ∷ (kind ++ operator ++ text ++ 41 ∷ [])

-- a filter; an extensible match has no text
abbrev mutual
  pub print_filter : Filter → List ℕ
  print_filter (And members) = 40 ∷ 38 ∷ (print_filters members ++ 41 ∷ [])
  print_filter (Or members) = 40 ∷ 124 ∷ (print_filters members ++ 41 ∷ [])
  print_filter (Not member) = 40 ∷ 33 ∷ (print_filter member ++ 41 ∷ [])
  print_filter (Equal kind value) = print_item kind (61 ∷ []) (print_value value)
  print_filter (Parts kind initial any final) = print_item kind (61 ∷ []) (print_part initial ++ 42 ∷ (print_any any ++ print_part final))
  print_filter (AtLeast kind value) = print_item kind (62 ∷ 61 ∷ []) (print_value value)
  print_filter (AtMost kind value) = print_item kind (60 ∷ 61 ∷ []) (print_value value)
  print_filter (Present kind) = print_item kind (61 ∷ []) (42 ∷ [])
  print_filter (Approx kind value) = print_item kind (126 ∷ 61 ∷ []) (print_value value)
  print_filter (Extensible content) = []

  -- filters, one behind the other
  pub print_filters : Filters → List ℕ
  print_filters Nil = []
  print_filters (Cons first rest) = print_filter first ++ print_filters rest
