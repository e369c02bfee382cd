-- What an item's text says (RFC 4515 section 3): the type before the operator, and the value or its parts behind it.
use Rattle.std.specs.Prelude.{ℕ, ◌+◌, ◌*◌, ◌%◌, Bool, ◌==◌, ◌||◌, not, List, [], ◌∷◌, take, drop, Option, Some, None, if◌then◌else◌}
use Rattle.std.specs.Char.{digit_value}
use Rattle.std.specs.List.{prefix_len, slice_split}
use Rattle.filter_text.specs.declared.octets.Reading.{Reading}
use Rattle.filter_text.specs.declared.octets.Reading.TheVariants.{Plain, Escaped, HalfByte}
use Rattle.filter_text.specs.declared.octets.Piece.{Piece}
use Rattle.filter_text.specs.declared.octets.Piece.TheVariants.{Within, Octet}
use Rattle.ldap_filter.specs.filter.Filters.{Filter}
use Rattle.ldap_filter.specs.filter.Filters.Filter.{Equal, Parts, AtLeast, AtMost, Present, Approx}

-- what a hexadecimal digit stands for
abbrev pub hex_value : ℕ → ℕ
hex_value octet = digit_value octet % 16

-- what an octet of a value's text is: within an escape, or the end of an octet of the value
abbrev pub piece_of : Reading → ℕ → Piece
piece_of Plain octet = if octet == 92 then Within Escaped else Octet octet
piece_of Escaped octet = Within (HalfByte (16 * hex_value octet))
piece_of (HalfByte high) octet = Octet ((high + hex_value octet) % 256)

-- a value's octets: each stands for itself, or is written as a backslash and two hexadecimal digits
abbrev pub octets_from : Reading → List ℕ → List ℕ
octets_from reading [] = []
octets_from Plain (x ∷ xs) = if x == 92 then octets_from Escaped xs else x ∷ octets_from Plain xs
octets_from Escaped (x ∷ xs) = octets_from (HalfByte (16 * hex_value x)) xs
octets_from (HalfByte high) (x ∷ xs) = ((high + hex_value x) % 256) ∷ octets_from Plain xs

-- the octets of a value's text
unfoldable pub value_of : List ℕ → List ℕ
value_of text = octets_from Plain text

-- the octets of the first or the last part of substrings, where there is one
abbrev pub part_of : List ℕ → Option (List ℕ)
part_of [] = None
part_of (x ∷ xs) = Some (value_of (x ∷ xs))

-- the parts behind the first asterisk but for the last
abbrev pub any_of : List (List ℕ) → List (List ℕ)
any_of [] = []
any_of (last ∷ []) = []
any_of (part ∷ next ∷ parts) = value_of part ∷ any_of (next ∷ parts)

-- the last part
abbrev pub final_of : List (List ℕ) → Option (List ℕ)
final_of [] = None
final_of (last ∷ []) = part_of last
final_of (part ∷ next ∷ parts) = final_of (next ∷ parts)

-- what the texts between asterisks say: a value, presence, or substrings
abbrev pub matched_by : List ℕ → List (List ℕ) → Filter
matched_by kind [] = Present kind
matched_by kind (only ∷ []) = Equal kind (value_of only)
matched_by kind ([] ∷ [] ∷ []) = Present kind
matched_by kind (first ∷ next ∷ parts) = Parts kind (part_of first) (any_of (next ∷ parts)) (final_of (next ∷ parts))

-- the texts between asterisks, of which no escape has one
unfoldable pub parts_of : List ℕ → List (List ℕ)
parts_of text = slice_split (λ octet. octet == 42) text

-- what stands behind = says
abbrev pub matched_of : List ℕ → List ℕ → Filter
matched_of kind text = matched_by kind (parts_of text)

-- what an operator other than = and the value behind it say, by its first octet
abbrev pub signed : ℕ → List ℕ → List ℕ → Filter
signed sign kind value = if sign == 62 then AtLeast kind value else if sign == 60 then AtMost kind value else Approx kind value

-- what an operator and the text behind it say
abbrev pub asserted : List ℕ → List ℕ → Filter
asserted kind [] = Present kind
asserted kind (sign ∷ rest) = if sign == 61 then matched_of kind rest else signed sign kind (value_of (drop 1 rest))

-- the octet begins an operator
abbrev pub is_operator : ℕ → Bool
is_operator octet = octet == 61 || (octet == 62 || (octet == 60 || octet == 126))

-- how many octets stand before the operator
abbrev pub kind_size : List ℕ → ℕ
kind_size text = prefix_len (λ octet. not (is_operator octet)) text

-- the filter of an item's text
unfoldable pub item_of : List ℕ → Filter
item_of text = asserted (take (kind_size text) text) (drop (kind_size text) text)
