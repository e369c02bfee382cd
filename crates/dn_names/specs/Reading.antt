-- How a text of the outer grammar is taken apart: at marks that no backslash stands before.
use Rattle.std.specs.Prelude.{ℕ, ◌+◌, ◌*◌, ◌%◌, suc, Bool, false, ◌==◌, ◌&&◌, not, List, [], ◌∷◌, map, take, drop, if◌then◌else◌}
use Rattle.std.specs.Char.{digit_value}
use Rattle.std.specs.List.{prefix_len, list_all, take_while}
use Rattle.dn_names.specs.declared.octets.Reading.{Reading}
use Rattle.dn_names.specs.declared.octets.Reading.TheVariants.{Plain, Escaped, HalfByte}
use Rattle.dn_names.specs.declared.octets.Piece.{Piece}
use Rattle.dn_names.specs.declared.octets.Piece.TheVariants.{Within, BareSpace, Octet}
use Rattle.dn_names.specs.Classes.{class_of, is_hex}
use Rattle.dn_names.specs.Spelling.{WrittenPair}

-- the octet is the mark, and doesn't stand behind a backslash
abbrev pub is_mark : ℕ → Bool → ℕ → Bool
is_mark mark escaped octet = not escaped && octet == mark

-- the octet after this one stands behind a backslash
abbrev pub escapes_next : Bool → ℕ → Bool
escapes_next escaped octet = not escaped && octet == 92

-- an octet at the front of the first part
abbrev pub put_front : ℕ → List (List ℕ) → List (List ℕ)
put_front octet [] = (octet ∷ []) ∷ []
put_front octet (part ∷ parts) = (octet ∷ part) ∷ parts

-- the parts between the marks, from an octet that may stand behind a backslash
abbrev pub parts_from : ℕ → Bool → List ℕ → List (List ℕ)
parts_from mark escaped [] = [] ∷ []
parts_from mark escaped (x ∷ xs) =
    if is_mark mark escaped x then [] ∷ parts_from mark false xs
    else put_front x (parts_from mark (escapes_next escaped x) xs)

-- the parts of a whole text
unfoldable pub parts_of : ℕ → List ℕ → List (List ℕ)
parts_of mark text = parts_from mark false text

-- the length of the first part
abbrev pub mark_from : ℕ → Bool → List ℕ → ℕ
mark_from mark escaped [] = 0
mark_from mark escaped (x ∷ xs) =
    if is_mark mark escaped x then 0 else suc (mark_from mark (escapes_next escaped x) xs)

-- how many marks there are
abbrev pub marks_from : ℕ → Bool → List ℕ → ℕ
marks_from mark escaped [] = 0
marks_from mark escaped (x ∷ xs) =
    if is_mark mark escaped x then suc (marks_from mark false xs) else marks_from mark (escapes_next escaped x) xs

-- the text without the spaces at its front
abbrev pub without_spaces : List ℕ → List ℕ
without_spaces [] = []
without_spaces (x ∷ xs) = if x == 32 then without_spaces xs else x ∷ xs

-- the text has nothing but spaces
abbrev pub is_blank : List ℕ → Bool
is_blank text = list_all (λ octet. octet == 32) text

-- the first word of a text
abbrev pub word_of : List ℕ → List ℕ
word_of text = take_while (λ octet. not (octet == 32)) (without_spaces text)

-- a bare space before more octets: none where nothing but spaces follows
abbrev pub spaced : List ℕ → List ℕ
spaced [] = []
spaced (x ∷ xs) = 32 ∷ x ∷ xs

-- what a hexadecimal digit stands for
abbrev pub hex_value : ℕ → ℕ
hex_value octet = digit_value octet % 16

-- what an octet of a value's text is: within an escape, a bare space, or an octet of the value
abbrev pub piece_of : Reading → ℕ → Piece
piece_of Plain octet =
    if octet == 92 then Within Escaped else if octet == 32 then BareSpace else Octet octet
piece_of Escaped octet = if is_hex (class_of octet) then Within (HalfByte (16 * hex_value octet)) else Octet octet
piece_of (HalfByte high) octet = Octet ((high + hex_value octet) % 256)

-- a value's octets: escapes read, bare spaces at the end skipped
abbrev pub octets_from : Reading → List ℕ → List ℕ
octets_from reading [] = []
octets_from Plain (x ∷ xs) =
    if x == 92 then octets_from Escaped xs
    else if x == 32 then spaced (octets_from Plain xs) else x ∷ octets_from Plain xs
octets_from Escaped (x ∷ xs) =
    if is_hex (class_of x) then octets_from (HalfByte (16 * hex_value x)) xs else x ∷ octets_from Plain xs
octets_from (HalfByte high) (x ∷ xs) = ((high + hex_value x) % 256) ∷ octets_from Plain xs

-- a value's octets, its text's front spaces skipped
unfoldable pub value_octets : List ℕ → List ℕ
value_octets text = octets_from Plain (without_spaces text)

-- how many octets stand before the first =
abbrev pub kind_size : List ℕ → ℕ
kind_size text = prefix_len (λ octet. not (octet == 61)) text

-- a pair's type and value
unfoldable pub pair_of : List ℕ → WrittenPair
pair_of text = record {
  kind = word_of (take (kind_size text) text);
  octets = value_octets (drop (kind_size text + 1) text);
}

-- an RDN's pairs
unfoldable pub rdn_of : List ℕ → List WrittenPair
rdn_of text = map pair_of (parts_of 43 text)

-- a name's RDNs, the entry's own first
unfoldable pub written_of : List ℕ → List (List WrittenPair)
written_of text = if is_blank text then [] else map rdn_of (parts_of 44 text)
