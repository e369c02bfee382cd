-- Texts in one line: an octet that would end the line stands as a backslash and two hexadecimal digits, as in the text of
-- a name (RFC 4514 section 2.4). Where texts are read back, so does the backslash.
use Rattle.std.specs.Prelude.{ℕ, ◌==◌, List, [], ◌∷◌, ◌++◌, take, drop, flat_map, codes, Option, Some, None, option_map, if◌then◌else◌}
use Rattle.std.specs.List.{slice_split}
use Rattle.std.specs.Str.{bytes_eq}

-- an octet in one line: LF and CR as escapes
abbrev pub one_line_octet : ℕ → List ℕ
one_line_octet octet = if octet == 10 then codes "\\0a" else if octet == 13 then codes "\\0d" else octet ∷ []

-- octets in one line
unfoldable pub one_line : List ℕ → List ℕ
one_line octets = flat_map one_line_octet octets

-- an octet that is read back: the backslash as an escape too
abbrev pub escaped_octet : ℕ → List ℕ
escaped_octet octet = if octet == 92 then codes "\\5c" else one_line_octet octet

-- octets that are read back
unfoldable pub escaped : List ℕ → List ℕ
escaped octets = flat_map escaped_octet octets

-- the octet that two digits behind a backslash stand for
abbrev pub octet_of : List ℕ → Option ℕ
octet_of digits =
    if bytes_eq digits (codes "0a") then Some 10
    else if bytes_eq digits (codes "0d") then Some 13
    else if bytes_eq digits (codes "5c") then Some 92
    else None

-- the octets of a part behind a backslash: two digits stand at its front
abbrev pub octets_of : List ℕ → Option (List ℕ)
octets_of part = option_map (λ octet. octet ∷ drop 2 part) (octet_of (take 2 part))

-- one behind the other, where both are there
abbrev pub both : Option (List ℕ) → Option (List ℕ) → Option (List ℕ)
both (Some front) (Some rest) = Some (front ++ rest)
both front rest = None

-- the octets of all parts behind backslashes
abbrev pub octets_of_all : List (List ℕ) → Option (List ℕ)
octets_of_all [] = Some []
octets_of_all (part ∷ parts) = both (octets_of part) (octets_of_all parts)

-- the octets of a text that was cut at its backslashes
abbrev pub octets_of_parts : List (List ℕ) → Option (List ℕ)
octets_of_parts [] = Some []
octets_of_parts (part ∷ parts) = option_map (λ rest. part ++ rest) (octets_of_all parts)

-- the octets that a text stands for, each escape as its octet; none where a backslash begins no escape
unfoldable pub read_back : List ℕ → Option (List ℕ)
read_back text = octets_of_parts (slice_split (λ octet. octet == 92) text)
