-- Texts in one line, and texts in lines, on known cases.
use Rattle.std.proofs.Common.{◌≡◌, [], ◌∷◌, Some, None, refl}
use Rattle.std.specs.Prelude.{codes}
use Rattle.line_text.specs.Escapes.{one_line, escaped, read_back}
use Rattle.line_text.specs.Lines.{lines_of, rest_of}

-- the octets LF, `\` and CR
in_one_line : one_line (97 ∷ 10 ∷ 92 ∷ 13 ∷ []) ≡ codes "a\\0a\\\\0d"
unfolding one_line
in_one_line = refl

with_escapes : escaped (97 ∷ 10 ∷ 92 ∷ 13 ∷ []) ≡ codes "a\\0a\\5c\\0d"
unfolding escaped
with_escapes = refl

without_escapes : read_back (codes "a\\0a\\5c\\0db") ≡ Some (97 ∷ 10 ∷ 92 ∷ 13 ∷ 98 ∷ [])
unfolding read_back
without_escapes = refl

-- an escaped backslash takes nothing of what follows
an_escaped_backslash : read_back (codes "\\5c0a") ≡ Some (codes "\\0a")
unfolding read_back
an_escaped_backslash = refl

-- escapes of other octets, in capitals, or of one digit
another_octet : read_back (codes "\\41") ≡ None
unfolding read_back
another_octet = refl

in_capitals : read_back (codes "\\0A") ≡ None
unfolding read_back
in_capitals = refl

one_digit : read_back (codes "a\\0") ≡ None
unfolding read_back
one_digit = refl

-- a line that isn't ended is none
unended : lines_of (codes "a\n\r\nb") ≡ codes "a" ∷ codes "\r" ∷ []
unfolding lines_of
unended = refl

left_over : rest_of (codes "a\n\r\nb") ≡ codes "b"
unfolding rest_of
left_over = refl

ended : rest_of (codes "a\n\n") ≡ []
unfolding rest_of
ended = refl

an_empty_line : lines_of (codes "a\n\n") ≡ codes "a" ∷ [] ∷ []
unfolding lines_of
an_empty_line = refl

no_line : lines_of [] ≡ []
unfolding lines_of
no_line = refl
