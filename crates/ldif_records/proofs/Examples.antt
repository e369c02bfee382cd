-- The definitions on small files: each form of line, and each cause with its line.
use Rattle.std.proofs.Common.{◌≡◌, ℕ, [], ◌∷◌, ◌++◌, List, Result, Ok, Err, refl}
use Rattle.std.specs.Prelude.{codes, flat_map}
use Rattle.ldif_records.specs.declared.types.Record.{Record}
use Rattle.ldif_records.specs.declared.types.RecordLine.{RecordLine}
use Rattle.ldif_records.specs.reading.Faults.{LineFault, Bad}
use Rattle.ldif_records.specs.declared.types.LineCause.TheVariants.{Syntax, Changetype, Base64}
use Rattle.ldif_records.specs.lines.Places.{file_start, records_from}
use Rattle.ldif_records.specs.writing.Written.{written_line}
use Rattle.ldif_records.proofs.laws.OnLiterals.{ldif_on_literals}

-- lines that end in LF, as a file
abbrev ended : List (List ℕ) → List ℕ
ended lines = flat_map (λ line. line ++ 10 ∷ []) lines

abbrev records_in : List ℕ → List (Result Record LineFault)
records_in text = records_from text file_start

abbrev line : ℕ → List ℕ → List ℕ → RecordLine
line number kind value = record { line = number; kind = kind; value = value }

-- a version, a comment, folded lines, CR LF, base64, two empty lines, and a last line without its end
whole : records_in
    (ended (codes "# c" ∷ codes " c" ∷ codes "version: 1" ∷ codes "dn: dc" ∷ codes " =t" ∷ codes "# :" ∷ (codes "a-1:x y" ++ 13 ∷ []) ∷ codes "2.5.4.0::  AAE=" ∷ codes "a:" ∷ [] ∷ [] ∷ codes "dn:: ZGM9dA==" ∷ []) ++ codes "b: : c ")
    ≡ Ok (record { line = 4; name = codes "dc=t"; lines = line 7 (codes "a-1") (codes "x y") ∷ line 8 (codes "2.5.4.0") (0 ∷ 1 ∷ []) ∷ line 9 (codes "a") [] ∷ [] })
    ∷ Ok (record { line = 12; name = codes "dc=t"; lines = line 13 (codes "b") (codes ": c ") ∷ [] }) ∷ []
unfolding ldif_on_literals
whole = refl

-- no record
empty : records_in [] ≡ []
unfolding ldif_on_literals
empty = refl

comments_alone : records_in (ended (codes "# dn: x" ∷ [] ∷ codes "#" ∷ codes " a: b" ∷ [])) ≡ []
unfolding ldif_on_literals
comments_alone = refl

-- an empty line that is continued separates nothing
continued_empty : records_in (ended (codes "dn: x" ∷ codes "a: y" ∷ [] ∷ codes " b: z" ∷ []))
    ≡ Ok (record { line = 1; name = codes "x"; lines = line 2 (codes "a") (codes "y") ∷ line 3 (codes "b") (codes "z") ∷ [] }) ∷ []
unfolding ldif_on_literals
continued_empty = refl

-- a last line without LF keeps its carriage return
kept_return : records_in (ended (codes "dn: x" ∷ []) ++ codes "a: y" ++ 13 ∷ [])
    ≡ Ok (record { line = 1; name = codes "x"; lines = line 2 (codes "a") (codes "y" ++ 13 ∷ []) ∷ [] }) ∷ []
unfolding ldif_on_literals
kept_return = refl

-- lines of no form
version_two : records_in (ended (codes "version: 2" ∷ [])) ≡ Err (Bad 1 Syntax) ∷ []
unfolding ldif_on_literals
version_two = refl

late_version : records_in (ended ([] ∷ codes "version: 1" ∷ [])) ≡ Err (Bad 2 Syntax) ∷ []
unfolding ldif_on_literals
late_version = refl

space_first : records_in (ended (codes " dn: x" ∷ codes "a: y" ∷ [])) ≡ Err (Bad 1 Syntax) ∷ []
unfolding ldif_on_literals
space_first = refl

name_alone : records_in (ended (codes "dn:: !!" ∷ codes "# c" ∷ [] ∷ codes "dn: x" ∷ codes "a: y" ∷ []))
    ≡ Err (Bad 1 Syntax) ∷ Ok (record { line = 4; name = codes "x"; lines = line 5 (codes "a") (codes "y") ∷ [] }) ∷ []
unfolding ldif_on_literals
name_alone = refl

elsewhere : records_in (ended (codes "dn: x" ∷ codes "changetype:< y" ∷ [])) ≡ Err (Bad 2 Syntax) ∷ []
unfolding ldif_on_literals
elsewhere = refl

options : records_in (ended (codes "dn: x" ∷ codes "cn;lang-en: y" ∷ [])) ≡ Err (Bad 2 Syntax) ∷ []
unfolding ldif_on_literals
options = refl

-- a change, and base64 that isn't strict
change : records_in (ended (codes "dn: x" ∷ codes "a: y" ∷ codes " z" ∷ codes "ChangeType:: !!" ∷ codes "a:: !!" ∷ [])) ≡ Err (Bad 4 Changetype) ∷ []
unfolding ldif_on_literals
change = refl

unpadded : records_in (ended (codes "dn: x" ∷ codes "a:: YQ" ∷ codes "ab" ∷ [])) ≡ Err (Bad 2 Base64) ∷ []
unfolding ldif_on_literals
unpadded = refl

bits_left : records_in (ended (codes "dn:: YR==" ∷ codes "ab" ∷ [])) ≡ Err (Bad 1 Base64) ∷ []
unfolding ldif_on_literals
bits_left = refl

-- values that are written as they are, and in base64
plain : written_line (codes "a") (codes "b c") ≡ codes "a: b c" ++ 10 ∷ []
unfolding ldif_on_literals
plain = refl

nothing : written_line (codes "a") [] ≡ codes "a: " ++ 10 ∷ []
unfolding ldif_on_literals
nothing = refl

final_space : written_line (codes "a") (codes "b ") ≡ codes "a:: YiA=" ++ 10 ∷ []
unfolding ldif_on_literals
final_space = refl

first_colon : written_line (codes "a") (codes ":b") ≡ codes "a:: OmI=" ++ 10 ∷ []
unfolding ldif_on_literals
first_colon = refl

high : written_line (codes "a") (128 ∷ []) ≡ codes "a:: gA==" ++ 10 ∷ []
unfolding ldif_on_literals
high = refl
