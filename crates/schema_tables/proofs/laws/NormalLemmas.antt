-- The dotted form of a text is dotted, and is its own dotted form.
use Rattle.std.proofs.Common.{◌≡◌, ℕ, ◌≤◌, Bool, true, false, cond, List, [], ◌∷◌, ◌++◌, length, All, find, option_map, Option, Some, None, if◌then◌else◌, refl, ap, sym, ◌∙◌, arith}
use Rattle.std.specs.Char.{IsAsciiDigit, is_ascii_alphabetic, to_ascii_lowercase}
use Rattle.std.specs.List.{list_all, join_with_byte}
use Rattle.std.specs.Option.{option_or}
use Rattle.std.specs.Str.{str_to_ascii_lowercase as lower}
use Rattle.std.proofs.lemmas.Bool.Decides.{nat_tests}
use Rattle.std.proofs.lemmas.List.Elements.{All-head}
use Rattle.std.proofs.lemmas.Bool.{and_parts}
use Rattle.schema_tables.specs.Naming.{Named, is_same_name, is_keystring}
use Rattle.schema_tables.specs.Oids.{IsNumber, is_dotted_oid, names, oid_among, oid_of}
use Rattle.schema_tables.proofs.naming.NamingLemmas.{same_name}
use Rattle.schema_tables.proofs.laws.DottedLemmas.{IsDottedOid-from}

-- the lower case of a letter is the lower case of no digit
letter_or_digit :
    (letter digit : ℕ) → is_ascii_alphabetic letter ≡ true → IsAsciiDigit digit
    → to_ascii_lowercase letter ≡ to_ascii_lowercase digit → ⊥
letter_or_digit letter digit alphabetic numeric same = grind (arith, nat_tests)

-- a keystring is no text that begins with a digit, whatever the case
keystring_or_digit :
    (name : List ℕ) (digit : ℕ) (rest : List ℕ) → is_keystring name ≡ true → IsAsciiDigit digit
    → lower name ≡ lower (digit ∷ rest) → ⊥
keystring_or_digit [] digit rest key numeric same = cc
keystring_or_digit (letter ∷ more) digit rest key numeric same =
    let first : to_ascii_lowercase letter ≡ to_ascii_lowercase digit = cc in
    letter_or_digit letter digit (and_parts _ _ key).0 numeric first

-- a number begins with a digit
number_first : (number : List ℕ) → IsNumber number → (digit : ℕ) × (rest : List ℕ) × (number ≡ digit ∷ rest) × IsAsciiDigit digit
number_first [] is = absurd (omega (arith, is.some))
number_first (digit ∷ rest) is = (digit, rest, refl, All-head IsAsciiDigit digit rest is.all)

-- and so does a dotted object identifier
dotted_first :
    (text : List ℕ) (numbers : List (List ℕ)) → 2 ≤ length numbers → All IsNumber numbers
    → text ≡ join_with_byte 46 numbers
    → (digit : ℕ) × (rest : List ℕ) × (text ≡ digit ∷ rest) × IsAsciiDigit digit
dotted_first text [] two every is = absurd (omega arith)
dotted_first text (number ∷ []) two every is = absurd (omega arith)
dotted_first text (number ∷ next ∷ numbers) two every is =
    let first = number_first number (All-head IsNumber number (next ∷ numbers) every) in (
      first.0,
      first.1 ++ 46 ∷ join_with_byte 46 (next ∷ numbers),
      is ∙ ap (λ front. front ++ 46 ∷ join_with_byte 46 (next ∷ numbers)) first.2,
      first.3,
    )

-- no name of keystrings is a dotted object identifier
none_dotted :
    (rows : List Named) (digit : ℕ) (rest : List ℕ) → list_all (λ row. is_keystring row.name) rows ≡ true
    → IsAsciiDigit digit → oid_among rows (digit ∷ rest) ≡ None
none_dotted [] digit rest keys numeric = refl
none_dotted (row ∷ rows) digit rest keys numeric =
    missed (is_same_name row.name (digit ∷ rest)) refl (none_dotted rows digit rest (and_parts _ _ keys).1 numeric)
  where
    missed : (b : Bool) → is_same_name row.name (digit ∷ rest) ≡ b → oid_among rows (digit ∷ rest) ≡ None
        → option_map (λ found. found.oid)
        (cond b (Some row) (find (λ found. is_same_name found.name (digit ∷ rest)) rows)) ≡ None
    missed true hit none =
        absurd (keystring_or_digit row.name digit rest (and_parts _ _ keys).0 numeric (same_name row.name (digit ∷ rest) hit))
    missed false miss none = none

-- the object identifier that is found among dotted ones is dotted
among_dotted :
    (rows : List Named) (text oid : List ℕ) → list_all (λ row. is_dotted_oid row.oid) rows ≡ true
    → oid_among rows text ≡ Some oid → is_dotted_oid oid ≡ true
among_dotted [] text oid dotted found = cc
among_dotted (row ∷ rows) text oid dotted found =
    asked (is_same_name row.name text) (among_dotted rows text oid (and_parts _ _ dotted).1) found
  where
    asked : (b : Bool)
        → (oid_among rows text ≡ Some oid → is_dotted_oid oid ≡ true)
        → option_map (λ found. found.oid) (cond b (Some row) (find (λ found. is_same_name found.name text) rows)) ≡ Some oid
        → is_dotted_oid oid ≡ true
    asked true later found =
        let same : row.oid ≡ oid = cc in ap is_dotted_oid (sym same) ∙ (and_parts _ _ dotted).0
    asked false later found = later found

-- what stands for a text is dotted, whether a name's or the text itself
pub dotted_choice :
    (named : Option (List ℕ)) (text oid : List ℕ)
    → (named ≡ Some oid → is_dotted_oid oid ≡ true)
    → option_or named (if is_dotted_oid text then Some text else None) ≡ Some oid
    → is_dotted_oid oid ≡ true
dotted_choice (Some other) text oid by_name found = by_name found
dotted_choice None text oid by_name found = itself (is_dotted_oid text) refl found
  where
    itself : (b : Bool) → is_dotted_oid text ≡ b → cond b (Some text) None ≡ Some oid → is_dotted_oid oid ≡ true
    itself true dotted found = let same : text ≡ oid = cc in ap is_dotted_oid (sym same) ∙ dotted
    itself false plain found = cc

-- the dotted form that is found is dotted
pub oid_of-is_dotted :
    (text oid : List ℕ) → list_all (λ row. is_dotted_oid row.oid) names ≡ true → oid_of text ≡ Some oid
    → is_dotted_oid oid ≡ true
oid_of-is_dotted text oid dotted found =
    dotted_choice (oid_among names text) text oid (among_dotted names text oid dotted) found

-- a dotted text is its own dotted form
pub oid_of-dotted :
    (text : List ℕ) → list_all (λ row. is_keystring row.name) names ≡ true → is_dotted_oid text ≡ true
    → oid_of text ≡ Some text
oid_of-dotted text keys dotted =
    let form = IsDottedOid-from text dotted in
    let first = dotted_first text form.0 form.1 form.2 form.3 in
    let none : oid_among names text ≡ None =
    ap (oid_among names) first.2 ∙ none_dotted names first.0 first.1 keys first.3 in
    ap (λ named. option_or named (if is_dotted_oid text then Some text else None)) none
    ∙ ap (λ b. if b then Some text else None) dotted
