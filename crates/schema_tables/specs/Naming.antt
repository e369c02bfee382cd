-- How a text names a row of a table of the schema (RFC 4512 section 2.5): by the row's name, where the
-- case of ASCII letters counts nothing, or by its object identifier in dotted form.
use Rattle.std.specs.Prelude.{ℕ, Bool, true, false, not, ◌&&◌, ◌||◌, ◌==◌, List, [], ◌∷◌}
use Rattle.std.specs.Char.{is_ascii_alphabetic, is_ascii_alphanumeric}
use Rattle.std.specs.List.{list_all, list_any}
use Rattle.std.specs.Str.{bytes_eq, str_eq_ignore_ascii_case}

-- a name and the object identifier that it stands for, in dotted form
pub record Named : Type 0 where
  pub name : List ℕ
  pub oid : List ℕ

-- the text is the name, but for the case of ASCII letters
abbrev pub is_same_name : List ℕ → List ℕ → Bool
is_same_name name text = str_eq_ignore_ascii_case name text

-- the text is the name, but for the case of ASCII letters, or the object identifier
abbrev pub is_named : List ℕ → List ℕ → List ℕ → Bool
is_named name oid text = is_same_name name text || bytes_eq oid text

-- keystring = leadkeychar *keychar: a letter, then letters, digits and hyphens
abbrev pub is_keystring : List ℕ → Bool
is_keystring [] = false
is_keystring (first ∷ rest) =
    is_ascii_alphabetic first && list_all (λ octet. is_ascii_alphanumeric octet || octet == 45) rest

-- one text can name both rows
abbrev pub are_alike : Named → Named → Bool
are_alike one other =
    is_same_name one.name other.name || bytes_eq one.oid other.oid
    || is_same_name one.name other.oid || is_same_name other.name one.oid

-- no row is like a later one
abbrev pub are_distinct : List Named → Bool
are_distinct [] = true
are_distinct (row ∷ rows) = not (list_any (are_alike row) rows) && are_distinct rows
