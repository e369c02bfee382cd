-- The outer grammar of names (RFC 4514 section 3; spaces around types and values as in RFC 1779 section 2.3).
-- It knows no table of types and no syntax of values: those are asked afterwards.
use Rattle.std.specs.Prelude.{ℕ, List}
use Rattle.regular_text.specs.Grammar.{Grammar, Matches}
use Rattle.regular_text.specs.Grammar.Grammar.{Nothing, One, Either, Then, Many}
use Rattle.dn_names.specs.declared.classes.Class.{Class}
use Rattle.dn_names.specs.Classes.{class_of, is_letter, is_word, is_digit, is_hex, is_plain, is_first, is_escapable, is_zero, is_nonzero, is_dot, is_space, is_equals, is_plus, is_comma, is_backslash}

-- any number of spaces
abbrev pub spaces : Grammar Class
spaces = Many (One is_space)

-- descr = keystring = leadkeychar *keychar
abbrev pub word : Grammar Class
word = Then (One is_letter) (Many (One is_word))

-- number = DIGIT / ( LDIGIT 1*DIGIT )
abbrev pub number : Grammar Class
number = Either (One is_zero) (Then (One is_nonzero) (Many (One is_digit)))

-- a dot and a number
abbrev pub dot_number : Grammar Class
dot_number = Then (One is_dot) number

-- numericoid = number 1*( DOT number )
abbrev pub oid : Grammar Class
oid = Then number (Then dot_number (Many dot_number))

-- attributeType = descr / numericoid
abbrev pub kind : Grammar Class
kind = Either word oid

-- what follows the backslash of pair = ESC ( ESC / special / hexpair )
abbrev pub escape : Grammar Class
escape = Either (One is_escapable) (Then (One is_hex) (One is_hex))

-- one octet of a value, as it may be spelled at the front
abbrev pub first_piece : Grammar Class
first_piece = Either (One is_first) (Then (One is_backslash) escape)

-- one octet of a value, as it may be spelled past the front
abbrev pub piece : Grammar Class
piece = Either (One is_plain) (Then (One is_backslash) escape)

-- attributeValue = string, with spaces before it, and those at its end among its pieces
abbrev pub value : Grammar Class
value = Then spaces (Either Nothing (Then first_piece (Many piece)))

-- attributeTypeAndValue = attributeType EQUALS attributeValue
abbrev pub pair : Grammar Class
pair = Then spaces (Then kind (Then spaces (Then (One is_equals) value)))

-- *( PLUS attributeTypeAndValue )
abbrev pub more_pairs : Grammar Class
more_pairs = Many (Then (One is_plus) pair)

-- relativeDistinguishedName = attributeTypeAndValue *( PLUS attributeTypeAndValue )
abbrev pub rdn : Grammar Class
rdn = Then pair more_pairs

-- *( COMMA relativeDistinguishedName )
abbrev pub more_rdns : Grammar Class
more_rdns = Many (Then (One is_comma) rdn)

-- distinguishedName = [ relativeDistinguishedName *( COMMA relativeDistinguishedName ) ], or spaces alone
abbrev pub name : Grammar Class
name = Either spaces (Then rdn more_rdns)

-- the octets are a text of the outer grammar
unfoldable pub IsNameText : List ℕ → Type 0
IsNameText text = Matches class_of name text
