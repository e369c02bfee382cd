-- The grammar of items, which are filters without members (RFC 4515 section 3).
use Rattle.std.specs.Prelude.{ℕ, List}
use Rattle.regular_text.specs.Grammar.{Grammar, Matches}
use Rattle.regular_text.specs.Grammar.Grammar.{Nothing, One, Either, Then, Many}
use Rattle.filter_text.specs.declared.classes.Class.{Class}
use Rattle.filter_text.specs.Classes.{class_of, is_letter, is_word, is_digit, is_hex, is_plain, is_zero, is_nonzero, is_dot, is_equals, is_sign, is_asterisk, is_backslash}

-- descr = keystring = leadkeychar *keychar
abbrev pub word : Grammar Class
word = Then (One is_letter) (Many (One is_word))

-- number = DIGIT / ( LDIGIT 1*DIGIT )
abbrev pub number : Grammar Class
number = Either (One is_zero) (Then (One is_nonzero) (Many (One is_digit)))

-- a dot and a number
abbrev pub dot_number : Grammar Class
dot_number = Then (One is_dot) number

-- numericoid = number 1*( DOT number )
abbrev pub oid : Grammar Class
oid = Then number (Then dot_number (Many dot_number))

-- attr = attributeType = descr / numericoid, here without options
abbrev pub kind : Grammar Class
kind = Either word oid

-- what follows the backslash of escaped = ESC HEX HEX
abbrev pub hex_pair : Grammar Class
hex_pair = Then (One is_hex) (One is_hex)

-- one octet of a value: normal / escaped
abbrev pub piece : Grammar Class
piece = Either (One is_plain) (Then (One is_backslash) hex_pair)

-- assertionvalue = valueencoding = 0*(normal / escaped)
abbrev pub value : Grammar Class
value = Many piece

-- a part of substrings, which isn't empty
abbrev pub part : Grammar Class
part = Then piece value

-- *(assertionvalue ASTERISK) [assertionvalue], where no part is empty
abbrev pub after_star : Grammar Class
after_star = Then (Many (Then part (One is_asterisk))) (Either Nothing part)

-- what stands behind = in a test of equality, of presence (ASTERISK alone) or of substrings
-- ([initial] ASTERISK *(assertionvalue ASTERISK) [final])
abbrev pub matched : Grammar Class
matched = Then value (Either Nothing (Then (One is_asterisk) after_star))

-- item = simple / present / substring
abbrev pub item : Grammar Class
item = Then kind (Either (Then (One is_equals) matched) (Then (One is_sign) (Then (One is_equals) value)))

-- the octets are the text of an item
unfoldable pub IsItemText : List ℕ → Type 0
IsItemText text = Matches class_of item text
