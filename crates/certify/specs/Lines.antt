-- The lines of a certificate: each is a text of its own, or a word before a name.
use Rattle.std.specs.Prelude.{ℕ, List, [], ◌++◌, codes, Option, Some, None}
use Rattle.dir_tree.specs.dn_names.name.Names.{RdnSequence}
use Rattle.dir_tree.specs.dn_names.Printing.{print_name}
use Rattle.line_text.specs.Escapes.{one_line}
use Rattle.certify.specs.declared.lines.Line as code

-- a line: its octets, or those up to the name with which it ends
pub record Line : Type 0 where
  pub text : List ℕ
  pub name : Option RdnSequence

-- a line without a name
abbrev pub whole : List ℕ → Line
whole text = record { text = text; name = None }

-- a word, and a name behind it
abbrev pub before : List ℕ → RdnSequence → Line
before word name = record { text = word; name = Some name }

-- the octets of the name (RFC 4514), kept in one line
abbrev pub name_text : Option RdnSequence → List ℕ
name_text None = []
name_text (Some name) = one_line (print_name name)

-- a line as it is written, with LF behind it
abbrev pub line_text : Line → List ℕ
line_text line = line.text ++ (name_text line.name ++ codes "\n")

-- the line that the program holds
abbrev pub line_of : code.Line → Line
line_of line = record { text = line.text.items; name = line.name }
