-- The parts of subtree specifications and access control items: names, object identifiers, and their values.
use Rattle.std.specs.Prelude.{ℕ, Bool, ◌||◌, List, [], Option, Some, None, option_and_then, if◌then◌else◌}
use Rattle.std.specs.Result.{result_ok}
use Rattle.schema_tables.specs.Naming.{is_keystring}
use Rattle.schema_tables.specs.Oids.{is_dotted_oid}
use Rattle.schema_tables.specs.classes.Classes.{class_of, class_oid_of}
use Rattle.dn_names.specs.name.Names.{RdnSequence}
use Rattle.dn_names.specs.parsing.NameText.{read_name}
use Rattle.gser_tree.specs.declared.part.Part.{Part}
use Rattle.gser_tree.specs.looking.Shapes.{Shape}
use Rattle.gser_tree.specs.looking.Looking.{members_in, word_in, string_in}
use Rattle.gser_tree.specs.Reading.{Read, expect, part, give, gather, ◌>>=◌}

-- the name that a text is of
unfoldable pub name_of : List ℕ → Option RdnSequence
name_of text = result_ok (read_name text)

-- DistinguishedName and LocalName: a string with a name (RFC 3641 section 3.14)
unfoldable pub name : Shape → Read RdnSequence
name shape = expect (string_in shape) >>= λ string. part string.place [] (name_of string.text)

-- OBJECT IDENTIFIER: a descriptor or a dotted object identifier (RFC 3641 section 3.8)
abbrev pub is_oid : List ℕ → Bool
is_oid text = is_dotted_oid text || is_keystring text

-- a word that is one
unfoldable pub oid : Shape → Read Part
oid shape = expect (word_in shape) >>= λ word. if is_oid word.text then give word else λ bad. None

-- the dotted object identifier of a class
unfoldable pub class_oid : List ℕ → Option (List ℕ)
class_oid text = if is_dotted_oid text then Some text else option_and_then class_oid_of (class_of text)

-- SET OF: the members in their order
abbrev pub set_of : {A : Type 0} → (Shape → Read A) → Shape → Read (List A)
set_of reader shape = expect (members_in shape) >>= gather reader []
