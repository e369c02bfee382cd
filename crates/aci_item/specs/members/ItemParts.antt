-- The parts of access control items: levels, bits, users, attribute types and values, subtrees.
use Rattle.std.specs.Prelude.{ℕ, Bool, true, false, min, ◌-◌, length, slice_get, List, [], find, Option, Some, None, option_map, option_and_then, codes, if◌then◌else◌}
use Rattle.std.specs.Str.{bytes_eq}
use Rattle.dir_tree.specs.dn_names.name.Names.{Keyed, RdnSequence, TypeAndValue}
use Rattle.dir_tree.specs.dn_names.NameValues.{value_of}
use Rattle.dir_tree.specs.schema_tables.Attributes.{attr_of}
use Rattle.gser_tree.specs.declared.part.Part.{Part}
use Rattle.gser_tree.specs.looking.Shapes.{Shape}
use Rattle.gser_tree.specs.looking.Looking.{Behind, members_in, word_in, string_in, named_in, chosen_in, flag}
use Rattle.gser_tree.specs.Reading.{Read, give, ◌>>=◌, expect, part, required, nothing_left}
use Rattle.subtree_spec.specs.Parts.{name, oid}
use Rattle.subtree_spec.specs.Subtrees.{Choice, Subtree}
use Rattle.subtree_spec.specs.SubtreeText.{subtree}
use Rattle.aci_item.specs.declared.level.Level.{Level}
use Rattle.aci_item.specs.Level.{levels}
use Rattle.aci_item.specs.Permission.{Bit, all_bits, put_bit}
use Rattle.aci_item.specs.Sets.{gather_into}
use Rattle.aci_item.specs.ItemPrinted.{level_name, bit_name}

-- ENUMERATED { none (0), simple (1), strong (2) }
unfoldable pub level_word : Shape → Read Level
level_word shape = expect (word_in shape) >>= λ word. expect (find (λ level. bytes_eq word.text (level_name level)) levels)

-- SEQUENCE { level, localQualifier OPTIONAL, signed DEFAULT FALSE }, with the level alone
unfoldable pub basic_levels : Shape → Read Level
basic_levels shape = do
  all ← expect (members_in shape)
  level ← required (codes "level") level_word all
  nothing_left level.rest level.value

-- a choice of basicLevels, or, in the short spelling, the word of a level
abbrev pub level_by : Option (Part × Shape) → Shape → Read Level
level_by None shape = level_word shape
level_by (Some chosen) shape = if bytes_eq chosen.0.text (codes "basicLevels") then basic_levels chosen.1 else λ bad. None

-- AuthenticationLevel ::= CHOICE { basicLevels, other EXTERNAL }, of which other is left out
unfoldable pub level : Shape → Read Level
level shape = level_by (chosen_in shape) shape

-- a bit by its name
unfoldable pub bit : Shape → Read Bit
bit shape = expect (word_in shape) >>= λ word. expect (find (λ bit. bytes_eq word.text (bit_name bit)) all_bits)

-- GrantsAndDenials
unfoldable pub bits : Shape → Read (List Bit)
bits shape = expect (members_in shape) >>= gather_into put_bit bit []

-- NameAndOptionalUID ::= SEQUENCE { dn, uid OPTIONAL }, with a name alone
unfoldable pub named_user : List Shape → Read RdnSequence
named_user components = required (codes "dn") name components >>= λ dn. nothing_left dn.rest dn.value

-- the same, or, in the short spelling, a name
abbrev pub user_by : Option (List Shape) → Shape → Read RdnSequence
user_by None shape = name shape
user_by (Some components) shape = named_user components

unfoldable pub user : Shape → Read RdnSequence
user shape = user_by (members_in shape) shape

-- an attribute type of the table
unfoldable pub kind : Shape → Read ℕ
kind shape = oid shape >>= λ word. part word.place 0 (attr_of word.text)

-- no octets
abbrev pub no_octets : Keyed
no_octets = record { octets = []; key = [] }

-- a value of an attribute type
unfoldable pub assertion : ℕ → Shape → Read Keyed
assertion kind shape = expect (string_in shape) >>= λ string. part string.place no_octets (value_of kind string.text)

-- AttributeTypeAndValue ::= SEQUENCE { type, value }
unfoldable pub kind_and_value : Shape → Read TypeAndValue
kind_and_value shape = do
  all ← expect (members_in shape)
  kind ← required (codes "type") kind all
  value ← required (codes "value") (assertion kind.value) kind.rest
  nothing_left value.rest (record { kind = kind.value; value = value.value })

-- the last of members
abbrev pub last_of : List Shape → Option Shape
last_of shapes = slice_get shapes (length shapes - 1)

-- the place of a refinement, which is the last component of a subtree specification
unfoldable pub filter_place : Shape → Option ℕ
filter_place shape =
    option_map (λ chosen. chosen.0.place)
    (option_and_then (λ named. chosen_in named.1) (option_and_then named_in (option_and_then last_of (members_in shape))))

-- the first of two places
abbrev pub least : Option ℕ → Option ℕ → Option ℕ
least bad None = bad
least None (Some place) = Some place
least (Some first) (Some place) = Some (min first place)

-- a user class's subtree has no refinement
abbrev pub unrefined : Shape → Subtree → Option Choice → Read Subtree
unrefined shape spec None = give spec
unrefined shape spec (Some choice) = λ bad. Some (record { value = spec; bad = least bad (filter_place shape) })

unfoldable pub class_subtree : Shape → Read Subtree
class_subtree shape = subtree shape >>= λ spec. unrefined shape spec spec.filter

-- a component without a value of its own, whether it is there
abbrev pub flag_by : List Shape → Option (List Shape) → Behind Bool
flag_by shapes None = record { value = false; rest = shapes }
flag_by shapes (Some rest) = record { value = true; rest = rest }

abbrev pub flagged : List ℕ → List Shape → Read (Behind Bool)
flagged name shapes = give (flag_by shapes (flag name shapes))
