-- The limits of protected items on the values of an attribute type (X.501 18.4.2.4): how many there are at most, and of
-- which other type they are values too.
use Rattle.std.specs.Prelude.{ℕ, ◌==◌, Bool, false, Option, Some, None, option_and_then, codes, if◌then◌else◌}
use Rattle.dir_tree.specs.schema_tables.declared.kinds.Syntax.{Syntax}
use Rattle.dir_tree.specs.schema_tables.declared.kinds.Syntax.TheVariants.{Text, Ascii, Phone, Country, Octets, Oid, Name, Subtree, Aci}
use Rattle.dir_tree.specs.schema_tables.Attributes.{attr_of, syntax_of}
use Rattle.gser_tree.specs.looking.Shapes.{Shape}
use Rattle.gser_tree.specs.looking.Looking.{members_in}
use Rattle.gser_tree.specs.Reading.{Read, ◌>>=◌, expect, part, required, nothing_left, number}
use Rattle.subtree_spec.specs.Parts.{oid}
use Rattle.aci_item.specs.item.Items.{MaxValueCount, RestrictedValue}
use Rattle.aci_item.specs.members.ItemParts.{kind}

-- the place of a syntax among them all
abbrev pub syntax_place : Syntax → ℕ
syntax_place Text = 0
syntax_place Ascii = 1
syntax_place Phone = 2
syntax_place Country = 3
syntax_place Octets = 4
syntax_place Oid = 5
syntax_place Name = 6
syntax_place Subtree = 7
syntax_place Aci = 8

-- both are there, and are the same syntax
abbrev pub are_same : Option Syntax → Option Syntax → Bool
are_same None other = false
are_same (Some one) None = false
are_same (Some one) (Some other) = syntax_place one == syntax_place other

-- the values of both attribute types have the same syntax
abbrev pub have_same_syntax : ℕ → ℕ → Bool
have_same_syntax kind other = are_same (syntax_of kind) (syntax_of other)

-- the other attribute type, where it has the syntax of the first
abbrev pub of_same_syntax : ℕ → ℕ → Option ℕ
of_same_syntax kind other = if have_same_syntax kind other then Some other else None

-- an attribute type of the table that has the syntax of another
unfoldable pub kind_alike : ℕ → Shape → Read ℕ
kind_alike kind shape = oid shape >>= λ word. part word.place 0 (option_and_then (of_same_syntax kind) (attr_of word.text))

-- INTEGER (0..MAX): how many values
abbrev pub count : Shape → Read ℕ
count = number 2147483647

-- MaxValueCount ::= SEQUENCE { type, maxCount }
unfoldable pub max_value_count : Shape → Read MaxValueCount
max_value_count shape = do
  all ← expect (members_in shape)
  kind ← required (codes "type") kind all
  most ← required (codes "maxCount") count kind.rest
  nothing_left most.rest (record { kind = kind.value; max_count = most.value })

-- RestrictedValue ::= SEQUENCE { type, valuesIn }, both of the same syntax
unfoldable pub restricted_value : Shape → Read RestrictedValue
restricted_value shape = do
  all ← expect (members_in shape)
  kind ← required (codes "type") kind all
  other ← required (codes "valuesIn") (kind_alike kind.value) kind.rest
  nothing_left other.rest (record { kind = kind.value; values_in = other.value })
