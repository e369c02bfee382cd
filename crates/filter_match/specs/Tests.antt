-- What the items of a search filter ask of an entry (RFC 4511 4.5.1.7): the type by its number, and what is asserted of
-- its values by keys, prepared once a request.
use Rattle.std.specs.Prelude.{ℕ, ◌==◌, List, [], ◌∷◌, Option, Some, None, unwrap_or, if◌then◌else◌}
use Rattle.dir_tree.specs.plain_values.Options.{◌>>=◌}
use Rattle.dir_tree.specs.match_rules.declared.parts.Part.{Part}
use Rattle.dir_tree.specs.match_rules.declared.parts.Part.TheVariants.{First, Middle, Last}
use Rattle.dir_tree.specs.match_rules.declared.rules.Rule.{Rule}
use Rattle.dir_tree.specs.match_rules.declared.rules.Rule.TheVariants as rules
use Rattle.dir_tree.specs.match_rules.Keys.{key_of}
use Rattle.dir_tree.specs.match_rules.Parts.{part_key_of}
use Rattle.dir_tree.specs.schema_tables.declared.kinds.Syntax.{Syntax}
use Rattle.dir_tree.specs.schema_tables.declared.kinds.Syntax.TheVariants as syntaxes
use Rattle.dir_tree.specs.schema_tables.Attributes.{attr_of, syntax_of}
use Rattle.dir_tree.specs.dn_names.NameValues.{value_of}
use Rattle.dir_tree.specs.EntryClasses.{object_class}
use Rattle.ldap_filter.specs.filter.Filters.{Filter}
use Rattle.ldap_filter.specs.filter.Filters.Filter.{And, Or, Not, Equal, Parts, AtLeast, AtMost, Present, Approx, Extensible}

-- what is asserted of a value: an equal key, a class or a subclass of it, a key that is not before or not behind
-- another, or a first part, middle parts and a last part
pub data Assertion : Type 0 where
  HasKey : List ℕ → Assertion
  IsClass : List ℕ → Assertion
  IsAtLeast : List ℕ → Assertion
  IsAtMost : List ℕ → Assertion
  HasParts : List ℕ → List (List ℕ) → List ℕ → Assertion

-- what an item asks: nothing, being Undefined of every entry; that the type is there; or a value of the type
pub data Test : Type 0 where
  Nothing : Test
  IsThere : ℕ → Test
  HasValue : ℕ → Assertion → Test

-- ---- equality: of an objectClass a class, of any other type the key of its syntax

abbrev pub equality : ℕ → List ℕ → Assertion
equality number key = if number == object_class then IsClass key else HasKey key

unfoldable pub equal_test : List ℕ → List ℕ → Option Test
equal_test kind octets =
    attr_of kind >>= λ number. (value_of number octets >>= λ value. Some (HasValue number (equality number value.key)))

-- ---- order and substrings: by this profile texts alone have them, and no names, identifiers or octets

abbrev pub text_rule : Syntax → Option Rule
text_rule syntaxes.Text = Some rules.Text
text_rule syntaxes.Ascii = Some rules.Ascii
text_rule syntaxes.Phone = Some rules.Phone
text_rule syntaxes.Country = Some rules.Country
text_rule syntaxes.Octets = None
text_rule syntaxes.Oid = None
text_rule syntaxes.Name = None
text_rule syntaxes.Subtree = None
text_rule syntaxes.Aci = None

-- the rule of a type whose values are texts
unfoldable pub rule_of : ℕ → Option Rule
rule_of number = syntax_of number >>= text_rule

-- the key before which, or behind which, no value is asked for
unfoldable pub order_test : (List ℕ → Assertion) → List ℕ → List ℕ → Option Test
order_test make kind octets =
    attr_of kind >>= λ number. (rule_of number >>= λ rule. (key_of rule octets >>= λ key. Some (HasValue number (make key))))

-- the key of an outer part, empty where there is none
abbrev pub outer_key : Rule → Part → Option (List ℕ) → Option (List ℕ)
outer_key rule part None = Some []
outer_key rule part (Some octets) = part_key_of rule part octets

-- the keys of the middle parts, where each has one
abbrev pub middle_keys : Rule → List (List ℕ) → Option (List (List ℕ))
middle_keys rule [] = Some []
middle_keys rule (part ∷ parts) =
    part_key_of rule Middle part >>= λ key. (middle_keys rule parts >>= λ keys. Some (key ∷ keys))

-- the keys of all parts, where each has one
unfoldable pub parts_asserted : Rule → Option (List ℕ) → List (List ℕ) → Option (List ℕ) → Option Assertion
parts_asserted rule initial any final =
    outer_key rule First initial >>= λ first. (middle_keys rule any >>= λ middle. (outer_key rule Last final >>= λ last. Some (HasParts first middle last)))

unfoldable pub parts_test : List ℕ → Option (List ℕ) → List (List ℕ) → Option (List ℕ) → Option Test
parts_test kind initial any final =
    attr_of kind >>= λ number. (rule_of number >>= λ rule. (parts_asserted rule initial any final >>= λ asserted. Some (HasValue number asserted)))

-- ---- presence

unfoldable pub present_test : List ℕ → Option Test
present_test kind = attr_of kind >>= λ number. Some (IsThere number)

-- ---- the items in the order of the standard: nothing is asked where the type is unknown, where an assertion is not of
-- the type's syntax, and by an approximate or an extensible match

unfoldable pub test_of : Filter → Test
test_of (Equal kind value) = unwrap_or (equal_test kind value) Nothing
test_of (Parts kind initial any final) = unwrap_or (parts_test kind initial any final) Nothing
test_of (AtLeast kind value) = unwrap_or (order_test IsAtLeast kind value) Nothing
test_of (AtMost kind value) = unwrap_or (order_test IsAtMost kind value) Nothing
test_of (Present kind) = unwrap_or (present_test kind) Nothing
test_of (Approx kind value) = Nothing
test_of (Extensible content) = Nothing
test_of (And members) = Nothing
test_of (Or members) = Nothing
test_of (Not member) = Nothing
