-- The values of each attribute type: which octets are of its syntax, and their keys.
use Rattle.std.specs.Prelude.{ℕ, List, Option, Some, None, Result, Ok, Err}
use Rattle.std.specs.Option.{option_map, option_and_then}
use Rattle.schema_tables.specs.declared.kinds.Syntax.{Syntax}
use Rattle.schema_tables.specs.declared.kinds.Syntax.TheVariants.{Name}
use Rattle.schema_tables.specs.Attributes.{syntax_of}
use Rattle.dn_names.specs.declared.error.BadName.{BadName}
use Rattle.dn_names.specs.name.Names.{Keyed, RdnSequence}
use Rattle.dn_names.specs.value.Values.{plain_key}
use Rattle.dn_names.specs.parsing.NameText.{read_name}
use Rattle.dn_names.specs.Printing.{name_key}

-- the key of a name that was read
abbrev pub read_key : Result RdnSequence BadName → Option (List ℕ)
read_key (Ok name) = Some (name_key name)
read_key (Err cause) = None

-- the key of octets of a syntax: that of a name is its printed form, with keys where the values stand
abbrev pub value_key : Syntax → List ℕ → Option (List ℕ)
value_key Name octets = read_key (read_name octets)
value_key syntax octets = plain_key syntax octets

-- the value of an attribute type that octets are: none where they are not of its syntax
unfoldable pub value_of : ℕ → List ℕ → Option Keyed
value_of number octets =
    option_map (λ key. record { octets = octets; key = key }) (option_and_then (λ syntax. value_key syntax octets) (syntax_of number))
