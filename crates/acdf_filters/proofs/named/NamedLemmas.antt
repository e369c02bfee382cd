-- The key of the value that a printed name is.
use Rattle.std.proofs.Common.{◌≡◌, List, ℕ, Option, Some, refl, sym, ap, ◌∙◌}
use Rattle.std.specs.Option.{option_map, option_and_then}
use Rattle.std.proofs.lemmas.Option.{same_Some}
use Rattle.dir_tree.specs.schema_tables.declared.kinds.Syntax.{Syntax}
use Rattle.dir_tree.specs.schema_tables.declared.kinds.Syntax.TheVariants.{Name}
use Rattle.dir_tree.specs.schema_tables.Attributes.{attributes, syntax_of}
use Rattle.dir_tree.specs.dn_names.name.Names.{Keyed, RdnSequence}
use Rattle.dir_tree.specs.dn_names.name.GoodNames.{IsGoodName}
use Rattle.dir_tree.specs.dn_names.NameValues.{value_key, value_of, read_key}
use Rattle.dir_tree.specs.dn_names.Printing.{print_name, name_key}
use Rattle.dir_tree.proofs.dn_names_proofs.Theorems.{read_name-print_name}
use Rattle.acdf_filters.specs.users.Users.{member}

-- members are names
member_syntax : syntax_of member ≡ Some Name
unfolding attributes
member_syntax = refl

-- a value of octets and its key
abbrev keyed : List ℕ → List ℕ → Keyed
keyed octets key = record { octets = octets; key = key }

-- a printed name, as a member, has the key of the name
value_of-print_name :
    (name : RdnSequence) → IsGoodName name
    → value_of member (print_name name) ≡ Some (keyed (print_name name) (name_key name))
unfolding value_of
value_of-print_name name good =
    ap (λ (syntax : Option Syntax). option_map (keyed (print_name name)) (option_and_then (λ syntax. value_key syntax (print_name name)) syntax)) member_syntax
    ∙ ap (λ read. option_map (keyed (print_name name)) (read_key read)) (read_name-print_name name good)

pub key-value_of :
    (name : RdnSequence) (octets : List ℕ) (value : Keyed) → IsGoodName name → octets ≡ print_name name
    → value_of member octets ≡ Some value → value.key ≡ name_key name
key-value_of name octets value good is made =
    sym (ap (λ (v : Keyed). v.key) (same_Some (keyed (print_name name) (name_key name)) value
    (sym (value_of-print_name name good) ∙ ap (value_of member) (sym is) ∙ made)))
