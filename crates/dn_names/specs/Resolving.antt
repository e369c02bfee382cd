-- What a written name means by the table of types: its pairs with keys, or the first pair that isn't good.
use Rattle.std.specs.Prelude.{ℕ, ◌+◌, ◌&&◌, ◌==◌, nat_lt, nat_le, List, [], ◌∷◌, length, reverse, Option, Some, None, Result, Ok, Err, option_map, option_and_then, if◌then◌else◌}
use Rattle.schema_tables.specs.Attributes.{attr_of, is_naming, syntax_of}
use Rattle.dn_names.specs.declared.error.BadName.{BadName}
use Rattle.dn_names.specs.declared.error.BadName.TheVariants.{Part, TooMany}
use Rattle.dn_names.specs.Limits.{most_rdns, most_octets}
use Rattle.dn_names.specs.name.Names.{Keyed, TypeAndValue, RdnSequence}
use Rattle.dn_names.specs.Spelling.{WrittenPair}
use Rattle.dn_names.specs.value.Values.{plain_key}

-- a value of a type that may name, not too long and of the type's syntax
unfoldable pub naming_value : ℕ → List ℕ → Option Keyed
naming_value number octets =
    if is_naming number && nat_le (length octets) most_octets
    then option_map (λ key. record { octets = octets; key = key }) (option_and_then (λ syntax. plain_key syntax octets) (syntax_of number))
    else None

-- a pair of a known type with such a value
unfoldable pub pair_meaning : WrittenPair → Option TypeAndValue
pair_meaning pair =
    option_and_then (λ number. option_map (λ value. record { kind = number; value = value }) (naming_value number pair.octets))
    (attr_of pair.kind)

-- a pair among others in the order of the table; nothing where its type is there
abbrev pub put_pair : TypeAndValue → List TypeAndValue → Option (List TypeAndValue)
put_pair pair [] = Some (pair ∷ [])
put_pair pair (first ∷ pairs) =
    if nat_lt pair.kind first.kind then Some (pair ∷ first ∷ pairs)
    else if pair.kind == first.kind then None
    else option_map (λ more. first ∷ more) (put_pair pair pairs)

-- a written pair among others
abbrev pub add_pair : List TypeAndValue → WrittenPair → Option (List TypeAndValue)
add_pair pairs written = option_and_then (λ pair. put_pair pair pairs) (pair_meaning written)

-- go on with the value, or refuse the pair of this number where there is none
abbrev pub or_part : {A B : Type 0} → ℕ → Option A → (A → Result B BadName) → Result B BadName
or_part index None go = Err (Part index)
or_part index (Some part) go = go part

-- go on with what a step gave, or keep its refusal
abbrev pub and_then : {A B : Type 0} → Result A BadName → (A → Result B BadName) → Result B BadName
and_then (Err fault) go = Err fault
and_then (Ok value) go = go value

-- an RDN's pairs, numbered from index; those before them stand in pairs
abbrev pub rdn_from : ℕ → List TypeAndValue → List WrittenPair → Result (List TypeAndValue) BadName
rdn_from index pairs [] = Ok pairs
rdn_from index pairs (written ∷ more) = or_part index (add_pair pairs written) (λ next. rdn_from (index + 1) next more)

-- RDNs in the order of the text, their pairs numbered from index
abbrev pub rdns_from : ℕ → List (List WrittenPair) → Result RdnSequence BadName
rdns_from index [] = Ok []
rdns_from index (written ∷ more) =
    and_then (rdn_from index [] written) (λ rdn. and_then (rdns_from (index + length written) more) (λ rdns. Ok (rdn ∷ rdns)))

-- root first
abbrev pub from_root : Result RdnSequence BadName → Result RdnSequence BadName
from_root result = and_then result (λ rdns. Ok (reverse rdns))

-- a name that has not too many RDNs
unfoldable pub resolve : List (List WrittenPair) → Result RdnSequence BadName
resolve written = if nat_lt most_rdns (length written) then Err TooMany else from_root (rdns_from 0 written)

-- an RDN alone
unfoldable pub resolve_rdn : List (List WrittenPair) → Result RdnSequence BadName
resolve_rdn written = if length written == 1 then from_root (rdns_from 0 written) else Err TooMany
