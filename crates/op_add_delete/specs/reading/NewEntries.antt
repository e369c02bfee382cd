-- The entry that an add request describes (RFC 4511 4.7): its attributes in their order, and then those values of its own
-- RDN that they leave out.
use Rattle.std.specs.Prelude.{ℕ, ◌==◌, nat_le, Bool, false, ◌||◌, List, [], ◌∷◌, length, Option, Some, None, Result, Ok, Err, if◌then◌else◌}
use Rattle.std.specs.List.{list_any}
use Rattle.ldap_msg.specs.plain_values.Results.{◌>>=◌}
use Rattle.dir_tree.specs.schema_tables.Attributes.{attr_of}
use Rattle.dir_tree.specs.dn_names.name.Names.{Keyed, RdnSequence}
use Rattle.dir_tree.specs.dn_names.NameValues.{value_of}
use Rattle.dir_tree.specs.dn_names.Limits.{most_octets}
use Rattle.dir_tree.specs.Entry.{Attribute, EntryInformation, kinds_of, is_match}
use Rattle.ldif_load.specs.load.Loading.{with_own_values}
use Rattle.ldap_msg.specs.declared.operations.ResultCode.{ResultCode}
use Rattle.ldap_msg.specs.declared.operations.ResultCode.TheVariants as code
use Rattle.ldap_msg.specs.declared.kinds.KindValues.{KindValues}

-- the value, where the octets are one and not too many
abbrev pub fitting : List ℕ → Option Keyed → Result Keyed ResultCode
fitting octets None = Err code.InvalidAttributeSyntax
fitting octets (Some value) = if nat_le (length octets) most_octets then Ok value else Err code.ConstraintViolation

-- the value of the type that the octets are
abbrev pub read_value : ℕ → List ℕ → Result Keyed ResultCode
read_value kind octets = fitting octets (value_of kind octets)

-- the values of the type, or why the first that is none isn't
unfoldable pub read_values : ℕ → List (List ℕ) → Result (List Keyed) ResultCode
read_values kind [] = Ok []
read_values kind (octets ∷ rest) = read_value kind octets >>= λ value. read_values kind rest >>= λ values. Ok (value ∷ values)

-- the attribute, where its type is known
abbrev pub read_known : List (List ℕ) → Option ℕ → Result Attribute ResultCode
read_known values None = Err code.UndefinedAttributeType
read_known values (Some kind) = read_values kind values >>= λ values. Ok (record { kind = kind; values = values })

-- the attribute that a type and values of a request are
abbrev pub read_attribute : KindValues → Result Attribute ResultCode
read_attribute given = read_known given.values (attr_of given.kind)

-- the attributes, or why the first that is none isn't
unfoldable pub read_each : List KindValues → Result (List Attribute) ResultCode
read_each [] = Ok []
read_each (given ∷ rest) = read_attribute given >>= λ attribute. read_each rest >>= λ attributes. Ok (attribute ∷ attributes)

-- two of the items are the same
unfoldable pub repeats : {A : Type 0} → (A → A → Bool) → List A → Bool
repeats same [] = false
repeats same (first ∷ rest) = list_any (same first) rest || repeats same rest

-- a type is listed twice, or two values of one match
abbrev pub has_twice : List Attribute → Bool
has_twice attributes =
    repeats (λ one other. one == other) (kinds_of attributes) || list_any (λ attribute. repeats is_match attribute.values) attributes

-- the attributes, where none comes twice
abbrev pub without_twice : List Attribute → Result (List Attribute) ResultCode
without_twice attributes = if has_twice attributes then Err code.AttributeOrValueExists else Ok attributes

-- the attributes of a request, each of which has values
abbrev pub read_filled : List KindValues → Result (List Attribute) ResultCode
read_filled given = read_each given >>= without_twice

-- no value is given
abbrev pub lacks_values : KindValues → Bool
lacks_values given = length given.values == 0

-- the attributes of a request: each has values, then each is read, and then none comes twice
unfoldable pub read_attributes : List KindValues → Result (List Attribute) ResultCode
read_attributes given =
    if list_any lacks_values given then Err code.ProtocolError
    else read_filled given

-- the entry of this name with the attributes, and with the values of its own RDN last
abbrev pub new_entry : RdnSequence → List Attribute → EntryInformation
new_entry name attributes = with_own_values (record { name = name; attributes = attributes })
