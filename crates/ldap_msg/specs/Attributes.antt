-- An attribute's type and values, and a change of one (RFC 4511 4.1.7, 4.6).
use Rattle.std.specs.Prelude.{ℕ, zero, suc}
use Rattle.std.proofs.Common.{zero-le, suc-le-suc}
use Rattle.ber_layout.specs.Layouts.{Layout, Value}
use Rattle.ber_layout.specs.Layouts.Layout.{AnyOctets, Number, End, Then, Each}
use Rattle.ldap_msg.specs.declared.kinds.KindValues.{KindValues}
use Rattle.ldap_msg.specs.declared.kinds.ModifyOperation.{ModifyOperation}
use Rattle.ldap_msg.specs.declared.kinds.ModifyOperation.TheVariants.{Add, Delete, Replace, Other}
use Rattle.ldap_msg.specs.declared.kinds.Change.{Change}

-- PartialAttribute ::= SEQUENCE { type AttributeDescription, vals SET OF value AttributeValue }
abbrev pub attribute_layout : Layout
attribute_layout = Then 0x04 AnyOctets (Then 0x31 (Each 0x04 AnyOctets End) End)

-- the parts of an attribute
abbrev pub attribute_parts : KindValues → Value attribute_layout
attribute_parts attribute = (attribute.kind, ((attribute.values, tt), tt))

-- the attribute of these parts
abbrev pub attribute_from : Value attribute_layout → KindValues
attribute_from (kind, ((values, _), _)) = record { kind = kind; values = values }

-- operation ENUMERATED { add (0), delete (1), replace (2), ... }
abbrev pub operation_number : ModifyOperation → ℕ
operation_number Add = 0
operation_number Delete = 1
operation_number Replace = 2
operation_number (Other other) = other.number

-- the operation of a number
abbrev pub operation_from : ℕ → ModifyOperation
operation_from zero = Add
operation_from (suc zero) = Delete
operation_from (suc (suc zero)) = Replace
operation_from (suc (suc (suc more))) = Other (record { number = suc (suc (suc more)); beyond = suc-le-suc (suc-le-suc (suc-le-suc zero-le)) })

-- change SEQUENCE { operation ENUMERATED, modification PartialAttribute }
abbrev pub change_layout : Layout
change_layout = Then 0x0a (Number 0 127) (Then 0x30 attribute_layout End)

-- the parts of a change
abbrev pub change_parts : Change → Value change_layout
change_parts change = (operation_number change.operation, (attribute_parts change.body, tt))

-- the change of these parts
abbrev pub change_from : Value change_layout → Change
change_from (operation, (body, _)) = record { operation = operation_from operation; body = attribute_from body }
