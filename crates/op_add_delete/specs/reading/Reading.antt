-- What a call that reads a part of a request answers, in the definitions' words.
use Rattle.std.specs.Prelude.{Option, Some, None}
use Rattle.dir_tree.specs.Entry.{Attribute}
use Rattle.ldap_msg.specs.declared.operations.ResultCode.{ResultCode}
use Rattle.op_add_delete.specs.declared.fault.Fault.{Fault}
use Rattle.op_add_delete.specs.declared.fault.Fault.TheVariants as fault
use Rattle.op_add_delete.specs.declared.reading.Given.{Given}

-- the code of a fault; want of memory has none
abbrev pub cause_of : Fault → Option ResultCode
cause_of (fault.Refused code) = Some code
cause_of fault.NoMemory = None

-- the attribute that a type and values are
abbrev pub attribute_of : Given → Attribute
attribute_of given = record { kind = given.kind.0; values = given.values.items }
