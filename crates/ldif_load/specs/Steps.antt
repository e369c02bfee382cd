-- How a record is loaded step by step: what the value of a line gives.
use Rattle.std.specs.Prelude.{ℕ, Option, Some, None, Result, Ok, Err}
use Rattle.dir_tree.specs.dn_names.name.Names.{Keyed}
use Rattle.ldif_load.specs.declared.fault.LoadCause.TheVariants.{Value}
use Rattle.ldif_load.specs.load.Loading.{RecordFault, Bad}

-- the value, or the line is bad
abbrev pub value_or_fault : ℕ → Option Keyed → Result Keyed RecordFault
value_or_fault line None = Err (Bad line Value)
value_or_fault line (Some value) = Ok value
