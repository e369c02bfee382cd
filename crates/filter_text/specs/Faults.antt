-- Why a text is no filter that can be read, apart from want of memory.
use Rattle.std.specs.Prelude.{ℕ, Option, Some, None}
use Rattle.filter_text.specs.declared.error.FilterFault.{FilterFault}
use Rattle.filter_text.specs.declared.error.FilterFault.TheVariants as fault

-- the octets leave the grammar at a place, or more filters are open than a filter may be deep
pub data FilterCause : Type 0 where
  Text : ℕ → FilterCause
  TooDeep : FilterCause

-- the cause of a fault; want of memory has none
abbrev pub cause_of : FilterFault → Option FilterCause
cause_of (fault.Text place) = Some (Text place)
cause_of fault.TooDeep = Some TooDeep
cause_of fault.NoMemory = None
