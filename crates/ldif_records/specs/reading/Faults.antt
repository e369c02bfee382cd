-- A bad line of a data file (RFC 2849): what a file says. An answer may also be that memory was refused, of which a file
-- says nothing.
use Rattle.std.specs.Prelude.{ℕ, Option, Some, None}
use Rattle.ldif_records.specs.declared.types.BadLine.{BadLine}
use Rattle.ldif_records.specs.declared.types.BadLine.TheVariants as bad_line
use Rattle.ldif_records.specs.declared.types.LineCause.{LineCause}

-- the line of this number, from 1, is bad for this
pub data LineFault : Type 0 where
  Bad : (line : ℕ) (cause : LineCause) → LineFault

-- the fault of the file that an answer tells; want of memory is none
abbrev pub fault_of : BadLine → Option LineFault
fault_of (bad_line.Bad line cause) = Some (Bad line cause)
fault_of bad_line.NoMemory = None
