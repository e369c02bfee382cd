-- What loading a data file answers.
use Rattle.std.specs.Prelude.{Option, Some, None}
use Rattle.ldif_load.specs.load.DataFile.{FileCause, OfLine, OfRecord, FileFault}
use Rattle.data_file.specs.declared.fault.DataCause.{DataCause}
use Rattle.data_file.specs.declared.fault.DataCause.TheVariants.{Line, Record}
use Rattle.data_file.specs.declared.fault.DataFault.{DataFault}
use Rattle.data_file.specs.declared.fault.DataFault.TheVariants.{Bad, NoMemory}

-- the cause as the definition names it
abbrev pub cause_of : DataCause → FileCause
cause_of (Line cause) = OfLine cause
cause_of (Record cause) = OfRecord cause

-- the fault of the file that an answer tells; want of memory is none
abbrev pub fault_of : DataFault → Option FileFault
fault_of (Bad line cause) = Some (record { line = line; cause = cause_of cause })
fault_of NoMemory = None
