-- The outcome of a file of a command that wasn't read.
use Rattle.command_files.specs.data_file.Files.{cause_of}
use Rattle.command_files.specs.declared.loading.Trouble.{Trouble}
use Rattle.command_files.specs.declared.loading.Trouble.TheVariants as trouble
use Rattle.acl_program.specs.Outcomes.{Outcome, NoFile, BadDataLine, BadChangesLine, BadLine, OutOfMemory}

-- the outcome of a file that wasn't read
abbrev pub outcome_of : Trouble → Outcome
outcome_of trouble.NoFile = NoFile
outcome_of (trouble.BadData line cause) = BadDataLine line (cause_of cause)
outcome_of (trouble.BadLine file line) = BadLine file line
outcome_of (trouble.BadChanges line cause) = BadChangesLine line cause
outcome_of trouble.NoMemory = OutOfMemory
