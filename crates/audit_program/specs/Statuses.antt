-- How the program ends: a number each for the system, and the status of each file that isn't read.
use Rattle.std.specs.Prelude.{ℕ, List, codes}
use Rattle.command_files.specs.Ending.{PutStatuses}
use Rattle.command_files.specs.declared.loading.Trouble.{Trouble}
use Rattle.command_files.specs.declared.loading.Trouble.TheVariants as trouble
use Rattle.audit_program.specs.declared.status.AuditStatus.{AuditStatus}
use Rattle.audit_program.specs.declared.status.AuditStatus.TheVariants.{Done, Usage, BadData, ShelfFault, SinkFault, NoMemory, BadScript}

-- the number that the program exits with
abbrev pub number_of : AuditStatus → ℕ
number_of Done = 0
number_of Usage = 2
number_of BadData = 3
number_of ShelfFault = 4
number_of SinkFault = 5
number_of NoMemory = 8
number_of BadScript = 9

-- the statuses of a sink that refused, and of want of memory
abbrev pub put_statuses : PutStatuses AuditStatus
put_statuses = record { refused = SinkFault; starved = NoMemory }

-- the status of a file that wasn't read
abbrev pub trouble_status : Trouble → AuditStatus
trouble_status trouble.NoFile = ShelfFault
trouble_status (trouble.BadData line cause) = BadData
trouble_status (trouble.BadLine file line) = BadScript
trouble_status (trouble.BadChanges line cause) = BadData
trouble_status trouble.NoMemory = NoMemory

-- the line on how to call the program
abbrev pub usage_text : List ℕ
usage_text = codes "usage: leak_audit DATA SCRIPT N NAME\n"
