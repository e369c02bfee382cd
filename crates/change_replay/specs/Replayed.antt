-- What recorded changes leave of the entries, one after the other.
use Rattle.std.specs.Prelude.{ℕ, List, [], ◌∷◌, Option, Some, None, Result, Ok, Err}
use Rattle.dir_tree.specs.plain_values.Results.{◌>>=◌}
use Rattle.dir_tree.specs.Entry.{EntryInformation}
use Rattle.change_laws.specs.op_modify.ldap_msg.declared.operations.ResultCode.{ResultCode}
use Rattle.change_records.specs.declared.types.RecordedChange.{RecordedChange}
use Rattle.change_replay.specs.declared.fault.ReplayFault.{ReplayFault}
use Rattle.change_replay.specs.declared.fault.ReplayFault.TheVariants as fault
use Rattle.change_replay.specs.Applied.{applied}

-- a change that can't be applied: the number of the first line of its record, and the result code that refuses it
pub record RefusedChange : Type 0 where
  pub line : ℕ
  pub code : ResultCode

-- what a change leaves, or that the one of this line is refused
abbrev pub at_line : ℕ → Result (List EntryInformation) ResultCode → Result (List EntryInformation) RefusedChange
at_line line (Ok entries) = Ok entries
at_line line (Err code) = Err (record { line = line; code = code })

-- what the changes leave in their order, or the first that is refused
unfoldable pub replayed : List EntryInformation → List RecordedChange → Result (List EntryInformation) RefusedChange
replayed entries [] = Ok entries
replayed entries (recorded ∷ rest) = at_line recorded.line (applied entries recorded.change) >>= λ left. replayed left rest

-- the change that a fault tells of; want of memory tells of none
abbrev pub refused_by : ReplayFault → Option RefusedChange
refused_by (fault.Refused line code) = Some (record { line = line; code = code })
refused_by fault.NoMemory = None
