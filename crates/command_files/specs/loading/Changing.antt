-- What a file of changes (RFC 2849, ldif-changes) makes of the entries of a data file: it says in its head to which data file
-- it belongs, and its records are applied in their order, as far as the file is whole. One that was begun, and whose head
-- isn't whole, has no changes.
use Rattle.std.specs.Prelude.{ℕ, ◌-◌, ◌&&◌, Bool, List, length, nat_eq, nat_lt, Option, Some, None, Result, Ok, Err, if◌then◌else◌}
use Rattle.std.specs.List.{starts_with}
use Rattle.std.specs.Str.{bytes_eq}
use Rattle.sha2.specs.Sha256.{sha256}
use Rattle.wire_io.specs.plain_values.Results.{◌>>=◌}
use Rattle.dir_tree.specs.Entry.{EntryInformation}
use Rattle.dir_tree.specs.tree.Numbered.{entries_of}
use Rattle.whole_blocks.specs.Blocks.{whole_part}
use Rattle.change_replay.specs.change_records.declared.types.RecordedChange.{RecordedChange}
use Rattle.change_replay.specs.change_records.Files.{Changes, file_of, head_text}
use Rattle.data_file.specs.ldif_records.reading.Faults.{LineFault, Bad}
use Rattle.data_file.specs.ldif_records.declared.types.BadLine.{BadLine}
use Rattle.data_file.specs.ldif_records.declared.types.BadLine.TheVariants as bad_line
use Rattle.change_replay.specs.declared.fault.ReplayFault.{ReplayFault}
use Rattle.change_replay.specs.declared.fault.ReplayFault.TheVariants as replay
use Rattle.change_replay.specs.Replayed.{RefusedChange, replayed}
use Rattle.command_files.specs.declared.changing.Applied.{Applied}
use Rattle.command_files.specs.declared.changing.Loaded.{Loaded}
use Rattle.command_files.specs.declared.changing.ChangesCause.{ChangesCause}
use Rattle.command_files.specs.declared.changing.ChangesCause.TheVariants as cause
use Rattle.command_files.specs.declared.changing.ChangesFault.{ChangesFault}
use Rattle.command_files.specs.declared.changing.ChangesFault.TheVariants as fault

-- what files leave: the entries, and what was applied of a file of changes, where there is one
pub record Left : Type 0 where
  pub entries : List EntryInformation
  pub applied : Option Applied

-- the entries of a data file alone
abbrev pub unchanged : List EntryInformation → Left
unchanged entries = record { entries = entries; applied = None }

-- the entries after so many changes, in so many octets that are whole, and so many torn ones behind them
abbrev pub changed : List EntryInformation → ℕ → ℕ → ℕ → Left
changed entries count whole torn =
    record { entries = entries; applied = Some (record { count = count; torn = torn; whole = whole }) }

-- the head of a file of changes that belongs to the data file of this content
abbrev pub head_of : List ℕ → List ℕ
head_of content = head_text (sha256 content)

-- the octets are a beginning of a head, and not the whole of it; no octets are one too
abbrev pub is_torn_head : List ℕ → List ℕ → Bool
is_torn_head head text = nat_lt (length text) (length head) && starts_with nat_eq head text

-- the first line at which a file of changes isn't accepted, and why
pub record BadChange : Type 0 where
  pub line : ℕ
  pub cause : ChangesCause

-- what a file says, or its first bad line
abbrev pub said_or_bad : Result Changes LineFault → Result Changes BadChange
said_or_bad (Ok file) = Ok file
said_or_bad (Err (Bad line why)) = Err (record { line = line; cause = cause.Line why })

-- the changes of a file whose head has the digest, which stands in its second line
abbrev pub tied_to : List ℕ → Changes → Result (List RecordedChange) BadChange
tied_to digest file = if bytes_eq file.digest digest then Ok file.changes else Err (record { line = 2; cause = cause.Digest })

-- the changes that the whole part of a file says, where it belongs to the data file of this digest
abbrev pub changes_of : List ℕ → List ℕ → Result (List RecordedChange) BadChange
changes_of digest whole = said_or_bad (file_of whole) >>= λ file. tied_to digest file

-- what so many changes leave, in so many octets before a torn end, or the line of the record of the first that can't be
-- applied
abbrev pub left_by : ℕ → ℕ → ℕ → Result (List EntryInformation) RefusedChange → Result Left BadChange
left_by count whole torn (Ok entries) = Ok (changed entries count whole torn)
left_by count whole torn (Err refused) = Err (record { line = refused.line; cause = cause.Code refused.code })

-- what the changes leave of the entries
abbrev pub applied_to : List EntryInformation → ℕ → ℕ → List RecordedChange → Result Left BadChange
applied_to entries whole torn changes = left_by (length changes) whole torn (replayed entries changes)

-- what the whole part of a file of changes leaves of the entries
abbrev pub changed_by_whole : List EntryInformation → List ℕ → List ℕ → List ℕ → Result Left BadChange
changed_by_whole entries digest text whole =
    changes_of digest whole >>= λ changes. applied_to entries (length whole) (length text - length whole) changes

-- what a file of changes leaves of the entries of the data file of this digest: all of them, where its head isn't whole
abbrev pub changed_for : List EntryInformation → List ℕ → List ℕ → Result Left BadChange
changed_for entries digest text =
    if is_torn_head (head_text digest) text then Ok (changed entries 0 0 (length text))
    else changed_by_whole entries digest text (whole_part text)

-- the same of the data file of this content
unfoldable pub changed_by : List EntryInformation → List ℕ → List ℕ → Result Left BadChange
changed_by entries content text = changed_for entries (sha256 content) text

-- what the program holds of it
abbrev pub left_of : Loaded → Left
left_of loaded = record { entries = entries_of loaded.tree; applied = loaded.applied }

-- the line that an answer tells of; want of memory tells of none
abbrev pub fault_of : ChangesFault → Option BadChange
fault_of (fault.Bad line why) = Some (record { line = line; cause = why })
fault_of fault.NoMemory = None

-- the answer for a bad line
abbrev pub fault_of_line : BadLine → ChangesFault
fault_of_line (bad_line.Bad line why) = fault.Bad line (cause.Line why)
fault_of_line bad_line.NoMemory = fault.NoMemory

-- the answer for a change that can't be applied
abbrev pub fault_of_replay : ReplayFault → ChangesFault
fault_of_replay (replay.Refused line code) = fault.Bad line (cause.Code code)
fault_of_replay replay.NoMemory = fault.NoMemory
