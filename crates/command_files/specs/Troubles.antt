-- The line that says why a file wasn't read.
use Rattle.std.specs.Prelude.{ℕ, List, [], ◌++◌, codes, decimal}
use Rattle.change_replay.specs.aci_item.EntryRule.{rule_number}
use Rattle.client_core.specs.ldap_msg.operations.ResultCodes.{code_number}
use Rattle.data_file.specs.Files.{cause_of}
use Rattle.data_file.specs.ldif_load.declared.fault.LoadCause.{LoadCause}
use Rattle.data_file.specs.ldif_load.declared.fault.LoadCause.TheVariants.{Name, Kind, Value, Twice, Order, Rule, Limit}
use Rattle.data_file.specs.ldif_load.load.DataFile.{FileCause, OfLine, OfRecord}
use Rattle.data_file.specs.ldif_records.declared.types.LineCause.{LineCause}
use Rattle.data_file.specs.ldif_records.declared.types.LineCause.TheVariants.{Syntax, Changetype, Base64}
use Rattle.command_files.specs.declared.changing.ChangesCause.{ChangesCause}
use Rattle.command_files.specs.declared.changing.ChangesCause.TheVariants as changes
use Rattle.command_files.specs.declared.loading.SecondFile.{SecondFile}
use Rattle.command_files.specs.declared.loading.SecondFile.TheVariants as second
use Rattle.command_files.specs.declared.loading.Trouble.{Trouble}
use Rattle.command_files.specs.declared.loading.Trouble.TheVariants as trouble

-- the words for what is wrong with a line
abbrev pub line_cause_text : LineCause → List ℕ
line_cause_text Syntax = codes "syntax"
line_cause_text Changetype = codes "changetype"
line_cause_text Base64 = codes "base64"

-- the words for what is wrong with a record
abbrev pub record_cause_text : LoadCause → List ℕ
record_cause_text Name = codes "name"
record_cause_text Kind = codes "type"
record_cause_text Value = codes "value"
record_cause_text Twice = codes "twice"
record_cause_text Order = codes "order"
record_cause_text (Rule rule) = codes "rule " ++ decimal (rule_number rule)
record_cause_text Limit = codes "limit"

-- what is wrong with a file
abbrev pub cause_text : FileCause → List ℕ
cause_text (OfLine cause) = line_cause_text cause
cause_text (OfRecord cause) = record_cause_text cause

-- what is wrong with a file of changes
abbrev pub changes_cause_text : ChangesCause → List ℕ
changes_cause_text (changes.Line cause) = line_cause_text cause
changes_cause_text changes.Digest = codes "digest"
changes_cause_text (changes.Code code) = codes "code " ++ decimal (code_number code)
changes_cause_text changes.Limit = codes "limit"

-- what a line of a file that isn't in its form is of
abbrev pub file_word : SecondFile → List ℕ
file_word second.Script = codes "script"
file_word second.Requests = codes "request"
file_word second.Certificate = codes "certificate"

-- a file wasn't read
abbrev pub no_file_text : List ℕ
no_file_text = codes "data fault\n"

-- the first bad line of a data file, and what is wrong with it
abbrev pub bad_data_text : ℕ → FileCause → List ℕ
bad_data_text line cause = codes "bad data line " ++ (decimal line ++ (codes ": " ++ (cause_text cause ++ codes "\n")))

-- the first bad line of the file that is read after it
abbrev pub bad_line_text : SecondFile → ℕ → List ℕ
bad_line_text file line = codes "bad " ++ (file_word file ++ (codes " line " ++ (decimal line ++ codes "\n")))

-- the first line at which a file of changes isn't accepted, and why
abbrev pub bad_changes_text : ℕ → ChangesCause → List ℕ
bad_changes_text line cause = codes "bad changes line " ++ (decimal line ++ (codes ": " ++ (changes_cause_text cause ++ codes "\n")))

-- the line of each trouble; none where there was no memory
abbrev pub trouble_text : Trouble → List ℕ
trouble_text trouble.NoFile = no_file_text
trouble_text (trouble.BadData line cause) = bad_data_text line (cause_of cause)
trouble_text (trouble.BadLine file line) = bad_line_text file line
trouble_text (trouble.BadChanges line cause) = bad_changes_text line cause
trouble_text trouble.NoMemory = []
