-- The entry that a record makes, where none of its lines is refused.
use Rattle.std.specs.Prelude.{Bool, true, false, List, [], ◌∷◌, Option, Some, None}
use Rattle.std.specs.Option.{option_and_then}
use Rattle.std.specs.Result.{result_ok}
use Rattle.dir_tree.specs.Entry.{EntryInformation}
use Rattle.ldif_records.specs.declared.types.RecordLine.{RecordLine}
use Rattle.ldif_load.specs.load.Loading.{with_line}

-- the entry with attribute lines
unfoldable pub with_all : EntryInformation → List RecordLine → Option EntryInformation
with_all entry [] = Some entry
with_all entry (line ∷ lines) = option_and_then (λ more. with_all more lines) (result_ok (with_line entry line))

-- the entry, where all was added
abbrev pub taken : Bool → EntryInformation → Option EntryInformation
taken true entry = Some entry
taken false entry = None
