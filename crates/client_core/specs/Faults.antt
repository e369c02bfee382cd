-- The first line of a record that is at fault: it can't stand where it does, or hasn't a value that it may have; or the
-- line `do`, behind which a needed line is missing; or the line of the name, which should be empty.
use Rattle.std.specs.Prelude.{ℕ, ◌==◌, ◌&&◌, not, Bool, false, List, [], ◌∷◌, length, codes, Option, Some, None, if◌then◌else◌}
use Rattle.std.specs.List.{list_any}
use Rattle.std.specs.Option.{option_map_or}
use Rattle.std.specs.Str.{bytes_eq}
use Rattle.ldif_records.specs.declared.types.Record.{Record}
use Rattle.ldif_records.specs.declared.types.RecordLine.{RecordLine}
use Rattle.client_core.specs.declared.words.Word.{Word}
use Rattle.client_core.specs.declared.words.Word.TheVariants as word
use Rattle.client_core.specs.declared.rows.Cell.{Cell}
use Rattle.client_core.specs.declared.rows.Slot.{Slot}
use Rattle.client_core.specs.Words.{has_no_name}
use Rattle.client_core.specs.Rows.{is_needed, is_repeated, row_of, is_of}
use Rattle.client_core.specs.Values.{accepts}

-- the cell that takes a line, and the places where those after it may stand
pub record Taken : Type 0 where
  pub cell : Cell
  pub rest : List Slot

-- the cell of a place that takes a line, and the places from this one on, where it takes any number, or behind it
abbrev pub taken_at : Slot → List Slot → Taken
taken_at slot behind = record { cell = slot.cell; rest = (if is_repeated slot.count then slot ∷ behind else behind) }

-- the first place that takes a line of the type; one at which a line has to stand isn't passed over
unfoldable pub taken_by : List Slot → List ℕ → Option Taken
taken_by [] kind = None
taken_by (slot ∷ behind) kind =
    if is_of slot.cell kind then Some (taken_at slot behind)
    else if is_needed slot.count then None
    else taken_by behind kind

-- the places for the lines behind this one, which has a value that it may have
abbrev pub checked : RecordLine → Taken → Option (List Slot)
checked line taken = if accepts taken.cell line.kind line.value then Some taken.rest else None

-- the same, where the line may stand at these places
abbrev pub behind : List Slot → RecordLine → Option (List Slot)
behind slots line = option_map_or (checked line) (taken_by slots line.kind) None

-- the number of the first line that is at fault, of those that stand at these places
unfoldable pub first_bad : List Slot → List RecordLine → Option ℕ
first_bad slots [] = None
first_bad slots (line ∷ lines) = option_map_or (λ rest. first_bad rest lines) (behind slots line) (Some line.line)

-- one of the lines is of the type
abbrev pub has_kind : List ℕ → List RecordLine → Bool
has_kind kind lines = list_any (λ line. bytes_eq line.kind kind) lines

-- a line that the operation needs is missing: a new RDN, or any line at all
abbrev pub lacks_needed : Word → List RecordLine → Bool
lacks_needed word.Bind lines = false
lacks_needed word.Search lines = false
lacks_needed word.Compare lines = length lines == 0
lacks_needed word.Add lines = length lines == 0
lacks_needed word.Modify lines = length lines == 0
lacks_needed word.Rename lines = not (has_kind (codes "newrdn") lines)
lacks_needed word.Delete lines = false
lacks_needed word.WhoAmI lines = false
lacks_needed word.Unbind lines = false

-- the number of the first line that is at fault, of a record with the operation, the number of its line `do`, and the
-- lines behind it
unfoldable pub bad_line : Word → Record → ℕ → List RecordLine → Option ℕ
bad_line word given number lines =
    if has_no_name word && not (length given.name == 0) then Some given.line
    else if lacks_needed word lines then Some number
    else first_bad (row_of word) lines
