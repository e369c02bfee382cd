-- What the program holds while it reads: places of a row, and the requests so far.
use Rattle.std.specs.Prelude.{◌≡◌, ℕ, ◌+◌, List, [], ◌∷◌, ◌++◌, length, Option, option_map, Result, Ok, Err}
use Rattle.std.specs.Borrow.{Bor}
use Rattle.ldif_records.specs.declared.types.Position.{Position}
use Rattle.ldif_records.specs.declared.types.Record.{Record}
use Rattle.ldif_records.specs.declared.types.BadLine.{BadLine}
use Rattle.ldif_records.specs.declared.types.BadLine.TheVariants as reading
use Rattle.ldif_records.specs.lines.Places.{IsNext}
use Rattle.client_core.specs.declared.checking.Taken as declared
use Rattle.client_core.specs.declared.rows.Slot.{Slot}
use Rattle.client_core.specs.declared.types.Asked.{Asked}
use Rattle.client_core.specs.declared.types.AskFault.{AskFault}
use Rattle.client_core.specs.declared.types.AskFault.TheVariants as fault
use Rattle.client_core.specs.Faults.{Taken}
use Rattle.client_core.specs.Asks.{ask_of}

-- the cell and the places that the program holds
abbrev pub taken_in : declared.Taken → Taken
taken_in taken = record { cell = taken.cell; rest = taken.rest.now }

-- the places that the program holds, if any
abbrev pub slots_in : Option (Bor (List Slot)) → Option (List Slot)
slots_in slots = option_map (λ slots. slots.now) slots

-- the fault that the program makes of a line that isn't one of a record
abbrev pub of_line : BadLine → AskFault
of_line (reading.Bad line cause) = fault.Bad line
of_line reading.NoMemory = fault.NoMemory

-- the requests so far, and those behind them
abbrev pub joined : List Asked → Result (List Asked) ℕ → Result (List Asked) ℕ
joined so_far (Ok others) = Ok (so_far ++ others)
joined so_far (Err line) = Err line

-- the request of a record was put behind the others
pub record IsPut (old : List Asked) (given : Record) (new : List Asked) : Type 0 where
  pub asked : Asked
  pub exact : ask_of (length old + 1) (Ok given) ≡ Ok asked
  pub put : new ≡ old ++ asked ∷ []

-- from one place on the next record was read, and its request put behind the others
pub record IsStep (text : List ℕ) (from : Position) (old : List Asked) (to : Position) (new : List Asked) : Type 0 where
  pub given : Record
  pub next : IsNext text from given to
  pub put : IsPut old given new
