-- A script computed line by line: the events so far, or the number of the first bad line.
use Rattle.std.specs.Prelude.{◌≡◌, ℕ, ◌+◌, if◌then◌else◌, List, [], ◌∷◌, ◌++◌, Option, Some, None, Result, Ok, Err}
use Rattle.std.specs.Str.Lines.{lines}
pub use Rattle.plain_values.specs.Results.{◌>>=◌}
use Rattle.script_text.specs.declared.event.ScriptEvent.{ScriptEvent}
use Rattle.script_text.specs.declared.event.ScriptFault.{ScriptFault}
use Rattle.script_text.specs.declared.event.ScriptFault.TheVariants.{Bad, NoMemory}
use Rattle.script_text.specs.LineText.{is_silent}
use Rattle.script_text.specs.LineReading.{event_of}
use Rattle.script_text.specs.script.Script.{may_follow}

-- the events with that of a line, or the line's number
abbrev pub admitted : List ScriptEvent → ℕ → Option ScriptEvent → Result (List ScriptEvent) ℕ
admitted before number None = Err number
admitted before number (Some event) = if may_follow before event then Ok (before ++ event ∷ []) else Err number

-- the events after a line, or the line's number
unfoldable pub after_line : List ScriptEvent → ℕ → List ℕ → Result (List ScriptEvent) ℕ
after_line before number line = if is_silent line then Ok before else admitted before number (event_of line)

-- the events after the lines, the first of which has the number, or the number of the first bad line
unfoldable pub after_lines : List ScriptEvent → ℕ → List (List ℕ) → Result (List ScriptEvent) ℕ
after_lines before number [] = Ok before
after_lines before number (line ∷ rest) = after_line before number line >>= λ events. after_lines events (number + 1) rest

-- the events of the text, or the number of its first bad line
unfoldable pub script_of : List ℕ → Result (List ScriptEvent) ℕ
script_of text = after_lines [] 1 (lines text)

-- the fault is that of reading; want of memory may come anywhere
abbrev pub IsCause : ScriptFault → Result (List ScriptEvent) ℕ → Type 0
IsCause (Bad line) read = read ≡ Err line
IsCause NoMemory read = Unit {0}

-- what a call answered is what reading gives, unless memory ran out
abbrev pub Gives : Result (List ScriptEvent) ScriptFault → Result (List ScriptEvent) ℕ → Type 0
Gives (Ok events) read = read ≡ Ok events
Gives (Err fault) read = IsCause fault read
