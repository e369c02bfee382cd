-- What comes next in a text as it is read from its front, by the table of what may stand where.
use Rattle.std.specs.Prelude.{ℕ, Bool, true, false, not, ◌&&◌, List, [], ◌∷◌, length, map, reverse, codes, Option, Some, None, option_map, if◌then◌else◌}
use Rattle.std.specs.Option.{option_map_or}
use Rattle.std.specs.Str.{bytes_eq, is_utf8}
use Rattle.std.specs.Borrow.{Bor}
use Rattle.text_stops.specs.declared.rows.Part.{Part}
use Rattle.text_stops.specs.declared.rows.Row as code_row
use Rattle.text_stops.specs.declared.rows.Part.TheVariants as part
use Rattle.text_stops.specs.declared.spots.Kind.{Kind}
use Rattle.text_stops.specs.declared.spots.Kind.TheVariants.{Open, Close, Comma, Colon, Word, Text, Touch}
use Rattle.text_stops.specs.declared.spots.Spot.{Spot}
use Rattle.text_stops.specs.declared.standing.Level as code_level
use Rattle.text_stops.specs.declared.standing.Turn as code_turn
use Rattle.text_stops.specs.declared.standing.Turn.TheVariants as code
use Rattle.text_stops.specs.declared.standing.Standing as code_standing
use Rattle.text_stops.specs.Table.{Row, row_of, table, has_braces, is_needed, row_with, has_text, brace_rows}
use Rattle.text_stops.specs.Spots.{cut, spots_of}

-- braces that are open: the form of their value, and the rows of what may still come in them
pub record Level : Type 0 where
  pub form : List ℕ
  pub rows : List Row

-- what comes next: a value of the form; what may stand behind an opening brace, or behind a comma; what may stand behind a
-- value, or behind a flag, which NULL may follow; a colon and a value of the form
pub data Turn : Type 0 where
  Value : List ℕ → Turn
  First : Turn
  Member : Turn
  Behind : Turn
  Flagged : Turn
  Chosen : List ℕ → Turn

-- what comes next, and the braces that are open, the innermost first
pub record Standing : Type 0 where
  pub turn : Turn
  pub levels : List Level

abbrev pub at : Turn → List Level → Standing
at turn levels = record { turn = turn; levels = levels }

-- behind the word of a row
abbrev pub after_word : Part → List ℕ → Turn
after_word part.Choice next = Chosen next
after_word other next = Behind

-- behind the identifier of a component
abbrev pub after_field : Part → List ℕ → Turn
after_field part.Flag next = Flagged
after_field other next = Value next

-- an opening brace, with the rows of what may stand behind it
abbrev pub opened : List ℕ → List Row → List Level → Option Standing
opened form [] levels = None
opened form (row ∷ rows) levels = Some (at First (record { form = form; rows = row ∷ rows } ∷ levels))

-- a spot where a value of the form comes
abbrev pub value : Kind → List ℕ → List ℕ → List Level → Option Standing
value Open word form levels = opened form (brace_rows form table) levels
value Word word form levels = option_map (λ row. at (after_word row.part row.next) levels) (row_with form word)
value Text word form levels = if has_text form && is_utf8 word then Some (at Behind levels) else None
value Close word form levels = None
value Comma word form levels = None
value Colon word form levels = None
value Touch word form levels = None

-- a component, and the rows behind its own
pub record Found : Type 0 where
  pub row : Row
  pub rest : List Row

-- the plain value of what the program finds
abbrev pub found_of : Bor code_row.Row × Bor (List code_row.Row) → Found
found_of found = record { row = row_of found.0.now; rest = map row_of found.1.now }

-- the component of the name: those before it that need not be there are passed over
abbrev pub field : List ℕ → List ℕ → List Row → Option Found
field form name [] = None
field form name (row ∷ rows) =
    if not (has_braces form row) then None
    else if bytes_eq row.name name then Some (record { row = row; rest = rows })
    else if is_needed row.part then None
    else field form name rows

-- none of the components that may still come has to
abbrev pub may_close : List ℕ → List Row → Bool
may_close form [] = true
may_close form (row ∷ rows) = if has_braces form row then not (is_needed row.part) && may_close form rows else true

-- the form of the members, where the rows begin with a set's
abbrev pub member_form_by : Part → List ℕ → Option (List ℕ)
member_form_by part.Member next = Some next
member_form_by other next = None

abbrev pub member_form : List Row → Option (List ℕ)
member_form [] = None
member_form (row ∷ rows) = member_form_by row.part row.next

-- the identifier of a component
abbrev pub component : Kind → List ℕ → Level → List Level → Option Standing
component Word word level levels =
    option_map (λ found. at (after_field found.row.part found.row.next) (record { form = level.form; rows = found.rest } ∷ levels))
    (field level.form word level.rows)
component kind word level levels = None

-- a spot where a member or a component comes
abbrev pub member_by : Option (List ℕ) → Kind → List ℕ → Level → List Level → Option Standing
member_by None kind word level levels = component kind word level levels
member_by (Some form) kind word level levels = value kind word form (level ∷ levels)

abbrev pub member : Kind → List ℕ → List Level → Option Standing
member kind word [] = None
member kind word (level ∷ levels) = member_by (member_form level.rows) kind word level levels

-- a closing brace
abbrev pub close : List Level → Option Standing
close [] = None
close (level ∷ levels) = if may_close level.form level.rows then Some (at Behind levels) else None

-- a comma
abbrev pub comma : List Level → Option Standing
comma [] = None
comma (level ∷ levels) = Some (at Member (level ∷ levels))

-- a spot behind a value
abbrev pub behind : Kind → List Level → Option Standing
behind Comma levels = comma levels
behind Close levels = close levels
behind kind levels = None

-- a spot behind an opening brace
abbrev pub first : Kind → List ℕ → List Level → Option Standing
first Close word levels = close levels
first kind word levels = member kind word levels

-- a spot behind a flag
abbrev pub flagged : Kind → List ℕ → List Level → Option Standing
flagged Word word levels = if bytes_eq word (codes "NULL") then Some (at Behind levels) else None
flagged kind word levels = behind kind levels

-- a spot behind the identifier of an alternative
abbrev pub chosen : Kind → List ℕ → List Level → Option Standing
chosen Colon form levels = Some (at (Value form) levels)
chosen kind form levels = None

-- a spot: what comes behind it; None where it may not stand there
unfoldable pub take : Kind → List ℕ → Turn → List Level → Option Standing
take kind word (Value form) levels = value kind word form levels
take kind word First levels = first kind word levels
take kind word Member levels = member kind word levels
take kind word Behind levels = behind kind levels
take kind word Flagged levels = flagged kind word levels
take kind word (Chosen form) levels = chosen kind form levels

-- a whole value has come, and no brace is open
abbrev pub is_whole : Turn → List Level → Bool
is_whole Behind [] = true
is_whole turn levels = false

-- the place of the first spot that may not stand where it does; that of the end, where something is wanted there
abbrev pub stop_from : List ℕ → Standing → List Spot → Option ℕ
stop_from text standing [] = if is_whole standing.turn standing.levels then None else Some (length text)
stop_from text standing (spot ∷ spots) =
    option_map_or (λ next. stop_from text next spots) (take spot.kind (cut text spot) standing.turn standing.levels) (Some spot.place)

-- the same in the text of a value of the form
unfoldable pub stop_in : List ℕ → List ℕ → Option ℕ
stop_in form text = stop_from text (at (Value form) []) (spots_of text)

-- what the program holds, as plain values
abbrev pub level_of : code_level.Level → Level
level_of level = record { form = level.form.now; rows = map row_of level.rows.now }

abbrev pub turn_of : code_turn.Turn → Turn
turn_of (code.Value form) = Value form.now
turn_of code.First = First
turn_of code.Member = Member
turn_of code.Behind = Behind
turn_of code.Flagged = Flagged
turn_of (code.Chosen form) = Chosen form.now

abbrev pub standing_of : code_standing.Standing → Standing
standing_of standing = record { turn = turn_of standing.turn; levels = map level_of (reverse standing.levels.items) }
