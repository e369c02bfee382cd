-- How a fault of a data file is said in a line: where it stands, and what is in the way.
use Rattle.std.specs.Prelude.{ℕ, ◌+◌, List, [], ◌++◌, codes, decimal, Option, Some, None, Result, Ok, Err}
use Rattle.dir_tree.specs.schema_tables.Attributes.{name_of}
use Rattle.subtree_spec.specs.declared.error.BadText.{BadText}
use Rattle.subtree_spec.specs.declared.error.BadText.TheVariants as fault
use Rattle.subtree_spec.specs.SubtreeText.{read_subtree}
use Rattle.aci_item.specs.AciText.{read_item}
use Rattle.text_stops.specs.Stops.{stop_word, item_stop, subtree_stop}

-- the line of the file, counted from 1
abbrev pub why_at : ℕ → List ℕ
why_at line = codes "why: line " ++ decimal line

-- what is wrong at a line: the text, which ends in LF
abbrev pub said : ℕ → List ℕ → List ℕ
said line text = why_at line ++ (codes ": " ++ text)

-- the attribute's type, and which of its values, counted from 1
abbrev pub value_at : ℕ → ℕ → ℕ → List ℕ
value_at line kind number = why_at line ++ (codes ", " ++ (name_of kind ++ (codes ", value " ++ decimal number)))

-- the octet of the value, counted from 1, and the word that stands there
abbrev pub place_said : List ℕ → Option ℕ → List ℕ
place_said text None = []
place_said text (Some place) = codes ", octet " ++ (decimal (place + 1) ++ (codes ": " ++ stop_word text place))

-- where reading a text of rules stops: at the first part that breaks its rule, where the text is in the grammar; otherwise
-- where it leaves the table of what may stand where. None for a text that is read
abbrev pub stop_by : {A : Type 0} → Result A BadText → Option ℕ → Option (Option ℕ)
stop_by (Ok value) stop = None
stop_by (Err (fault.Part place)) stop = Some (Some place)
stop_by (Err fault.Text) stop = Some stop
stop_by (Err fault.NoMemory) stop = Some stop

-- of an access control item, and of a subtree specification
unfoldable pub item_place : List ℕ → Option (Option ℕ)
item_place text = stop_by (read_item text) (item_stop text)

unfoldable pub subtree_place : List ℕ → Option (Option ℕ)
subtree_place text = stop_by (read_subtree text) (subtree_stop text)
