-- What is said of a line of a record that is refused, cause by cause: its name, its type, its value.
use Rattle.std.specs.Prelude.{ℕ, ◌+◌, ◌==◌, nat_le, nat_lt, Bool, false, ◌&&◌, List, [], ◌∷◌, ◌++◌, length, find, flat_map, codes, decimal, Option, Some, None, Result, Ok, Err, if◌then◌else◌}
use Rattle.std.specs.List.{count_by}
use Rattle.std.specs.Option.{option_map_or}
use Rattle.std.specs.Str.{bytes_eq}
use Rattle.dir_tree.specs.schema_tables.declared.kinds.Syntax.{Syntax}
use Rattle.dir_tree.specs.schema_tables.declared.kinds.Syntax.TheVariants.{Text, Ascii, Phone, Country, Octets, Oid, Name, Subtree, Aci}
use Rattle.dir_tree.specs.schema_tables.Attributes.{attr_of, syntax_of}
use Rattle.dir_tree.specs.dn_names.Limits.{most_octets}
use Rattle.dir_tree.specs.dn_names.name.Names.{RdnSequence}
use Rattle.dir_tree.specs.dn_names.declared.error.BadName.{BadName}
use Rattle.dir_tree.specs.dn_names.declared.error.BadName.TheVariants as name_fault
use Rattle.dir_tree.specs.dn_names.parsing.NameText.{read_name}
use Rattle.ldif_records.specs.declared.types.LineCause.{LineCause}
use Rattle.ldif_records.specs.declared.types.LineCause.TheVariants as line_cause
use Rattle.ldif_records.specs.declared.types.Record.{Record}
use Rattle.ldif_records.specs.declared.types.RecordLine.{RecordLine}
use Rattle.ldif_load.specs.declared.fault.LoadCause.{LoadCause}
use Rattle.ldif_load.specs.declared.fault.LoadCause.TheVariants as cause
use Rattle.text_stops.specs.Stops.{shown}
use Rattle.fault_places.specs.Saying.{why_at, said, value_at, place_said, item_place, subtree_place}

-- a line that is of no form that may stand there
abbrev pub form_said : LineCause → List ℕ
form_said line_cause.Syntax = codes "a record is \"dn: name\" and lines \"type: value\" behind it, and an empty line ends it\n"
form_said line_cause.Changetype = codes "a record with a changetype is no entry\n"
form_said line_cause.Base64 = codes "the value behind \"::\" is no padded base64\n"

-- the line of the record is of the type
abbrev pub is_of : ℕ → RecordLine → Bool
is_of kind line = option_map_or (λ other. other == kind) (attr_of line.kind) false

-- the number of a line's value among those of its type, counted from 1
abbrev pub number_of : ℕ → ℕ → List RecordLine → ℕ
number_of kind line lines = count_by (λ other. nat_le other.line line && is_of kind other) lines

-- the line of the first value of the type; of one that the name alone has, the line of the name
abbrev pub first_line : ℕ → Record → ℕ
first_line kind given = option_map_or (λ line. line.line) (find (is_of kind) given.lines) given.line

-- a type that is not in the table
abbrev pub unknown_type : List ℕ → List ℕ
unknown_type kind = if bytes_eq kind (codes "dn") then codes "an empty line is missing before \"dn\"" else codes "no attribute type " ++ shown kind

-- why octets are no name
abbrev pub name_said : List ℕ → Result RdnSequence BadName → List ℕ
name_said text (Ok []) = codes ": the name is empty"
name_said text (Ok (rdn ∷ rdns)) = []
name_said text (Err (name_fault.Text place)) = place_said text (Some place)
name_said text (Err (name_fault.Part index)) = codes ": part " ++ (decimal (index + 1) ++ codes " has a type that names nothing, or no value of it")
name_said text (Err name_fault.TooMany) = codes ": it has more than 64 parts"
name_said text (Err name_fault.NoMemory) = []

-- why octets are no value of a syntax
abbrev pub syntax_said : List ℕ → Option Syntax → List ℕ
syntax_said octets None = []
syntax_said octets (Some Text) = codes ": it is empty, or no text"
syntax_said octets (Some Ascii) = codes ": it is empty, or no text of ASCII"
syntax_said octets (Some Phone) = codes ": it is no telephone number"
syntax_said octets (Some Country) = codes ": it is no code of a country"
syntax_said octets (Some Octets) = []
syntax_said octets (Some Oid) = codes ": the schema has nothing of the name " ++ shown octets
syntax_said octets (Some Name) = name_said octets (read_name octets)
syntax_said octets (Some Subtree) = []
syntax_said octets (Some Aci) = []

-- why octets are no value of a type
abbrev pub value_said : ℕ → List ℕ → List ℕ
value_said kind octets =
    if nat_lt most_octets (length octets) then codes ": it has more than 65536 octets" else syntax_said octets (syntax_of kind)

-- an attribute line that is refused
abbrev pub kind_fault : List RecordLine → RecordLine → Option ℕ → LoadCause → List ℕ
kind_fault lines line None reason = said line.line (unknown_type line.kind ++ codes "\n")
kind_fault lines line (Some kind) cause.Twice = value_at line.line kind (number_of kind line.line lines) ++ codes ": the entry has the value before\n"
kind_fault lines line (Some kind) reason = value_at line.line kind (number_of kind line.line lines) ++ (value_said kind line.value ++ codes "\n")

abbrev pub line_fault : List RecordLine → Option RecordLine → LoadCause → List ℕ
line_fault lines None reason = []
line_fault lines (Some line) reason = kind_fault lines line (attr_of line.kind) reason

-- the line of the number, as it is refused: the name, or an attribute line
abbrev pub record_line_fault : Record → ℕ → LoadCause → List ℕ
record_line_fault given number cause.Name = why_at given.line ++ (codes ", dn" ++ (name_said given.name (read_name given.name) ++ codes "\n"))
record_line_fault given number reason = line_fault given.lines (find (λ line. line.line == number) given.lines) reason

-- each value of a record that is no text of its rules, with the place where reading it stops
abbrev pub stopped : List RecordLine → RecordLine → ℕ → Option (Option ℕ) → List ℕ
stopped lines line kind None = []
stopped lines line kind (Some place) = value_at line.line kind (number_of kind line.line lines) ++ (place_said line.value place ++ codes "\n")

abbrev pub place_by : List ℕ → Option Syntax → Option (Option ℕ)
place_by octets (Some Subtree) = subtree_place octets
place_by octets (Some Aci) = item_place octets
place_by octets syntax = None

abbrev pub unread_of : List RecordLine → RecordLine → Option ℕ → List ℕ
unread_of lines line None = []
unread_of lines line (Some kind) = stopped lines line kind (place_by line.value (syntax_of kind))

abbrev pub unread_said : List RecordLine → List ℕ
unread_said lines = flat_map (λ line. unread_of lines line (attr_of line.kind)) lines
