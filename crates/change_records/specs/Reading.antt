-- The changes that lines of records say (RFC 2849, ldif-change-record), or the first bad line. Where a record lacks a line,
-- its line `changetype` is bad, or its first line where that is missing.
use Rattle.std.specs.Prelude.{ℕ, ◌==◌, Bool, true, false, if◌then◌else◌, List, [], ◌∷◌, ◌++◌, length, codes, Option, Some, None, Result, Ok, Err}
use Rattle.std.specs.List.{slice_split}
use Rattle.std.specs.Str.{bytes_eq}
use Rattle.dir_tree.specs.plain_values.Results.{◌>>=◌}
use Rattle.ldap_msg.specs.declared.kinds.KindValues.{KindValues}
use Rattle.ldap_msg.specs.declared.kinds.ModifyOperation.{ModifyOperation}
use Rattle.ldap_msg.specs.declared.kinds.ModifyOperation.TheVariants.{Add, Delete, Replace}
use Rattle.ldap_msg.specs.declared.kinds.Change.{Change}
use Rattle.ldap_msg.specs.declared.kinds.RenameRequest.{RenameRequest}
use Rattle.ldap_msg.specs.declared.kinds.Request.{Request}
use Rattle.ldap_msg.specs.declared.kinds.Request.TheVariants as request
use Rattle.ldap_msg.specs.declared.kinds.Update.TheVariants as update
use Rattle.ldif_records.specs.declared.types.RecordLine.{RecordLine}
use Rattle.ldif_records.specs.declared.types.LineCause.TheVariants.{Syntax}
use Rattle.ldif_records.specs.reading.Faults.{LineFault, Bad}
use Rattle.ldif_records.specs.reading.Records.{is_blank}
use Rattle.ldif_records.specs.lines.Lines.{Line}
use Rattle.ldif_records.specs.Fields.{Field, field_of, value_of, with_name, name_line, attribute_line}
use Rattle.change_records.specs.declared.types.RecordedChange.{RecordedChange}

-- ---- lines

-- the value of a field of the type, at the line
abbrev pub value_at : ℕ → List ℕ → Option Field → Result (List ℕ) LineFault
value_at number kind None = Err (Bad number Syntax)
value_at number kind (Some field) =
    if bytes_eq field.kind kind then with_name number (value_of field) else Err (Bad number Syntax)

-- the value that a line of the type says
abbrev pub value_line : List ℕ → Line → Result (List ℕ) LineFault
value_line kind line = value_at line.number kind (field_of line.octets)

-- the line is a hyphen
abbrev pub is_hyphen : Line → Bool
is_hyphen line = bytes_eq line.octets (codes "-")

-- no line is left
abbrev pub nothing_in : List Line → Result (Option (List ℕ)) LineFault
nothing_in [] = Ok None
nothing_in (line ∷ rest) = Err (Bad line.number Syntax)

-- ---- a modify

-- what is done with a type (RFC 4511 4.6)
abbrev pub operation_named : List ℕ → Option ModifyOperation
operation_named word =
    if bytes_eq word (codes "add") then Some Add
    else if bytes_eq word (codes "delete") then Some Delete
    else if bytes_eq word (codes "replace") then Some Replace
    else None

-- the change of the operation with the type, without values yet
abbrev pub change_with : ℕ → List ℕ → Option ModifyOperation → Result Change LineFault
change_with number kind None = Err (Bad number Syntax)
change_with number kind (Some operation) = Ok (record { operation = operation; body = record { kind = kind; values = [] } })

-- the change that a line begins
abbrev pub change_begun : Line → Result Change LineFault
change_begun line = attribute_line line >>= λ read. change_with line.number read.value (operation_named read.kind)

-- the change with one value more
abbrev pub and_value : Change → List ℕ → Change
and_value change value =
    record { operation = change.operation; body = record { kind = change.body.kind; values = change.body.values ++ value ∷ [] } }

-- the change with the value of a line
abbrev pub with_line : Change → Line → Result Change LineFault
with_line change line = value_line change.body.kind line >>= λ value. Ok (and_value change value)

-- the change that goes on behind a line, if one does, where a change went on before it
abbrev pub going_on : Option Change → Line → Result (Option Change) LineFault
going_on None line = change_begun line >>= λ change. Ok (Some change)
going_on (Some change) line = if is_hyphen line then Ok None else with_line change line >>= λ more. Ok (Some more)

-- the change that a line ends
abbrev pub ended_by : Option Change → Line → List Change
ended_by None line = []
ended_by (Some change) line = if is_hyphen line then change ∷ [] else []

-- the changes that ended; one that goes on to the end lacks its hyphen
abbrev pub all_ended : ℕ → List Change → Option Change → Result (List Change) LineFault
all_ended number ended None = Ok ended
all_ended number ended (Some change) = Err (Bad number Syntax)

-- the changes of lines, the first of which may go on with a change
unfoldable pub changes_in : ℕ → Option Change → List Line → Result (List Change) LineFault
changes_in number before [] = all_ended number [] before
changes_in number before (line ∷ rest) =
    going_on before line >>= λ next. changes_in number next rest >>= λ others. Ok (ended_by before line ++ others)

-- ---- an add

-- the attribute of a line
abbrev pub attribute_begun : RecordLine → KindValues
attribute_begun line = record { kind = line.kind; values = line.value ∷ [] }

-- the attribute that goes on behind a line: neighbours of one type are one attribute
abbrev pub attribute_with : Option KindValues → RecordLine → KindValues
attribute_with None line = attribute_begun line
attribute_with (Some given) line =
    if bytes_eq line.kind given.kind then record { kind = given.kind; values = given.values ++ line.value ∷ [] }
    else attribute_begun line

-- the attribute that is whole as a line comes
abbrev pub whole_before : Option KindValues → RecordLine → List KindValues
whole_before None line = []
whole_before (Some given) line = if bytes_eq line.kind given.kind then [] else given ∷ []

-- the attribute that goes on to the end
abbrev pub whole_last : Option KindValues → List KindValues
whole_last None = []
whole_last (Some given) = given ∷ []

-- the attributes of lines, the first of which may go on with an attribute
unfoldable pub attributes_in : Option KindValues → List Line → Result (List KindValues) LineFault
attributes_in before [] = Ok (whole_last before)
attributes_in before (line ∷ rest) =
    attribute_line line >>= λ read. attributes_in (Some (attribute_with before read)) rest >>= λ others. Ok (whole_before before read ++ others)

-- ---- a modify DN

-- whether the values of the old RDN go: `1` or `0`
abbrev pub flag_of : ℕ → List ℕ → Result Bool LineFault
flag_of number word =
    if bytes_eq word (codes "1") then Ok true else if bytes_eq word (codes "0") then Ok false else Err (Bad number Syntax)

abbrev pub flag_line : Line → Result Bool LineFault
flag_line line = value_line (codes "deleteoldrdn") line >>= flag_of line.number

-- the new superior, if there is one
abbrev pub superior_in : List Line → Result (Option (List ℕ)) LineFault
superior_in [] = Ok None
superior_in (line ∷ rest) = value_line (codes "newsuperior") line >>= λ superior. nothing_in rest >>= λ nothing. Ok (Some superior)

-- the new name that two lines and those behind them say
abbrev pub rename_by : List ℕ → Line → Line → List Line → Result RenameRequest LineFault
rename_by name first second rest =
    value_line (codes "newrdn") first >>= λ new_rdn. flag_line second >>= λ delete_old. superior_in rest >>= λ superior.
    Ok (record { name = name; new_rdn = new_rdn; delete_old = delete_old; superior = superior })

-- the new name that lines say
abbrev pub rename_in : List ℕ → ℕ → List Line → Result RenameRequest LineFault
rename_in name number [] = Err (Bad number Syntax)
rename_in name number (first ∷ []) = Err (Bad number Syntax)
rename_in name number (first ∷ second ∷ rest) = rename_by name first second rest

-- ---- records

-- the add, the delete, the modify and the modify DN of the entry of a name that lines say
abbrev pub add_in : List ℕ → List Line → Result Request LineFault
add_in name rest = attributes_in None rest >>= λ attributes. Ok (request.Update (update.Add (record { name = name; attributes = attributes })))

abbrev pub delete_in : List ℕ → List Line → Result Request LineFault
delete_in name rest = nothing_in rest >>= λ nothing. Ok (request.Update (update.Delete (record { name = name })))

abbrev pub modify_in : List ℕ → ℕ → List Line → Result Request LineFault
modify_in name number rest = changes_in number None rest >>= λ changes. Ok (request.Update (update.Modify (record { name = name; changes = changes })))

abbrev pub modify_dn_in : List ℕ → ℕ → List Line → Result Request LineFault
modify_dn_in name number rest = rename_in name number rest >>= λ rename. Ok (request.Update (update.Rename rename))

-- the change of the entry of a name, of the kind that the line of the number says, with the lines behind it
abbrev pub change_of_kind : List ℕ → ℕ → List ℕ → List Line → Result Request LineFault
change_of_kind name number word rest =
    if bytes_eq word (codes "add") then add_in name rest
    else if bytes_eq word (codes "delete") then delete_in name rest
    else if bytes_eq word (codes "modify") then modify_in name number rest
    else if bytes_eq word (codes "modrdn") then modify_dn_in name number rest
    else Err (Bad number Syntax)

-- the change of the entry of a name that lines say
abbrev pub change_named : List ℕ → ℕ → List Line → Result Request LineFault
change_named name number [] = Err (Bad number Syntax)
change_named name number (line ∷ rest) =
    value_line (codes "changetype") line >>= λ word. change_of_kind name line.number word rest

-- the change that the lines of a record say
unfoldable pub change_in : Line → List Line → Result Request LineFault
change_in first rest = name_line (length rest == 0) first >>= λ name. change_named name first.number rest

-- the change of the lines between two empty ones, with the number of the first, if there are lines
abbrev pub record_in : List Line → Result (Option RecordedChange) LineFault
record_in [] = Ok None
record_in (first ∷ rest) = change_in first rest >>= λ change. Ok (Some (record { line = first.number; change = change }))

-- a change, if there is one, and those behind it
abbrev pub and_others : Option RecordedChange → List RecordedChange → List RecordedChange
and_others None others = others
and_others (Some change) others = change ∷ others

-- the changes of records
unfoldable pub changes_of : List (List Line) → Result (List RecordedChange) LineFault
changes_of [] = Ok []
changes_of (lines ∷ records) = record_in lines >>= λ found. changes_of records >>= λ others. Ok (and_others found others)

-- the changes of lines: records are lines between empty ones
unfoldable pub changes_from : List Line → Result (List RecordedChange) LineFault
changes_from lines = changes_of (slice_split is_blank lines)
