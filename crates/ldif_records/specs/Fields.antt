-- What one line says (RFC 2849, attrval-spec, dn-spec): a type and a value, as it stands or in base64 (RFC 4648 4).
use Rattle.std.specs.Prelude.{ℕ, ◌==◌, ◌&&◌, ◌||◌, not, Bool, true, false, if◌then◌else◌, List, [], ◌∷◌, drop, codes, Option, Some, None, Result, Ok, Err}
use Rattle.std.specs.List.{list_any, before_first, after_first}
use Rattle.std.specs.Result.{result_ok}
use Rattle.std.specs.Str.{bytes_eq, str_eq_ignore_ascii_case}
use Rattle.base64.specs.Engines.{standard}
use Rattle.base64.specs.GeneralPurpose.{decode_of}
use Rattle.dir_tree.specs.schema_tables.Naming.{is_keystring}
use Rattle.dir_tree.specs.schema_tables.Oids.{is_dotted_oid}
use Rattle.ldif_records.specs.declared.types.RecordLine.{RecordLine}
use Rattle.ldif_records.specs.reading.Faults.{LineFault, Bad}
use Rattle.ldif_records.specs.declared.types.LineCause.TheVariants.{Syntax, Changetype, Base64}
use Rattle.ldif_records.specs.lines.Lines.{Line, begins_with}

-- the text of a type: a keystring or a numericoid (RFC 4512 1.4)
unfoldable pub is_kind : List ℕ → Bool
is_kind text = is_keystring text || is_dotted_oid text

-- a type, and the text of its value, as it stands or in base64
pub record Field : Type 0 where
  pub kind : List ℕ
  pub coded : Bool
  pub text : List ℕ

-- the octets after the spaces at the front
unfoldable pub after_spaces : List ℕ → List ℕ
after_spaces [] = []
after_spaces (octet ∷ rest) = if octet == 32 then after_spaces rest else octet ∷ rest

-- the field of a type and of what stands after the colon: `<` refers to a value elsewhere, which isn't taken
abbrev pub field_after : List ℕ → List ℕ → Option Field
field_after kind after =
    if begins_with 60 after then None
    else if begins_with 58 after then Some (record { kind = kind; coded = true; text = after_spaces (drop 1 after) })
    else Some (record { kind = kind; coded = false; text = after_spaces after })

-- the octet is a colon
abbrev pub is_colon : ℕ → Bool
is_colon octet = octet == 58

-- the field of a line that has the form of one
unfoldable pub field_of : List ℕ → Option Field
field_of line =
    if list_any is_colon line && is_kind (before_first is_colon line)
    then field_after (before_first is_colon line) (after_first is_colon line) else None

-- the octets that a text of padded base64 stands for; none where it isn't strict
unfoldable pub decoded : List ℕ → Option (List ℕ)
decoded text = result_ok (decode_of standard text)

-- the octets of the value
abbrev pub value_of : Field → Option (List ℕ)
value_of field = if field.coded then decoded field.text else Some field.text

-- the type is `changetype`, in any case of letters
unfoldable pub is_changetype : List ℕ → Bool
is_changetype kind = str_eq_ignore_ascii_case kind (codes "changetype")

-- the type is `dn`, as it stands
unfoldable pub is_dn : List ℕ → Bool
is_dn kind = bytes_eq kind (codes "dn")

-- the line with its value, or the line is bad
abbrev pub with_value : ℕ → List ℕ → Option (List ℕ) → Result RecordLine LineFault
with_value number kind None = Err (Bad number Base64)
with_value number kind (Some value) = Ok (record { line = number; kind = kind; value = value })

-- the attribute line of the number and the field; a line of no form is bad
abbrev pub attribute_of : ℕ → Option Field → Result RecordLine LineFault
attribute_of number None = Err (Bad number Syntax)
attribute_of number (Some field) =
    if is_changetype field.kind then Err (Bad number Changetype) else with_value number field.kind (value_of field)

-- what an attribute line says, or why it is bad
abbrev pub attribute_line : Line → Result RecordLine LineFault
attribute_line line = attribute_of line.number (field_of line.octets)

-- the name with its octets, or the line is bad
abbrev pub with_name : ℕ → Option (List ℕ) → Result (List ℕ) LineFault
with_name number None = Err (Bad number Base64)
with_name number (Some name) = Ok name

-- the name that the first line of a record says; the line is bad too where it is the record's only one
abbrev pub name_of : ℕ → Bool → Option Field → Result (List ℕ) LineFault
name_of number alone None = Err (Bad number Syntax)
name_of number alone (Some field) =
    if is_dn field.kind && not alone then with_name number (value_of field) else Err (Bad number Syntax)

-- what the first line of a record says, or why it is bad
abbrev pub name_line : Bool → Line → Result (List ℕ) LineFault
name_line alone line = name_of line.number alone (field_of line.octets)
