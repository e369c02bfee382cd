-- What the lines of a record say of its request, where none of them is at fault.
use Rattle.std.specs.Prelude.{ℕ, true, List, [], ◌∷◌, ◌++◌, map, filter, find, codes, Option, Some, None, option_map, unwrap_or, Result, Ok, Err, if◌then◌else◌}
use Rattle.std.specs.List.{fold}
use Rattle.std.specs.Str.{bytes_eq}
use Rattle.filter_text.specs.Faults.{FilterCause}
use Rattle.filter_text.specs.Reading.{filter_in}
use Rattle.ldap_msg.specs.ldap_filter.filter.Filters.{Filter}
use Rattle.ldap_msg.specs.ldap_filter.filter.Filters.Filter.{Present}
use Rattle.ldap_msg.specs.declared.kinds.SearchScope.{SearchScope}
use Rattle.ldap_msg.specs.declared.kinds.SearchScope.TheVariants.{BaseObject, SingleLevel, WholeSubtree}
use Rattle.ldap_msg.specs.declared.kinds.KindValues.{KindValues}
use Rattle.ldap_msg.specs.declared.kinds.ModifyOperation.{ModifyOperation}
use Rattle.ldap_msg.specs.declared.kinds.ModifyOperation.TheVariants.{Add, Delete, Replace}
use Rattle.ldap_msg.specs.declared.kinds.Change.{Change}
use Rattle.ldap_msg.specs.declared.kinds.Control.{Control}
use Rattle.ldif_records.specs.declared.types.RecordLine.{RecordLine}
use Rattle.client_core.specs.Rows.{is_value}
use Rattle.client_core.specs.Values.{limit_in}

-- the value of the first line of the type
abbrev pub value_of : List ℕ → List RecordLine → Option (List ℕ)
value_of kind lines = option_map (λ line. line.value) (find (λ line. bytes_eq line.kind kind) lines)

-- the values of all lines of the type
abbrev pub values_of : List ℕ → List RecordLine → List (List ℕ)
values_of kind lines = map (λ line. line.value) (filter (λ line. bytes_eq line.kind kind) lines)

-- the value of the first line of the type, empty where there is none
abbrev pub text_of : List ℕ → List RecordLine → List ℕ
text_of kind lines = unwrap_or (value_of kind lines) []

-- the scope of a word (RFC 4511 4.5.1.2); the base object where none is given
abbrev pub scope_named : List ℕ → SearchScope
scope_named text = if bytes_eq text (codes "one") then SingleLevel else if bytes_eq text (codes "sub") then WholeSubtree else BaseObject

-- the most entries to be sent; 0, for no limit, where no number is given
abbrev pub limit_number : List ℕ → ℕ
limit_number text = unwrap_or (limit_in text) 0

-- the filter that stands for none: each entry has an objectClass
abbrev pub presence : Filter
presence = Present (codes "objectClass")

-- the filter that was read
abbrev pub filter_or_presence : Result Filter FilterCause → Filter
filter_or_presence (Ok filter) = filter
filter_or_presence (Err fault) = presence

-- the filter of a search
abbrev pub filter_by : Option (List ℕ) → Filter
filter_by None = presence
filter_by (Some text) = filter_or_presence (filter_in text)

-- the value of a control of subentries: a BOOLEAN (RFC 3672 3)
abbrev pub truth_octets : List ℕ → List ℕ
truth_octets text = 1 ∷ 1 ∷ (if bytes_eq text (codes "TRUE") then 255 else 0) ∷ []

-- the critical control of subentries, where a truth value is given
abbrev pub subentries_control : Option (List ℕ) → List Control
subentries_control None = []
subentries_control (Some text) =
    record { kind = codes "1.3.6.1.4.1.4203.1.10.1"; critical = true; value = Some (truth_octets text) } ∷ []

-- the last item becomes these items; where there is none, the new one comes
unfoldable pub at_last : {A : Type 0} → A → (A → List A) → List A → List A
at_last new becomes [] = new ∷ []
at_last new becomes (only ∷ []) = becomes only
at_last new becomes (first ∷ second ∷ rest) = first ∷ at_last new becomes (second ∷ rest)

-- the attribute with one value more
abbrev pub with_value : KindValues → List ℕ → KindValues
with_value attribute value = record { kind = attribute.kind; values = attribute.values ++ value ∷ [] }

-- the attribute of a line
abbrev pub attribute_of : RecordLine → KindValues
attribute_of line = record { kind = line.kind; values = line.value ∷ [] }

-- an attribute and a line behind it: the value is the attribute's where the types are equal
abbrev pub and_attribute : RecordLine → KindValues → List KindValues
and_attribute line last =
    if bytes_eq last.kind line.kind then with_value last line.value ∷ [] else last ∷ attribute_of line ∷ []

-- the attributes of lines: neighbours of one type are one attribute (RFC 4511 4.7)
unfoldable pub attributes_of : List RecordLine → List KindValues
attributes_of lines = fold (λ attributes line. at_last (attribute_of line) (and_attribute line) attributes) [] lines

-- the operation of a change (RFC 4511 4.6)
abbrev pub operation_named : List ℕ → ModifyOperation
operation_named kind = if bytes_eq kind (codes "delete") then Delete else if bytes_eq kind (codes "replace") then Replace else Add

-- the change of a line, which names its type
abbrev pub change_of : RecordLine → Change
change_of line = record { operation = operation_named line.kind; body = record { kind = line.value; values = [] } }

-- a change and a line behind it: a value of the change, or a change of its own
abbrev pub and_change : RecordLine → Change → List Change
and_change line last =
    if is_value line.kind then record { operation = last.operation; body = with_value last.body line.value } ∷ []
    else last ∷ change_of line ∷ []

-- the changes of lines
unfoldable pub changes_of : List RecordLine → List Change
changes_of lines = fold (λ changes line. at_last (change_of line) (and_change line) changes) [] lines
