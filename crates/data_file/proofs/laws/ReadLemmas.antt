-- The records that are read of lines of octets have values of octets.
use Rattle.std.proofs.Common.{◌≡◌, ℕ, ◌+◌, ◌==◌, ◌&&◌, Bool, true, false, if◌then◌else◌, List, [], ◌∷◌, length, drop, Option, Some, None, Result, Ok, Err, refl, subst}
use Rattle.std.specs.List.{AllByRecursion, filter_map, slice_split, list_any, before_first, after_first, position_or_len}
use Rattle.ldif_load.specs.ldif_records.declared.types.Position.{Position}
use Rattle.ldif_load.specs.ldif_records.declared.types.Record.{Record}
use Rattle.ldif_load.specs.ldif_records.declared.types.RecordLine.{RecordLine}
use Rattle.ldif_load.specs.ldif_records.reading.Faults.{LineFault, Bad}
use Rattle.ldif_load.specs.ldif_records.declared.types.LineCause.TheVariants.{Changetype}
use Rattle.ldif_load.specs.ldif_records.lines.Lines.{Line, begins_with}
use Rattle.ldif_load.specs.ldif_records.Fields.{Field, is_kind, is_colon, after_spaces, field_after, field_of, value_of, is_changetype, with_value, attribute_of, attribute_line, name_line}
use Rattle.ldif_load.specs.ldif_records.reading.Records.{◌>>=◌, is_blank, attribute_lines, record_of, record_between, records}
use Rattle.ldif_load.specs.ldif_records.lines.Places.{body_from, records_from}
use Rattle.data_file.proofs.laws.OctetLemmas.{AreBelow, below_drop}
use Rattle.data_file.proofs.laws.PartLemmas.{either_way, all_slice_split}
use Rattle.data_file.proofs.laws.DecodedLemmas.{AreBelow-decoded}
use Rattle.data_file.proofs.laws.FileLemmas.{OfOctets, AreOfOctets, AreOfOctets-body_from}
use Rattle.dir_tree.proofs.plain_values_proofs.Theorems.{both_given}

-- the value of a line that was read is of octets
abbrev pub HasOctets : RecordLine → Type 0
HasOctets line = AreBelow line.value

-- and so are all of a record, where there is one
abbrev pub GivesOctets : Result Record LineFault → Type 0
GivesOctets (Ok given) = AllByRecursion HasOctets given.lines
GivesOctets (Err bad) = Unit {0}

-- the field of a line
below-after_spaces : (octets : List ℕ) → AreBelow octets → AreBelow (after_spaces octets)
unfolding after_spaces
below-after_spaces [] below = tt
below-after_spaces (octet ∷ rest) below =
    either_way AreBelow (octet == 32) (after_spaces rest) (octet ∷ rest) (below-after_spaces rest below.1) below

one_of_two :
    (elsewhere coded : Bool) (one other field : Field) → AreBelow one.text → AreBelow other.text
    → (if elsewhere then None else if coded then Some one else Some other) ≡ Some field → AreBelow field.text
one_of_two true coded one other field here there is = absurd cc
one_of_two false true one other field here there is =
    let same : one ≡ field = cc in subst (λ (found : Field). AreBelow found.text) same here
one_of_two false false one other field here there is =
    let same : other ≡ field = cc in subst (λ (found : Field). AreBelow found.text) same there

below-field_after :
    (good : Bool) (kind after : List ℕ) (field : Field) → AreBelow after
    → (if good then field_after kind after else None) ≡ Some field → AreBelow field.text
below-field_after false kind after field below is = absurd cc
below-field_after true kind after field below is =
    one_of_two (begins_with 60 after) (begins_with 58 after) _ _ field
    (below-after_spaces (drop 1 after) (below_drop 1 after below)) (below-after_spaces after below) is

below-field_of : (line : List ℕ) (field : Field) → AreBelow line → field_of line ≡ Some field → AreBelow field.text
unfolding field_of
below-field_of line field below is =
    below-field_after (list_any is_colon line && is_kind (before_first is_colon line)) (before_first is_colon line)
    (after_first is_colon line) field (below_drop (position_or_len is_colon line + 1) line below) is

-- the value of a field
text_or_decoded :
    (coded : Bool) (text value : List ℕ) (decoded : Option (List ℕ)) → AreBelow text
    → (decoded ≡ Some value → AreBelow value) → (if coded then decoded else Some text) ≡ Some value → AreBelow value
text_or_decoded true text value decoded below each is = each is
text_or_decoded false text value decoded below each is = let same : text ≡ value = cc in subst AreBelow same below

below-value_of : (field : Field) (value : List ℕ) → AreBelow field.text → value_of field ≡ Some value → AreBelow value
below-value_of field value below is =
    text_or_decoded field.coded field.text value _ below (AreBelow-decoded field.text value below) is

-- an attribute line that is read
HasOctets-with_value :
    (number : ℕ) (kind : List ℕ) (value : Option (List ℕ)) (read : RecordLine)
    → ((found : List ℕ) → value ≡ Some found → AreBelow found) → with_value number kind value ≡ Ok read → HasOctets read
HasOctets-with_value number kind None read found is = absurd cc
HasOctets-with_value number kind (Some value) read found is =
    let same : record { line = number; kind = kind; value = value } ≡ read = cc in
    subst (λ (line : RecordLine). HasOctets line) same (found value refl)

unless_changetype :
    (change : Bool) (number : ℕ) (field : Field) (read : RecordLine) → AreBelow field.text
    → (if change then Err (Bad number Changetype) else with_value number field.kind (value_of field)) ≡ Ok read
    → HasOctets read
unless_changetype true number field read below is = absurd cc
unless_changetype false number field read below is =
    HasOctets-with_value number field.kind (value_of field) read (λ found. below-value_of field found below) is

HasOctets-attribute_of :
    (number : ℕ) (found : Option Field) (read : RecordLine)
    → ((field : Field) → found ≡ Some field → AreBelow field.text) → attribute_of number found ≡ Ok read → HasOctets read
HasOctets-attribute_of number None read fields is = absurd cc
HasOctets-attribute_of number (Some field) read fields is =
    unless_changetype (is_changetype field.kind) number field read (fields field refl) is

HasOctets-attribute_line : (line : Line) (read : RecordLine) → OfOctets line → attribute_line line ≡ Ok read → HasOctets read
HasOctets-attribute_line line read below is =
    HasOctets-attribute_of line.number (field_of line.octets) read (λ field. below-field_of line.octets field below) is

-- the lines of a record
HasOctets-attribute_lines :
    (lines : List Line) (read : List RecordLine) → AreOfOctets lines → attribute_lines lines ≡ Ok read
    → AllByRecursion HasOctets read
unfolding attribute_lines
HasOctets-attribute_lines [] read all is = let none : [] ≡ read = cc in subst (AllByRecursion HasOctets) none tt
HasOctets-attribute_lines (line ∷ rest) read all is =
    let first = both_given (attribute_line line) _ read is in
    let others = both_given (attribute_lines rest) _ read first.2 in
    let same : first.0 ∷ others.0 ≡ read = cc others.2 in
    let here = HasOctets-attribute_line line first.0 all.0 first.1 in
    subst (AllByRecursion HasOctets) same (here, HasOctets-attribute_lines rest others.0 all.1 others.1)

HasOctets-record_of :
    (first : Line) (rest : List Line) (given : Record) → AreOfOctets rest → record_of first rest ≡ Ok given
    → AllByRecursion HasOctets given.lines
unfolding record_of
HasOctets-record_of first rest given all is =
    let name = both_given (name_line (length rest == 0) first) _ given is in
    let lines = both_given (attribute_lines rest) _ given name.2 in
    let same : record { line = first.number; name = name.0; lines = lines.0 } ≡ given = cc lines.2 in
    subst (λ (found : Record). AllByRecursion HasOctets found.lines) same (HasOctets-attribute_lines rest lines.0 all lines.1)

GivesOctets-from :
    (read : Result Record LineFault) → ((given : Record) → read ≡ Ok given → AllByRecursion HasOctets given.lines)
    → GivesOctets read
GivesOctets-from (Ok given) each = each given refl
GivesOctets-from (Err bad) each = tt

-- so have all records of a file of octets
GivesOctets-between :
    (parts : List (List Line)) → AllByRecursion AreOfOctets parts
    → AllByRecursion GivesOctets (filter_map record_between parts)
GivesOctets-between [] all = tt
GivesOctets-between ([] ∷ parts) all = GivesOctets-between parts all.1
GivesOctets-between ((line ∷ rest) ∷ parts) all = (
  GivesOctets-from (record_of line rest) (λ given. HasOctets-record_of line rest given all.0.1),
  GivesOctets-between parts all.1,
)

pub GivesOctets-records_from :
    (text : List ℕ) (place : Position) → AreBelow text → AllByRecursion GivesOctets (records_from text place)
unfolding records_from records
GivesOctets-records_from text place below =
    GivesOctets-between (slice_split is_blank (body_from text place))
    (all_slice_split OfOctets is_blank (body_from text place) (AreOfOctets-body_from text place below))
