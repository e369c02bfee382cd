-- The line of a file's fault is one of its lines, and these are counted from 1.
use Rattle.std.proofs.Common.{◌≡◌, ℕ, ◌+◌, ◌≤◌, ◌==◌, ◌&&◌, not, Bool, List, [], ◌∷◌, length, drop, Option, Some, None, Result, Ok, Err, subst, arith}
use Rattle.std.specs.List.{AllByRecursion, filter_map, slice_split}
use Rattle.std.specs.Str.Lines.{lines}
use Rattle.dir_tree.proofs.base_laws_proofs.Theorems.{all_filter}
use Rattle.dir_tree.specs.dn_names.declared.error.BadName.{BadName}
use Rattle.dir_tree.specs.dn_names.name.Names.{Keyed, RdnSequence}
use Rattle.dir_tree.specs.dn_names.parsing.NameText.{read_name}
use Rattle.dir_tree.specs.schema_tables.Attributes.{attr_of}
use Rattle.dir_tree.specs.Entry.{EntryInformation, values_of, has_key}
use Rattle.dir_tree.specs.attributes.Changes.{with_value}
use Rattle.dir_tree.specs.tree.Trees.{has_name, lacks_superior, put_in}
use Rattle.ldif_load.specs.ldif_records.declared.types.Position.{Position}
use Rattle.ldif_load.specs.ldif_records.declared.types.Record.{Record}
use Rattle.ldif_load.specs.ldif_records.declared.types.RecordLine.{RecordLine}
use Rattle.ldif_load.specs.ldif_records.declared.types.LineCause.TheVariants.{Syntax, Changetype}
use Rattle.ldif_load.specs.ldif_records.reading.Faults.{LineFault}
use Rattle.ldif_load.specs.ldif_records.reading.Faults as reading
use Rattle.ldif_load.specs.ldif_records.lines.Lines.{Line, numbered, is_continuation, unfolded, beginning, logical}
use Rattle.ldif_load.specs.ldif_records.Fields as field
use Rattle.ldif_load.specs.ldif_records.reading.Records.{◌>>=◌, is_blank, is_version, without_comments, without_version, attribute_lines, record_of, record_between, records}
use Rattle.ldif_load.specs.ldif_records.lines.Places.{physical_from, logical_from, content_from, body_from, records_from}
use Rattle.aci_item.specs.declared.entry_rule.EntryRule.{EntryRule}
use Rattle.aci_item.specs.Rules.{broken_rule}
use Rattle.ldif_load.specs.declared.fault.LoadCause.TheVariants.{Twice, Order}
use Rattle.ldif_load.specs.load.Loading.{RecordFault, named, loaded_value, with_new_value, with_new_kind, with_line, with_lines, with_own_values, entry_of_record, ruled, placed, loaded_entry}
use Rattle.ldif_load.specs.load.Loading as loading
use Rattle.ldif_load.specs.load.DataFile.{FileFault, in_file, record_entry, loads_after, loads_records, loads, file_start}
use Rattle.data_file.proofs.laws.PartLemmas.{either_way, all_slice_split}

-- the lines of a file are counted from 1
abbrev IsCounted : Line → Type 0
IsCounted line = 1 ≤ line.number

abbrev AreCounted : List Line → Type 0
AreCounted lines = AllByRecursion IsCounted lines

AreCounted-numbered : (number : ℕ) (found : List (List ℕ)) → 1 ≤ number → AreCounted (numbered number found)
AreCounted-numbered number [] counted = tt
AreCounted-numbered number (octets ∷ found) counted = (counted, AreCounted-numbered (number + 1) found (omega arith))

AreCounted-physical_from : (text : List ℕ) (place : Position) → 1 ≤ place.line → AreCounted (physical_from text place)
unfolding physical_from
AreCounted-physical_from text place counted = AreCounted-numbered place.line (lines (drop place.offset text)) counted

AreCounted-beginning : (found : List Line) → AreCounted found → AreCounted (beginning found)
unfolding beginning
AreCounted-beginning [] all = tt
AreCounted-beginning (line ∷ rest) all =
    let later = AreCounted-beginning rest all.1 in
    either_way AreCounted (is_continuation line) (beginning rest) (unfolded line rest ∷ beginning rest) later (all.0, later)

AreCounted-logical : (found : List Line) → AreCounted found → AreCounted (logical found)
unfolding logical
AreCounted-logical [] all = tt
AreCounted-logical (line ∷ rest) all = (all.0, AreCounted-beginning rest all.1)

AreCounted-content_from : (text : List ℕ) (place : Position) → 1 ≤ place.line → AreCounted (content_from text place)
unfolding content_from logical_from without_comments
AreCounted-content_from text place counted =
    all_filter IsCounted _ (logical (physical_from text place))
    (AreCounted-logical (physical_from text place) (AreCounted-physical_from text place counted))

AreCounted-without_version : (found : List Line) → AreCounted found → AreCounted (without_version found)
unfolding without_version
AreCounted-without_version [] all = tt
AreCounted-without_version (line ∷ rest) all = either_way AreCounted (is_version line) rest (line ∷ rest) all.1 all

AreCounted-body_from : (text : List ℕ) (place : Position) → 1 ≤ place.line → AreCounted (body_from text place)
unfolding body_from
AreCounted-body_from text place counted =
    let content = AreCounted-content_from text place counted in
    either_way AreCounted (place.offset == 0) (without_version (content_from text place)) (content_from text place)
    (AreCounted-without_version (content_from text place) content) content

-- what is given is so, or the fault is at a line that is counted from 1
abbrev Counts : {A F : Type 0} → (F → ℕ) → (A → Type 0) → Result A F → Type 0
Counts line_of P (Ok value) = P value
Counts line_of P (Err fault) = 1 ≤ line_of fault

Counts-then :
    {A B F : Type 0} (line_of : F → ℕ) (P : A → Type 0) (Q : B → Type 0) (first : Result A F) (next : A → Result B F)
    → Counts line_of P first → ((value : A) → P value → Counts line_of Q (next value)) → Counts line_of Q (first >>= next)
Counts-then line_of P Q (Ok value) next here later = later value here
Counts-then line_of P Q (Err fault) next here later = here

-- the lines of a record
abbrev line_of_line : LineFault → ℕ
line_of_line (reading.Bad line cause) = line

abbrev IsCountedLine : RecordLine → Type 0
IsCountedLine line = 1 ≤ line.line

abbrev AreCountedLines : List RecordLine → Type 0
AreCountedLines lines = AllByRecursion IsCountedLine lines

abbrev Anything : {A : Type 0} → A → Type 0
Anything value = Unit {0}

counts-with_value : (number : ℕ) (kind : List ℕ) (value : Option (List ℕ)) → 1 ≤ number → Counts line_of_line IsCountedLine (field.with_value number kind value)
counts-with_value number kind None counted = counted
counts-with_value number kind (Some value) counted = counted

counts-attribute_of : (number : ℕ) (found : Option field.Field) → 1 ≤ number → Counts line_of_line IsCountedLine (field.attribute_of number found)
counts-attribute_of number None counted = counted
counts-attribute_of number (Some found) counted =
    either_way (Counts line_of_line IsCountedLine) (field.is_changetype found.kind) (Err (reading.Bad number Changetype))
    (field.with_value number found.kind (field.value_of found)) counted (counts-with_value number found.kind (field.value_of found) counted)

counts-with_name : (number : ℕ) (name : Option (List ℕ)) → 1 ≤ number → Counts {A = List ℕ} line_of_line Anything (field.with_name number name)
counts-with_name number None counted = counted
counts-with_name number (Some name) counted = tt

counts-name_of : (number : ℕ) (alone : Bool) (found : Option field.Field) → 1 ≤ number → Counts {A = List ℕ} line_of_line Anything (field.name_of number alone found)
counts-name_of number alone None counted = counted
counts-name_of number alone (Some found) counted =
    either_way (Counts {A = List ℕ} line_of_line Anything) (field.is_dn found.kind && not alone) (field.with_name number (field.value_of found))
    (Err (reading.Bad number Syntax)) (counts-with_name number (field.value_of found) counted) counted

counts-attribute_lines : (found : List Line) → AreCounted found → Counts line_of_line AreCountedLines (attribute_lines found)
unfolding attribute_lines
counts-attribute_lines [] all = tt
counts-attribute_lines (line ∷ rest) all =
    Counts-then line_of_line IsCountedLine AreCountedLines (field.attribute_line line) _
    (counts-attribute_of line.number (field.field_of line.octets) all.0)
    (λ first here. Counts-then line_of_line AreCountedLines AreCountedLines (attribute_lines rest) _ (counts-attribute_lines rest all.1) (λ others later. (here, later)))

-- records
pub record IsCountedRecord (given : Record) : Type 0 where
  pub first : 1 ≤ given.line
  pub later : AreCountedLines given.lines

counts-record_of : (first : Line) (rest : List Line) → IsCounted first → AreCounted rest → Counts line_of_line IsCountedRecord (record_of first rest)
unfolding record_of
counts-record_of first rest here all =
    Counts-then line_of_line Anything IsCountedRecord (field.name_line (length rest == 0) first) _
    (counts-name_of first.number (length rest == 0) (field.field_of first.octets) here)
    (λ name any. Counts-then line_of_line AreCountedLines IsCountedRecord (attribute_lines rest) _ (counts-attribute_lines rest all) (λ found later. record { first = here; later = later }))

counts-between : (parts : List (List Line)) → AllByRecursion AreCounted parts → AllByRecursion (Counts line_of_line IsCountedRecord) (filter_map record_between parts)
counts-between [] all = tt
counts-between ([] ∷ parts) all = counts-between parts all.1
counts-between ((line ∷ rest) ∷ parts) all = (counts-record_of line rest all.0.0 all.0.1, counts-between parts all.1)

counts-records_from : (text : List ℕ) (place : Position) → 1 ≤ place.line → AllByRecursion (Counts line_of_line IsCountedRecord) (records_from text place)
unfolding records_from records
counts-records_from text place counted =
    counts-between (slice_split is_blank (body_from text place))
    (all_slice_split IsCounted is_blank (body_from text place) (AreCounted-body_from text place counted))

-- entries of records
abbrev line_of_record : RecordFault → ℕ
line_of_record (loading.Bad line cause) = line

counts-named : (line : ℕ) (name : Result RdnSequence BadName) → 1 ≤ line → Counts {A = RdnSequence} line_of_record Anything (named line name)
counts-named line (Ok []) counted = counted
counts-named line (Ok (rdn ∷ rdns)) counted = tt
counts-named line (Err bad) counted = counted

counts-with_new_value : (entry : EntryInformation) (line kind : ℕ) (value : Option Keyed) → 1 ≤ line → Counts {A = EntryInformation} line_of_record Anything (with_new_value entry line kind value)
counts-with_new_value entry line kind None counted = counted
counts-with_new_value entry line kind (Some value) counted =
    either_way (Counts {A = EntryInformation} line_of_record Anything) (has_key value.key (values_of kind entry.attributes)) (Err (loading.Bad line Twice))
    (Ok (with_value kind value entry)) counted tt

counts-with_new_kind : (entry : EntryInformation) (line : RecordLine) (kind : Option ℕ) → IsCountedLine line → Counts {A = EntryInformation} line_of_record Anything (with_new_kind entry line kind)
counts-with_new_kind entry line None counted = counted
counts-with_new_kind entry line (Some kind) counted = counts-with_new_value entry line.line kind (loaded_value kind line.value) counted

counts-with_lines : (entry : EntryInformation) (found : List RecordLine) → AreCountedLines found → Counts {A = EntryInformation} line_of_record Anything (with_lines entry found)
unfolding with_lines
counts-with_lines entry [] all = tt
counts-with_lines entry (line ∷ rest) all =
    Counts-then line_of_record Anything Anything (with_line entry line) (λ more. with_lines more rest)
    (counts-with_new_kind entry line (attr_of line.kind) all.0) (λ more any. counts-with_lines more rest all.1)

counts-entry_of_record : (given : Record) → IsCountedRecord given → Counts {A = EntryInformation} line_of_record Anything (entry_of_record given)
unfolding entry_of_record
counts-entry_of_record given counted =
    Counts-then line_of_record Anything Anything (named given.line (read_name given.name)) _ (counts-named given.line (read_name given.name) counted.first)
    (λ name any. Counts-then line_of_record Anything Anything (with_lines (record { name = name; attributes = [] }) given.lines) (λ entry. Ok (with_own_values entry))
    (counts-with_lines (record { name = name; attributes = [] }) given.lines counted.later) (λ entry any. tt))

counts-ruled : (line : ℕ) (entry : EntryInformation) (broken : Option EntryRule) → 1 ≤ line → Counts {A = EntryInformation} line_of_record Anything (ruled line entry broken)
counts-ruled line entry None counted = tt
counts-ruled line entry (Some rule) counted = counted

counts-placed : (entries : List EntryInformation) (line : ℕ) (entry : EntryInformation) → 1 ≤ line → Counts {A = EntryInformation} line_of_record Anything (placed entries line entry)
unfolding placed
counts-placed entries line entry counted =
    either_way (Counts {A = EntryInformation} line_of_record Anything) (has_name entry.name entries) (Err (loading.Bad line Twice)) _ counted
    (either_way (Counts {A = EntryInformation} line_of_record Anything) (lacks_superior entry.name entries) (Err (loading.Bad line Order))
    (ruled line entry (broken_rule None entries entry)) counted (counts-ruled line entry (broken_rule None entries entry) counted))

counts-loaded_entry : (entries : List EntryInformation) (given : Record) → IsCountedRecord given → Counts {A = EntryInformation} line_of_record Anything (loaded_entry entries given)
unfolding loaded_entry
counts-loaded_entry entries given counted =
    Counts-then line_of_record Anything Anything (entry_of_record given) (placed entries given.line) (counts-entry_of_record given counted)
    (λ entry any. counts-placed entries given.line entry counted.first)

-- files
abbrev line_of_file : FileFault → ℕ
line_of_file fault = fault.line

counts-in_file : (found : Result EntryInformation RecordFault) → Counts {A = EntryInformation} line_of_record Anything found → Counts {A = EntryInformation} line_of_file Anything (in_file found)
counts-in_file (Ok entry) counted = tt
counts-in_file (Err (loading.Bad line cause)) counted = counted

counts-record_entry : (entries : List EntryInformation) (read : Result Record LineFault) → Counts line_of_line IsCountedRecord read → Counts {A = EntryInformation} line_of_file Anything (record_entry entries read)
counts-record_entry entries (Ok given) counted = counts-in_file (loaded_entry entries given) (counts-loaded_entry entries given counted)
counts-record_entry entries (Err (reading.Bad line cause)) counted = counted

counts-loads_after :
    (entries : List EntryInformation) (given : List (Result Record LineFault)) → AllByRecursion (Counts line_of_line IsCountedRecord) given
    → Counts {A = List EntryInformation} line_of_file Anything (loads_after entries given)
unfolding loads_after
counts-loads_after entries [] all = tt
counts-loads_after entries (first ∷ rest) all =
    Counts-then line_of_file Anything Anything (record_entry entries first) (λ entry. loads_after (put_in entry entries) rest)
    (counts-record_entry entries first all.0) (λ entry any. counts-loads_after (put_in entry entries) rest all.1)

counts-loads_records :
    (given : List (Result Record LineFault)) → AllByRecursion (Counts line_of_line IsCountedRecord) given
    → Counts {A = List EntryInformation} line_of_file Anything (loads_records given)
counts-loads_records [] all = omega arith
counts-loads_records (first ∷ rest) all = counts-loads_after [] (first ∷ rest) all

pub counted-fault : (text : List ℕ) (fault : FileFault) → loads text ≡ Err fault → 1 ≤ fault.line
unfolding loads
counted-fault text fault is =
    subst (Counts {A = List EntryInformation} line_of_file Anything) is
    (counts-loads_records (records_from text file_start) (counts-records_from text file_start (omega arith)))
