-- The written form of entries as a data file (RFC 2849, ldif-content), and the records that it gives.
use Rattle.std.specs.Prelude.{ℕ, ◌+◌, ◌<◌, List, [], ◌∷◌, ◌++◌, length, map, codes, Result, Ok}
use Rattle.std.specs.List.{flat_map, AllByRecursion}
use Rattle.base64.specs.GeneralPurpose.{IsBytes}
use Rattle.dir_tree.specs.schema_tables.Attributes.{name_of}
use Rattle.dir_tree.specs.dn_names.Printing.{print_name}
use Rattle.dir_tree.specs.Entry.{Attribute, EntryInformation}
use Rattle.ldif_records.specs.declared.types.Record.{Record}
use Rattle.ldif_records.specs.declared.types.RecordLine.{RecordLine}
use Rattle.ldif_records.specs.reading.Faults.{LineFault}
use Rattle.ldif_records.specs.writing.Written.{AreInTable, written_entry}

-- a type by its name, and the octets of a value
pub record TypeAndOctets : Type 0 where
  pub kind : List ℕ
  pub value : List ℕ

-- the values of attributes, each with its type, in their order
abbrev pub values_in : List Attribute → List TypeAndOctets
values_in attributes =
    flat_map (λ attribute. map (λ value. record { kind = name_of attribute.kind; value = value.octets }) attribute.values) attributes

-- the entry has a value; its types are in the table, and its values and its printed name are octets
pub record IsWritable (entry : EntryInformation) : Type 0 where
  pub filled : 0 < length (values_in entry.attributes)
  pub in_table : AreInTable entry.attributes
  pub name : IsBytes (print_name entry.name)
  pub values : AllByRecursion (λ found. IsBytes found.value) (values_in entry.attributes)

-- the lines of a record of the values, from the number on
abbrev pub lines_from : ℕ → List TypeAndOctets → List RecordLine
lines_from number [] = []
lines_from number (found ∷ rest) = record { line = number; kind = found.kind; value = found.value } ∷ lines_from (number + 1) rest

-- the record of an entry, from the number on
abbrev pub record_from : ℕ → EntryInformation → Record
record_from number entry =
    record { line = number; name = print_name entry.name; lines = lines_from (number + 1) (values_in entry.attributes) }

-- an empty line and the record of an entry
abbrev pub written_record : EntryInformation → List ℕ
written_record entry = 10 ∷ written_entry entry

-- the records of entries one after another
abbrev pub written_records : List EntryInformation → List ℕ
written_records entries = flat_map written_record entries

-- the file of entries: the version, and the records
unfoldable pub written_file : List EntryInformation → List ℕ
written_file entries = codes "version: 1" ++ (10 ∷ written_records entries)

-- the records of the entries, from the number of the first empty line on
abbrev pub entry_records : ℕ → List EntryInformation → List (Result Record LineFault)
entry_records number [] = []
entry_records number (entry ∷ rest) =
    Ok (record_from (number + 1) entry) ∷ entry_records (number + 1 + 1 + length (values_in entry.attributes)) rest
