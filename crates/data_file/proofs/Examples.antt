-- The definitions on small files and trees.
use Rattle.std.proofs.Common.{◌≡◌, ℕ, [], ◌∷◌, ◌++◌, List, Result, Err, refl}
use Rattle.std.specs.Prelude.{codes, flat_map}
use Rattle.dir_tree.specs.schema_tables.Oids.{is_dotted_oid}
use Rattle.dir_tree.specs.schema_tables.Attributes.{attributes}
use Rattle.dir_tree.specs.dn_names.Classes.{class_of}
use Rattle.dir_tree.specs.dn_names.Printing as printing
use Rattle.dir_tree.specs.Entry.{EntryInformation}
use Rattle.dir_tree.specs.tree.Numbered.{Numbered}
use Rattle.ldif_load.specs.ldif_records.declared.types.LineCause.TheVariants.{Syntax, Changetype}
use Rattle.ldif_load.specs.ldif_records.lines.Lines.{continued, beginning, logical}
use Rattle.ldif_load.specs.ldif_records.Fields.{is_kind, field_of, after_spaces, is_changetype, is_dn}
use Rattle.ldif_load.specs.ldif_records.reading.Records.{without_comments, is_version, without_version, attribute_lines, record_of, records}
use Rattle.ldif_load.specs.ldif_records.lines.Places.{physical_from, logical_from, content_from, body_from, records_from}
use Rattle.ldif_load.specs.ldif_records.writing.Written.{is_plain, written_value, written_entry}
use Rattle.ldif_load.specs.ldif_records.writing.WrittenFile.{written_file}
use Rattle.ldif_load.specs.load.DataFile.{FileFault, OfLine, loads, loads_after}
use Rattle.data_file.specs.Steps.{text_at}

-- lines that end in LF
ended : List (List ℕ) → List ℕ
ended lines = flat_map (λ line. line ++ 10 ∷ []) lines

unfoldable the_entries : List ℕ → Result (List EntryInformation) FileFault
the_entries text = loads text

-- a file without a record is bad at its first line
no_record : the_entries (ended (codes "version: 1" ∷ codes "# dn: dc=t" ∷ [])) ≡ Err (record { line = 1; cause = OfLine Syntax })
unfolding ended the_entries loads loads_after continued beginning logical is_kind field_of after_spaces is_changetype is_dn without_comments is_version without_version attribute_lines record_of records physical_from logical_from content_from body_from records_from is_dotted_oid
no_record = refl

-- a line of no form is bad at its own
bad_line : the_entries (ended (codes "version: 1" ∷ [] ∷ codes "dn: dc=t" ∷ codes "objectClass; top" ∷ [])) ≡ Err (record { line = 4; cause = OfLine Syntax })
unfolding ended the_entries loads loads_after continued beginning logical is_kind field_of after_spaces is_changetype is_dn without_comments is_version without_version attribute_lines record_of records physical_from logical_from content_from body_from records_from is_dotted_oid
bad_line = refl

-- a record that changes something is no record of data
change : the_entries (ended (codes "dn: dc=t" ∷ codes "changetype: add" ∷ [])) ≡ Err (record { line = 2; cause = OfLine Changetype })
unfolding ended the_entries loads loads_after continued beginning logical is_kind field_of after_spaces is_changetype is_dn without_comments is_version without_version attribute_lines record_of records physical_from logical_from content_from body_from records_from is_dotted_oid
change = refl

-- no entries are written as the version alone
none : written_file [] ≡ codes "version: 1\n"
unfolding written_file
none = refl

-- the text of a number is that of its entry, and nothing where it is not in use
domain : EntryInformation
domain = record {
  name = (record { kind = 25; value = record { octets = codes "t"; key = codes "t" } } ∷ []) ∷ [];
  attributes = record { kind = 25; values = record { octets = codes "t"; key = codes "t" } ∷ [] } ∷ [];
}

rows : List Numbered
rows = record { id = 7; entry = domain } ∷ []

here : text_at rows 7 ≡ codes "\ndn: dc=t\ndc: t\n"
unfolding domain rows written_entry written_value is_plain attributes printing.print_name printing.print_by printing.print_value class_of
here = refl

unused : text_at rows 8 ≡ []
unfolding rows
unused = refl

whole : written_file (domain ∷ []) ≡ codes "version: 1\n\ndn: dc=t\ndc: t\n"
unfolding domain written_file written_entry written_value is_plain attributes printing.print_name printing.print_by printing.print_value class_of
whole = refl
