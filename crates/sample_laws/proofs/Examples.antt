-- Samples of no person, and of one to three: their entries, and what their data files give.
use Rattle.std.proofs.Common.{◌≡◌, [], ◌∷◌, List, Ok, refl}
use Rattle.std.specs.Prelude.{codes}
use Rattle.std.specs.Fmt.{digits}
use Rattle.dir_tree.specs.dn_names.NameOrder.{name_cmp}
use Rattle.dir_tree.specs.Entry.{EntryInformation}
use Rattle.ldif_load.specs.ldif_records.lines.Lines.{logical, beginning, continued}
use Rattle.ldif_load.specs.ldif_records.Fields.{is_kind, field_of, after_spaces, decoded, is_changetype, is_dn}
use Rattle.ldif_load.specs.ldif_records.reading.Records.{without_comments, is_version, without_version, attribute_lines, record_of, records}
use Rattle.ldif_load.specs.ldif_records.lines.Places.{physical_from, logical_from, content_from, body_from, records_from}
use Rattle.ldif_load.specs.load.DataFile.{loads}
use Rattle.sample_input.specs.SampleFile.{person_name, person_record, sample_file}
use Rattle.sample_laws.specs.SampleEntries.{area, subentry, unit_entry, person_in, person, head_entries, sample_entries}
use Rattle.sample_laws.proofs.laws.LoadLemmas.{loading}

-- the first person, and the second
first_person : person 1 ≡ person_in (codes "open") (codes "u1")
unfolding digits
first_person = refl

second_person : person 2 ≡ person_in (codes "shut") (codes "u2")
unfolding digits
second_person = refl

-- persons stand behind their units
one : List EntryInformation
one = area ∷ subentry ∷ unit_entry (codes "open") ∷ person_in (codes "open") (codes "u1") ∷ unit_entry (codes "shut") ∷ []

two : List EntryInformation
two =
    area ∷ subentry ∷ unit_entry (codes "open") ∷ person_in (codes "open") (codes "u1")
    ∷ unit_entry (codes "shut") ∷ person_in (codes "shut") (codes "u2") ∷ []

three : List EntryInformation
three =
    area ∷ subentry ∷ unit_entry (codes "open") ∷ person_in (codes "open") (codes "u1") ∷ person_in (codes "open") (codes "u3")
    ∷ unit_entry (codes "shut") ∷ person_in (codes "shut") (codes "u2") ∷ []

entries_of_one : sample_entries 1 ≡ one
unfolding one digits name_cmp sample_entries
entries_of_one = refl

entries_of_two : sample_entries 2 ≡ two
unfolding two digits name_cmp sample_entries
entries_of_two = refl

entries_of_three : sample_entries 3 ≡ three
unfolding three digits name_cmp sample_entries
entries_of_three = refl

-- the same of their files, read and loaded from the first octet on
unfoldable reading : Unit {0}
unfolding loading logical beginning continued is_kind field_of after_spaces decoded is_changetype is_dn without_comments is_version without_version attribute_lines record_of records physical_from logical_from content_from body_from records_from loads digits person_name person_record sample_file
reading = tt

file_of_none : loads (sample_file 0) ≡ Ok head_entries
unfolding reading
file_of_none = refl

file_of_one : loads (sample_file 1) ≡ Ok one
unfolding one reading
file_of_one = refl

file_of_two : loads (sample_file 2) ≡ Ok two
unfolding two reading
file_of_two = refl

file_of_three : loads (sample_file 3) ≡ Ok three
unfolding three reading
file_of_three = refl
