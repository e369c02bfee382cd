-- A file is loaded record by record.
use Rattle.std.proofs.Common.{◌≡◌, ◌≢◌, true, false, List, [], ◌∷◌, Result, Ok, Err, refl, sym, ap, ◌∙◌}
use Rattle.std.specs.Prelude.{if◌then◌else◌}
use Rattle.dir_tree.specs.Entry.{EntryInformation}
use Rattle.dir_tree.specs.tree.Trees.{put_in}
use Rattle.dir_tree.specs.tree.Numbered.{Numbered, entries_of}
use Rattle.dir_tree.proofs.TreeTheorems.{entries_of-put_row}
use Rattle.ldif_records.specs.declared.types.Record.{Record}
use Rattle.ldif_records.specs.reading.Faults.{LineFault}
use Rattle.ldif_records.specs.reading.Records.{first_of}
use Rattle.ldif_records.specs.lines.Places.{records_from}
use Rattle.ldif_load.specs.load.Loading.{◌>>=◌}
use Rattle.ldif_load.specs.load.DataFile.{in_file, line_fault, record_entry, loads_after, loads_records, file_start, loads}
use Rattle.ldif_load.specs.Laws.{PutsItsEntryIn, GoesOnAfterARecord, GoesOnWhereLoaded, EndsAtABadRecord, EndsAtABadLine, EndsWithItsEntries, BeginsWithoutEntries, IsBadWithoutARecord}

-- a record that is loaded puts its entry in
pub puts_its_entry_in : PutsItsEntryIn
puts_its_entry_in old new given step = ap entries_of step.added ∙ entries_of-put_row (record { id = step.id; entry = step.entry }) old

-- of the records that are left the first decides
after_first : (entries : List EntryInformation) (given : List (Result Record LineFault)) (first : Result Record LineFault) (rest : List (Result Record LineFault)) → given ≡ first ∷ rest
    → loads_after entries given ≡ (record_entry entries first >>= λ entry. loads_after (put_in entry entries) rest)
unfolding loads_after
after_first entries given first rest are = ap (loads_after entries) are

pub goes_on_after_a_record : GoesOnAfterARecord
goes_on_after_a_record entries text from to given next = after_first entries (records_from text from) (Ok given) (records_from text to) next.record_read

pub goes_on_where_loaded : GoesOnWhereLoaded
goes_on_where_loaded old new text from to given next step =
    after_first (entries_of old) (records_from text from) (Ok given) (records_from text to) next.record_read
    ∙ ap (λ loading. in_file loading >>= λ entry. loads_after (put_in entry (entries_of old)) (records_from text to)) step.loaded
    ∙ ap (λ entries. loads_after entries (records_from text to)) (sym (puts_its_entry_in old new given step))

pub ends_at_a_bad_record : EndsAtABadRecord
ends_at_a_bad_record entries text from to given fault next bad =
    after_first entries (records_from text from) (Ok given) (records_from text to) next.record_read
    ∙ ap (λ loading. in_file loading >>= λ entry. loads_after (put_in entry entries) (records_from text to)) bad

pub ends_at_first : (entries : List EntryInformation) (given : List (Result Record LineFault)) (bad : LineFault) → first_of given ≡ Err bad → loads_after entries given ≡ Err (line_fault bad)
unfolding loads_after
ends_at_first entries [] bad is = absurd cc
ends_at_first entries (Ok first ∷ rest) bad is = absurd cc
ends_at_first entries (Err other ∷ rest) bad is = let same : other ≡ bad = cc in ap (λ fault. Err (line_fault fault)) same

pub ends_at_a_bad_line : EndsAtABadLine
ends_at_a_bad_line entries text from bad is = ends_at_first entries (records_from text from) bad is

pub ends_with_its_entries : EndsWithItsEntries
unfolding loads_after
ends_with_its_entries entries text from none = ap (loads_after entries) none

-- the first record of a file
from_start : (given : List (Result Record LineFault)) → given ≢ [] → loads_records given ≡ loads_after [] given
from_start [] some = absurd (some refl)
from_start (first ∷ rest) some = refl

pub begins_without_entries : BeginsWithoutEntries
unfolding loads
begins_without_entries text some = from_start (records_from text file_start) some

pub is_bad_without_a_record : IsBadWithoutARecord
unfolding loads
is_bad_without_a_record text none = ap loads_records none
