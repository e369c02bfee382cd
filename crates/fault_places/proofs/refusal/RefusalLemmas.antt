-- What is said of the records from a place on, by how the first of them is met.
use Rattle.std.proofs.Common.{◌≡◌, ℕ, List, [], ◌∷◌, Result, Ok, Err, ap, sym, ◌∙◌}
use Rattle.dir_tree.specs.Entry.{EntryInformation}
use Rattle.dir_tree.specs.tree.Trees.{put_in}
use Rattle.dir_tree.specs.tree.Numbered.{Numbered, entries_of}
use Rattle.dir_tree.proofs.TreeTheorems.{entries_of-put_row}
use Rattle.ldif_records.specs.declared.types.Position.{Position}
use Rattle.ldif_records.specs.declared.types.Record.{Record}
use Rattle.ldif_records.specs.reading.Faults.{LineFault}
use Rattle.ldif_records.specs.reading.Faults as reading
use Rattle.ldif_records.specs.declared.types.LineCause.{LineCause}
use Rattle.ldif_records.specs.reading.Records.{first_of}
use Rattle.ldif_records.specs.lines.Places.{IsNext, records_from}
use Rattle.ldif_load.specs.declared.fault.LoadCause.{LoadCause}
use Rattle.ldif_load.specs.load.Loading as loading
use Rattle.fault_places.specs.Refusals.{by_record, bad_line_said, record_said, refused_after}
use Rattle.fault_places.specs.Meeting.{IsTaken, IsRefused}

-- it is loaded
pub after_taken : (text : List ℕ) (from to : Position) (old new : List Numbered) → IsTaken text from old new to
    → refused_after (entries_of old) (records_from text from) ≡ refused_after (entries_of new) (records_from text to)
unfolding refused_after
after_taken text from to old new step =
    ap (refused_after (entries_of old)) step.next.record_read
    ∙ ap (by_record (λ entry. refused_after (put_in entry (entries_of old)) (records_from text to)) (record_said (entries_of old) step.given)) step.loaded.loaded
    ∙ ap (λ entries. refused_after entries (records_from text to))
    (sym (ap entries_of step.loaded.added ∙ entries_of-put_row (record { id = step.loaded.id; entry = step.loaded.entry }) old))

-- it is refused: the record that is read there
pub at_refused : (text : List ℕ) (from to : Position) (entries : List EntryInformation) (line : ℕ) (cause : LoadCause) (given : Record)
    → IsRefused text from entries line cause → IsNext text from given to
    → record_said entries given (loading.Bad line cause) ≡ refused_after entries (records_from text from)
unfolding refused_after
at_refused text from to entries line cause given refused next =
    let both : Ok given ∷ records_from text to ≡ Ok refused.given ∷ records_from text refused.to = sym next.record_read ∙ refused.next.record_read in
    let same : given ≡ refused.given = cc in
    ap (λ found. record_said entries found (loading.Bad line cause)) same
    ∙ sym (ap (refused_after entries) refused.next.record_read
    ∙ ap (by_record (λ entry. refused_after (put_in entry entries) (records_from text refused.to)) (record_said entries refused.given)) refused.refused)

-- a line of it is of no form
pub at_misread : (entries : List EntryInformation) (records : List (Result Record LineFault)) (line : ℕ) (cause : LineCause)
    → first_of records ≡ Err (reading.Bad line cause) → bad_line_said (reading.Bad line cause) ≡ refused_after entries records
unfolding refused_after
at_misread entries [] line cause is = absurd cc
at_misread entries (Ok given ∷ rest) line cause is = absurd cc
at_misread entries (Err bad ∷ rest) line cause is = let same : bad ≡ reading.Bad line cause = cc in ap bad_line_said (sym same)

-- there is none
pub at_end : (entries : List EntryInformation) (records : List (Result Record LineFault)) → records ≡ [] → refused_after entries records ≡ []
unfolding refused_after
at_end entries records none = ap (refused_after entries) none
