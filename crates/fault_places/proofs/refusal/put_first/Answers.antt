-- How the first of the records that are left is met.
use Rattle.std.proofs.Common.{◌≡◌, List, ap, sym, ◌∙◌, append-nil, []}
use Rattle.std.specs.Prelude.{string_bytes, Err}
use Rattle.dir_tree.specs.tree.Numbered.{Numbered, entries_of}
use Rattle.ldif_records.specs.reading.Faults as reading
use Rattle.ldif_records.specs.reading.Records.{first_of}
use Rattle.ldif_records.specs.lines.Places.{records_from}
use Rattle.fault_places.specs.Refusals.{refused_after}
use Rattle.fault_places.specs.Meeting.{IsTaken, IsRefused}
use Rattle.fault_places.proofs.refusal.RefusalLemmas.{after_taken, at_misread, at_end}
use Rattle.fault_places.proofs.refusal.put_first.Goals as goal

pub records-preserved : goal.records-preserved
records-preserved c =
    let step : IsTaken c.args.text.now c.records.at c.records.tree c.meet.new.tree c.in-Loaded.to = rw c.in-Loaded.is at c.in_ok-to.ensures.ok in
    record {
      whole = c.records.invariant.whole ∙ after_taken _ _ _ _ _ step;
      place = step.next.place;
      kept = c.records.invariant.kept;
    }

pub returns-in-Refused : goal.returns-in-Refused
returns-in-Refused c =
    let step : IsRefused c.args.text.now c.records.at (entries_of c.records.tree) c.in-Refused.line c.in-Refused.cause × (c.meet.new.tree ≡ c.records.tree) =
    rw c.in-Refused.is at c.in_ok-to.ensures.ok in
    let whole = c.records.invariant.whole
    ∙ ap (λ (rows : List Numbered). refused_after (entries_of rows) (records_from c.args.text.now c.records.at)) (sym step.1) in
    record { ok = rw (whole, ← c.records.invariant.kept) c.put_record_at.ensures.ok }

pub returns-in-Misread : goal.returns-in-Misread
returns-in-Misread c =
    let is : first_of (records_from c.args.text.now c.records.at) ≡ Err (reading.Bad c.in-Misread.line c.in-Misread.cause) =
    rw c.in-Misread.is at c.in_ok-to.ensures.ok in
    let whole = c.records.invariant.whole ∙ sym (at_misread (entries_of c.records.tree) (records_from c.args.text.now c.records.at) _ _ is) in
    record { ok = rw (whole, ← c.records.invariant.kept) c.put_bad_line.ensures.ok }

pub returns-in-Ended : goal.returns-in-Ended
returns-in-Ended c =
    let none : records_from c.args.text.now c.records.at ≡ [] = rw c.in-Ended.is at c.in_ok-to.ensures.ok in
    let whole = c.records.invariant.whole ∙ at_end (entries_of c.records.tree) (records_from c.args.text.now c.records.at) none in
    record { ok = rw whole (c.records.invariant.kept ∙ sym (append-nil (string_bytes c.args.out.now))) }
