-- The record that is read there is the one that is refused.
use Rattle.dir_tree.specs.tree.Numbered.{entries_of}
use Rattle.ldif_records.specs.lines.Places.{IsNext}
use Rattle.fault_places.proofs.refusal.RefusalLemmas.{at_refused}
use Rattle.fault_places.proofs.refusal.put_record_at.Goals as goal

pub returns-in-Ok-Some : goal.returns-in-Ok-Some
returns-in-Ok-Some c =
    let next : IsNext c.args.text.now c.args.at c.in-Ok-Some.given c.in-Ok-Some.field-0-0-1 = rw c.in-Ok-Some.field-0-is at c.in-Ok-Some.ensures.ok in
    let same = at_refused c.args.text.now c.args.at c.in-Ok-Some.field-0-0-1 (entries_of c.args.tree.now) c.args.line c.args.cause c.in-Ok-Some.given
    c.requires.refused next in
    record { ok = rw (← same) c.put_record.ensures.ok }
