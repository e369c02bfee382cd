use Rattle.wire_io.specs.declared.journal.Item.TheVariants.{Later, Gone, Taken}
use Rattle.wire_io.proofs.script_link.PlayableLemmas.{IsNote, IsPlayable-noted}
use Rattle.wire_io.proofs.script_link.ScriptLinkLink.write.Goals as goal

pub invariant_of-self-else-is_err : goal.invariant_of-self-else-is_err
unfolding IsNote
invariant_of-self-else-is_err c = IsPlayable-noted c.note.result (Later c.args.conn) tt c.note.ensures.ok c.note.ensures.err c.self.invariant

pub invariant_of-self-then-contains-2 : goal.invariant_of-self-then-contains-2
unfolding IsNote
invariant_of-self-then-contains-2 c = IsPlayable-noted c.note-then-contains-2.result (Gone c.args.conn) tt c.note-then-contains-2.ensures.ok c.note-then-contains-2.ensures.err c.self.invariant

pub invariant_of-self-else-is_err-3 : goal.invariant_of-self-else-is_err-3
unfolding IsNote
invariant_of-self-else-is_err-3 c = IsPlayable-noted c.take.result (Taken c.args.conn c.args.bytes.now) tt c.take.ensures.ok c.take.ensures.err c.self.invariant
