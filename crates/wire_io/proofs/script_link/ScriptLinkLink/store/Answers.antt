use Rattle.wire_io.specs.declared.journal.Item.TheVariants.{Stored}
use Rattle.wire_io.proofs.script_link.PlayableLemmas.{IsNote, IsPlayable-noted}
use Rattle.wire_io.proofs.script_link.ScriptLinkLink.store.Goals as goal

-- the octets were noted
pub invariant_of-self-else-is_err : goal.invariant_of-self-else-is_err
unfolding IsNote
invariant_of-self-else-is_err c = IsPlayable-noted c.note.result (Stored c.args.octets.now) tt c.note.ensures.ok c.note.ensures.err c.self.invariant
