use Rattle.wire_io.specs.declared.journal.Item.TheVariants.{Released}
use Rattle.wire_io.proofs.script_link.PlayableLemmas.{IsNote, IsPlayable-noted}
use Rattle.wire_io.proofs.script_link.ScriptLinkLink.release.Goals as goal

-- the item was noted
pub invariant_of-self-else-is_err : goal.invariant_of-self-else-is_err
unfolding IsNote
invariant_of-self-else-is_err c = IsPlayable-noted c.release.result (Released c.args.conn) tt c.release.ensures.ok c.release.ensures.err c.self.invariant
