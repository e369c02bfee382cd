use Rattle.wire_io.specs.declared.journal.Item.TheVariants.{HungUp}
use Rattle.wire_io.proofs.script_link.PlayableLemmas.{IsNote, IsPlayable-noted}
use Rattle.wire_io.proofs.script_link.ScriptLinkLink.hang_up.Goals as goal

-- the item was noted
pub invariant_of-self-else-is_err : goal.invariant_of-self-else-is_err
unfolding IsNote
invariant_of-self-else-is_err c = IsPlayable-noted c.hang_up.result (HungUp c.args.conn) tt c.hang_up.ensures.ok c.hang_up.ensures.err c.self.invariant
