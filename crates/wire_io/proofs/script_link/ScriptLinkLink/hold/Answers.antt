use Rattle.wire_io.specs.declared.journal.Item.TheVariants.{Held}
use Rattle.wire_io.proofs.script_link.PlayableLemmas.{IsNote, IsPlayable-noted}
use Rattle.wire_io.proofs.script_link.ScriptLinkLink.hold.Goals as goal

-- the item was noted
pub invariant_of-self-else-is_err : goal.invariant_of-self-else-is_err
unfolding IsNote
invariant_of-self-else-is_err c = IsPlayable-noted c.hold.result (Held c.args.conn) tt c.hold.ensures.ok c.hold.ensures.err c.self.invariant
