use Rattle.std.proofs.Common.{true, false}
use Rattle.wire_io.specs.declared.journal.Item.TheVariants.{OpenedAt}
use Rattle.wire_io.proofs.script_link.PlayableLemmas.{IsNote, IsPlayable-noted}
use Rattle.wire_io.proofs.script_link.ScriptLinkLink.open.Goals as goal

-- the opening that failed was noted
pub invariant_of-self-then-fails : goal.invariant_of-self-then-fails
unfolding IsNote
invariant_of-self-then-fails c =
    IsPlayable-noted c.open.result (OpenedAt c.args.address.now c.args.sessions false) tt c.open.ensures.ok c.open.ensures.err c.self.invariant

-- the opening was noted
pub invariant_of-self-else-is_err-2 : goal.invariant_of-self-else-is_err-2
unfolding IsNote
invariant_of-self-else-is_err-2 c =
    IsPlayable-noted c.open-2.result (OpenedAt c.args.address.now c.args.sessions true) tt c.open-2.ensures.ok c.open-2.ensures.err c.self.invariant
