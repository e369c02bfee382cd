use Rattle.wire_io.specs.declared.journal.Item.TheVariants.{StoreCut}
use Rattle.wire_io.proofs.script_link.PlayableLemmas.{IsNote, IsPlayable-noted}
use Rattle.wire_io.proofs.script_link.ScriptLinkLink.cut_store.Goals as goal

-- the cut was noted
pub invariant_of-self-else-is_err : goal.invariant_of-self-else-is_err
unfolding IsNote
invariant_of-self-else-is_err c = IsPlayable-noted c.cut_store.result (StoreCut c.args.length) tt c.cut_store.ensures.ok c.cut_store.ensures.err c.self.invariant
