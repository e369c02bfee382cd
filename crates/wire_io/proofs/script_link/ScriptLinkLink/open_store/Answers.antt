use Rattle.std.proofs.Common.{true, false}
use Rattle.wire_io.specs.declared.journal.Item.TheVariants.{StoreOpened}
use Rattle.wire_io.proofs.script_link.PlayableLemmas.{IsNote, IsPlayable-noted}
use Rattle.wire_io.proofs.script_link.ScriptLinkLink.open_store.Goals as goal

-- the opening that failed was noted
pub invariant_of-self-then-fails : goal.invariant_of-self-then-fails
unfolding IsNote
invariant_of-self-then-fails c =
    IsPlayable-noted c.open_store.result (StoreOpened c.args.name.now false) tt c.open_store.ensures.ok c.open_store.ensures.err c.self.invariant

-- the opening was noted
pub invariant_of-self-else-is_err-2 : goal.invariant_of-self-else-is_err-2
unfolding IsNote
invariant_of-self-else-is_err-2 c =
    IsPlayable-noted c.open_store-2.result (StoreOpened c.args.name.now true) tt c.open_store-2.ensures.ok c.open_store-2.ensures.err c.self.invariant
