use Rattle.wire_io.proofs.script_link.PlayableLemmas.{IsPlayable-new}
use Rattle.wire_io.proofs.script_link.ScriptLink.of_script.Goals as goal

-- nothing was done, and the events are those given
pub invariant_of-result : goal.invariant_of-result
invariant_of-result c = (IsPlayable-new c.new.ensures.exact c.requires.once c.requires.filled)
