-- One octet more is turned.
use Rattle.std.proofs.Common.{ℕ, ◌-◌, get_or, arith}
use Rattle.std.proofs.lemmas.List.{get_or_default}
use Rattle.std.proofs.lemmas.List.Edits.{map_over_more}
use Rattle.ber_elements.proofs.integer.turn.Goals as goal

pub loop-octet-preserved : goal.loop-octet-preserved
loop-octet-preserved c = map_over_more (λ (b : ℕ). 255 - b) c.args.octets.now c.loop-octet.octets c.loop-octet.octet-index (get_or c.loop-octet.octets c.loop-octet.octet-index 0) c.loop-octet-test.true c.loop-octet.invariant (get_or_default c.loop-octet.octets c.loop-octet.octet-index 0 (get_or c.loop-octet.octets c.loop-octet.octet-index 0) (omega arith))
