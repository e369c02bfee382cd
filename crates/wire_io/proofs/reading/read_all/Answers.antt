use Rattle.std.proofs.Common.{rules, arith, refl}
use Rattle.std.proofs.lemmas.Grind.{common_steps}
use Rattle.wire_io.proofs.reading.ReadLemmas.{HasRead-empty, ReadCause-longer}
use Rattle.wire_io.proofs.reading.read_all.Goals as goal

-- before the first piece
pub loop-content-init : goal.loop-content-init
loop-content-init g c = record {
  within = omega (arith, c.new-content.ensures.len);
  front = HasRead-empty _ _ _ c.new-content.ensures.items;
  same = search rules;
  faults = refl;
}

-- more than the limit was read
pub returns-then-len-limit-clause-cause : goal.returns-then-len-limit-clause-cause
returns-then-len-limit-clause-cause g c =
    ReadCause-longer _ _ _ _ _ _ _ _ _ _ _ _ c.if-branch.true c.in_ok-read_piece.ensures.gives c.in_ok-read_piece.ensures.cause
    (grind (arith, common_steps)) (grind (arith, common_steps)) c.loop-content.invariant.faults c.loop-content.invariant.same
