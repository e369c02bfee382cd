use Rattle.std.proofs.Common.{arith}
use Rattle.std.proofs.lemmas.Grind.{common_steps}
use Rattle.wire_io.proofs.reading.ReadLemmas.{PieceGives-more, PieceGives-whole}
use Rattle.wire_io.proofs.reading.read_piece.Goals as goal

-- the file ends here
pub returns-then-count-eq0-clause-gives : goal.returns-then-count-eq0-clause-gives
returns-then-count-eq0-clause-gives g c =
    PieceGives-whole _ _ _ _ _ _ (grind (arith, common_steps)) (grind arith) c.requires.so_far c.in-Ok.ensures.gives

-- a piece came
pub returns-clause-gives : goal.returns-clause-gives
returns-clause-gives g c =
    PieceGives-more _ _ _ _ _ _ _ (grind (arith, common_steps)) (grind (arith, common_steps)) (grind arith) c.in-Ok.ensures.fits c.requires.so_far c.in-Ok.ensures.gives
