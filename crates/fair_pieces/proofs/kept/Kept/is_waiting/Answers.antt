use Rattle.std.proofs.Common.{◌<◌, length, subst, sym}
use Rattle.fair_pieces.proofs.laws.AdvanceLemmas.{few_given}
use Rattle.fair_pieces.proofs.kept.Kept.is_waiting.Goals as goal

-- there are more octets than a short header has
pub returns-then-octets-gt5 : goal.returns-then-octets-gt5
returns-then-octets-gt5 c = sym (few_given c.args.self.now.left c.args.self.now.octets (subst (λ xs. 5 < length xs) c.octets-octets.ensures c.if-octets-gt5.true))
