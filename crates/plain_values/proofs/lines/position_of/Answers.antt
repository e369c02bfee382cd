use Rattle.std.proofs.Common.{subst}
use Rattle.memchr.specs.Find.{IsFirstByte, is_byte}
use Rattle.plain_values.proofs.lines.PositionLemmas.{position_or_len-found, position_or_len-nowhere}
use Rattle.plain_values.proofs.lines.position_of.Goals as goal

-- the search found the octet
pub returns-in-Some-clause-exact : goal.returns-in-Some-clause-exact
returns-in-Some-clause-exact c =
    position_or_len-found c.args.wanted c.in-Some.place c.args.octets.now (subst (IsFirstByte (is_byte c.args.wanted) c.args.octets.now) c.in-Some.is c.memchr.ensures)

-- it found none
pub returns-in-None-clause-exact : goal.returns-in-None-clause-exact
returns-in-None-clause-exact c =
    position_or_len-nowhere c.args.wanted c.args.octets.now (subst (IsFirstByte (is_byte c.args.wanted) c.args.octets.now) c.in-None.is c.memchr.ensures)
