-- Octets that stand for themselves are their own key.
use Rattle.match_rules.proofs.own.OwnLemmas.{key_of-own}
use Rattle.match_rules.proofs.own.is_own_key.Goals as goal

pub returns-clause-key : goal.returns-clause-key
returns-clause-key c = λ is. key_of-own c.args.rule c.args.octets.now (c.is_own.ensures.0 is)
