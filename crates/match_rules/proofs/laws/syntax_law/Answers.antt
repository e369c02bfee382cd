-- A value and a part have keys, and other octets have none.
use Rattle.match_rules.proofs.keys.KeysLemmas.{key_of-value, key_of-other, part_key_of-part, part_key_of-other}
use Rattle.match_rules.proofs.laws.syntax_law.Goals as goal

pub returns-clause-value : goal.returns-clause-value
returns-clause-value c = λ rule octets. (λ none is. absurd (cc (key_of-value rule octets is, none)), key_of-other rule octets)

pub returns-clause-part : goal.returns-clause-part
returns-clause-part c = λ rule part octets. (λ none is. absurd (cc (part_key_of-part rule part octets is, none)), part_key_of-other rule part octets)
