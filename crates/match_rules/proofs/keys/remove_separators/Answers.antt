-- The closure is the test of `without_separators`.
use Rattle.std.proofs.Common.{rules, not}
use Rattle.std.proofs.lemmas.Fn.{filter_same}
use Rattle.match_rules.specs.Keys.{is_separator}
use Rattle.match_rules.proofs.keys.remove_separators.Goals as goal

pub returns : goal.returns
returns c = filter_same _ (λ octet. not (is_separator octet)) _ (λ x b f' k. search rules) _ _ c.retain.ensures.filtered
