-- The closure is the test of `single_spaces`.
use Rattle.std.proofs.Common.{rules, ◌&&◌}
use Rattle.std.proofs.lemmas.Fn.{dedup_same}
use Rattle.match_rules.specs.Spaces.{is_space}
use Rattle.match_rules.proofs.spaces.join_spaces.Goals as goal

pub returns : goal.returns
returns c = dedup_same _ (λ octet before. is_space octet && is_space before) _ (λ x y b f' x' y' k. search rules) _ _ c.dedup_by.ensures.filtered
