use Rattle.std.proofs.Common.{◌≡◌, drop}
use Rattle.match_rules.specs.Spaces.{cut_front}
use Rattle.match_rules.proofs.spaces.front_spaces.Given as goal

abbrev pub invariant-loop-index : goal.invariant-loop-index
invariant-loop-index l = cut_front (drop l.index l.text) ≡ cut_front l.text
