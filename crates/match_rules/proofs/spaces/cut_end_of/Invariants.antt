use Rattle.std.proofs.Common.{◌≡◌, vec_len}
use Rattle.match_rules.specs.Spaces.{cut_end}
use Rattle.match_rules.proofs.spaces.cut_end_of.Given as goal

abbrev pub invariant-loop-text : goal.invariant-loop-text
invariant-loop-text l = cut_end l.text.items ≡ cut_end l.initial.text.items

abbrev pub decreases-loop-text : goal.decreases-loop-text
decreases-loop-text l = vec_len l.text
