-- The highest so far, and those that are left.
use Rattle.std.proofs.Common.{◌≡◌, map, drop}
use Rattle.std.specs.Prelude.{max}
use Rattle.acdf_filters.specs.users.Choices.{greatest}
use Rattle.explanation.proofs.filters.highest_precedence.Given as goal

abbrev pub invariant-loop-one : goal.invariant-loop-one
invariant-loop-one l =
    max l.precedence (greatest (map (λ one. one.facts.precedence) (drop l.one-index l.candidates)))
    ≡ greatest (map (λ one. one.facts.precedence) l.candidates)
