-- `retain` keeps those of the highest precedence.
use Rattle.std.proofs.Common.{◌≡◌, rules, ℕ, ◌==◌, List, map, filter, sym, ap, ◌∙◌}
use Rattle.std.proofs.lemmas.Fn.{filter_same}
use Rattle.acdf_filters.specs.users.Choices.{greatest}
use Rattle.acdf_filters.proofs.Theorems.{highest-greatest}
use Rattle.explanation.specs.declared.candidates.Candidate.{Candidate}
use Rattle.explanation.proofs.filters.keep_foremost.Goals as goal

pub returns : goal.returns
returns c = record {
  exact =
      let before = c.args.candidates.now.items in
      let most : c.highest_precedence-precedence.result ≡ greatest (map (λ (one : Candidate). one.facts.precedence) before) =
      c.highest_precedence-precedence.ensures.exact ∙ ap (λ (xs : List Candidate). greatest (map (λ one. one.facts.precedence) xs)) c.deref.ensures.value in
      filter_same _ (λ one. one.facts.precedence == c.highest_precedence-precedence.result) _ (λ one passes after call. search rules) _ _ c.retain.ensures.filtered
      ∙ ap (λ (n : ℕ). filter (λ (one : Candidate). one.facts.precedence == n) before) most
      ∙ sym (highest-greatest (λ (one : Candidate). one.facts.precedence) before);
}
