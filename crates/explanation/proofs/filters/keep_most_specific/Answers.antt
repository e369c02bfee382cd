-- `retain` keeps those of the most specific class.
use Rattle.std.proofs.Common.{◌≡◌, rules, ◌==◌, List, Some, map, sym, ap, ◌∙◌}
use Rattle.std.specs.Prelude.{min}
use Rattle.std.specs.List.{reduce}
use Rattle.std.proofs.lemmas.Fn.{filter_same}
use Rattle.explanation.specs.declared.candidates.Candidate.{Candidate}
use Rattle.explanation.proofs.filters.LowestLemmas.{lowest-reduced}
use Rattle.explanation.proofs.filters.keep_most_specific.Goals as goal

pub returns-in-Some : goal.returns-in-Some
returns-in-Some c = record {
  exact =
      let before = c.args.candidates.now.items in
      let least : reduce min (map (λ (one : Candidate). one.facts.rank) before) ≡ Some c.in-Some.rank =
      sym (c.lowest_rank.ensures.exact ∙ ap (λ (xs : List Candidate). reduce min (map (λ one. one.facts.rank) xs)) c.deref.ensures.value) ∙ c.in-Some.is in
      filter_same _ (λ one. one.facts.rank == c.in-Some.rank) _ (λ one passes after call. search rules) _ _ c.retain.ensures.filtered
      ∙ sym (lowest-reduced (λ (one : Candidate). one.facts.rank) c.in-Some.rank before least);
}
