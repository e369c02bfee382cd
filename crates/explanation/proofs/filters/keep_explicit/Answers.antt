-- `retain` keeps those that pass, where one does.
use Rattle.std.proofs.Common.{◌≡◌, rules, true, List, filter, sym, ap, ◌∙◌}
use Rattle.std.specs.List.{list_any}
use Rattle.std.proofs.lemmas.Bool.{cond-true}
use Rattle.std.proofs.lemmas.Fn.{filter_same}
use Rattle.explanation.specs.declared.candidates.Candidate.{Candidate}
use Rattle.explanation.proofs.filters.keep_explicit.Goals as goal

pub returns-then-is_any_explicit : goal.returns-then-is_any_explicit
returns-then-is_any_explicit c = record {
  exact =
      let before = c.args.candidates.now.items in
      let test : list_any (λ (one : Candidate). one.facts.explicit) before ≡ true =
      sym (c.is_any_explicit.ensures.exact ∙ ap (λ (xs : List Candidate). list_any (λ one. one.facts.explicit) xs) c.deref.ensures.value) ∙ c.if-is_any_explicit.true in
      filter_same _ (λ one. one.facts.explicit) _ (λ one passes after call. search rules) _ _ c.retain.ensures.filtered
      ∙ sym (cond-true (list_any (λ (one : Candidate). one.facts.explicit) before) (filter (λ (one : Candidate). one.facts.explicit) before) before test);
}
