-- What is left of the tuples that count is what the filters leave.
use Rattle.std.proofs.Common.{List, map, ap, ◌∙◌}
use Rattle.explanation.specs.declared.steps.KeptTuple.{KeptTuple}
use Rattle.explanation.specs.declared.candidates.Candidate.{Candidate}
use Rattle.explanation.specs.Candidates.{kept_from, all_grant}
use Rattle.explanation.proofs.explaining.ExplainedLemmas.{explained}
use Rattle.explanation.proofs.explaining.explain_question.Goals as goal

pub returns : goal.returns
returns c = record {
  ok = explained c.args.question.now c.in_ok-candidates.candidates.items
      (record { counts = c.keep_deciding-counts.result; kept = c.in_ok-kept.kept; granted = c.all_grant-granted.result })
      c.in_ok-candidates.ensures.ok c.keep_deciding-counts.ensures.counts
      (c.in_ok-kept.ensures.ok ∙ ap (λ (xs : List Candidate). map kept_from xs) c.keep_deciding-counts.ensures.exact)
      (c.all_grant-granted.ensures.exact ∙ ap (λ (xs : List KeptTuple). all_grant xs) c.deref.ensures.value);
}
