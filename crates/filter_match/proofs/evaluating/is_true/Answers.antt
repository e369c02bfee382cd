-- What no permission makes True is not.
use Rattle.std.proofs.Common.{sym, ◌∙◌}
use Rattle.filter_match.proofs.evaluating.JudgingLemmas.{possible-false}
use Rattle.filter_match.proofs.evaluating.is_true.Goals as goal

pub returns-else-may_be_true : goal.returns-else-may_be_true
returns-else-may_be_true g c = record {
  exact =
      c.if-may_be_true.false ∙ sym (possible-false (g.A.Allow.permits c.args.allow.now) c.args.entry.now c.args.filter.now
      (sym c.may_be_true.ensures.exact ∙ c.if-may_be_true.false));
}
