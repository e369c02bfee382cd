-- With permission the items' answers say what the filter is.
use Rattle.std.proofs.Common.{◌∙◌}
use Rattle.filter_match.proofs.evaluating.JudgingLemmas.{judged-exact}
use Rattle.filter_match.proofs.evaluating.ask.Goals as goal

pub returns : goal.returns
returns g c = record {
  exact = c.judge.ensures.exact ∙ judged-exact (g.A.Allow.permits c.args.allow.now) c.args.entry.now c.args.question c.args.filter.now;
}
