-- What the walk says no to without the value is True of no entry without it.
use Rattle.std.proofs.Common.{sym, ◌∙◌}
use Rattle.filter_match.proofs.needs.NeedsLemmas.{without-false}
use Rattle.filter_match.proofs.prepared.Prepared.need.Goals as goal

pub returns-else-may_be_true_without-clause-needed : goal.returns-else-may_be_true_without-clause-needed
returns-else-may_be_true_without-clause-needed c =
    without-false c.in_ok-need.need.kind.0 c.in_ok-need.need.key.now c.args.self.now
    (sym c.may_be_true_without.ensures.exact ∙ c.if-may_be_true_without.false)
