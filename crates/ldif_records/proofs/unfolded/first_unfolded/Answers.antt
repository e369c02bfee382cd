use Rattle.std.proofs.Common.{sym, ◌∙◌}
use Rattle.ldif_records.proofs.unfolded.LogicalLemmas.{logical-alone, logical-joined}
use Rattle.ldif_records.proofs.content.AfterLemmas.{after_both}
use Rattle.ldif_records.proofs.unfolded.first_unfolded.Goals as goal

-- no continuation follows
pub returns-then-not-goes_on-clause-exact : goal.returns-then-not-goes_on-clause-exact
returns-then-not-goes_on-clause-exact c =
    logical-alone c.args.text.now c.args.at c.first_line.result.1 _ c.first_line.ensures.exact (sym c.goes_on.ensures.exact ∙ c.if-not-goes_on.true)

-- the continuations were joined
pub returns-clause-exact : goal.returns-clause-exact
returns-clause-exact c =
    logical-joined c.args.text.now c.args.at c.first_line.result.1 c.in_ok-octets.after _ c.in_ok-octets.octets c.first_line.ensures.exact
    c.in_ok-octets.ensures.octets c.in_ok-octets.ensures.rest

pub returns-clause-passed : goal.returns-clause-passed
returns-clause-passed c = after_both c.args.text.now c.args.at _ _ c.first_line.ensures.passed c.in_ok-octets.ensures.passed
