use Rattle.std.proofs.Common.{refl}
use Rattle.ldif_records.proofs.lines.PhysicalLemmas.{physical_from-cut}
use Rattle.ldif_records.proofs.content.AfterLemmas.{after_one}
use Rattle.ldif_records.proofs.lines.first_line.Goals as goal

pub returns-clause-exact : goal.returns-clause-exact
returns-clause-exact c = physical_from-cut c.args.text.now c.first_line-taken.result.0.now c.args.at c.first_line-taken.result.1 (rw (← c.split_at.ensures.back) c.first_line-taken.ensures.exact)

pub returns-clause-passed : goal.returns-clause-passed
returns-clause-passed c =
    after_one c.args.text.now c.first_line-taken.result.0.now c.args.at _ (physical_from-cut c.args.text.now c.first_line-taken.result.0.now c.args.at c.first_line-taken.result.1 (rw (← c.split_at.ensures.back) c.first_line-taken.ensures.exact)) refl
