use Rattle.std.proofs.Common.{◌∙◌, sym, ap, arith}
use Rattle.ldif_records.specs.lines.Lines.{begins_with}
use Rattle.ldif_records.proofs.lines.PhysicalLemmas.{goes_on-from, begins_with-filled}
use Rattle.ldif_records.proofs.lines.goes_on.Goals as goal

pub returns-clause-exact : goal.returns-clause-exact
returns-clause-exact c =
    c.begins_with.ensures ∙ ap (λ rest. begins_with 32 rest) c.split_at.ensures.back ∙ sym (goes_on-from c.args.text.now c.args.at)

pub returns-clause-within : goal.returns-clause-within
returns-clause-within c = λ is.
    omega (arith, begins_with-filled 32 c.split_at.result.1.now (sym c.begins_with.ensures ∙ is), c.split_at.ensures.back_len)
