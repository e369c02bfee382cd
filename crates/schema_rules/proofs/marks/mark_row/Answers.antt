-- What the row requires, and then what it allows.
use Rattle.schema_rules.proofs.contents.ContentLemmas.{marked-both, of_row}
use Rattle.schema_rules.proofs.marks.mark_row.Goals as goal

pub returns : goal.returns
returns c = record {
  exact = marked-both _ _ _ _ _ _ c.mark_all.ensures.exact c.mark_all-2.ensures.exact
      (λ number. of_row number _ _ _ _ c.required.ensures.exact c.allowed.ensures.exact);
}
