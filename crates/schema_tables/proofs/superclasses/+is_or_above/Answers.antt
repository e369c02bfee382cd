-- The class is another one, so the superior is asked.
use Rattle.std.proofs.Common.{◌≡◌, ◌==◌, false, sym, ◌∙◌, rules}
use Rattle.schema_tables.proofs.superclasses.SuperclassLemmas.{list_any-above}
use Rattle.schema_tables.proofs.superclasses.+is_or_above.Goals as goal

pub returns-in-Some : goal.returns-in-Some
returns-in-Some t c =
    let other : (c.args.class.0 == c.args.other.0) ≡ false = search rules in
    record {
      exact =
          c.is_or_above.ensures.exact
          ∙ sym (list_any-above (λ number. c.args.class.0 == number) c.args.other.0 _ other c.in-Some.ensures.exact);
    }
