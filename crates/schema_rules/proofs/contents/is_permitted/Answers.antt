-- What the classes permit is marked.
use Rattle.std.proofs.Common.{◌||◌, sym, ap, ◌∙◌}
use Rattle.aci_item.specs.Rules.{is_permitted_besides}
use Rattle.schema_rules.proofs.contents.is_permitted.Goals as goal

pub returns-then-is_marked : goal.returns-then-is_marked
returns-then-is_marked c =
    let marked = sym c.is_marked.ensures.exact ∙ c.if-is_marked.true in
    record {
      exact = c.if-is_marked.true
          ∙ sym (ap (λ b. b || is_permitted_besides c.args.kind.0 c.args.entry.now) (sym (c.requires c.args.kind.0) ∙ marked));
    }

pub returns-else-is_marked : goal.returns-else-is_marked
returns-else-is_marked c =
    let unmarked = sym c.is_marked.ensures.exact ∙ c.if-is_marked.false in
    record {
      exact = c.is_permitted_besides.ensures.exact
          ∙ sym (ap (λ b. b || is_permitted_besides c.args.kind.0 c.args.entry.now) (sym (c.requires c.args.kind.0) ∙ unmarked));
    }
