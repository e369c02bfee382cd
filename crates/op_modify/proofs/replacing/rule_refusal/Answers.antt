-- The rules are those of the target's place.
use Rattle.std.proofs.Common.{◌≡◌, ◌∙◌, Some, ap, sym, subst}
use Rattle.dir_tree.specs.tree.Numbered.{IsNumberedTree}
use Rattle.op_add_delete.specs.schema_rules.Checking.{replaced, others}
use Rattle.acdf_filters.specs.aci_item.Rules.{broken_rule}
use Rattle.op_add_delete.specs.read_model.Views.{result_of}
use Rattle.op_add_delete.specs.adding.Adding.{rule_refusal}
use Rattle.op_modify.proofs.modifying.ChangeLemmas.{broken_rule-beside}
use Rattle.op_modify.proofs.replacing.rule_refusal.Goals as goal

-- none is broken
pub returns-in-Ok : goal.returns-in-Ok
returns-in-Ok g c =
    let target = c.args.target.now in
    let rows = g.D.Dir.rows target.asking.now.dir.now in
    let good : IsNumberedTree rows = subst IsNumberedTree c.tree-tree.ensures.exact c.entries_form_a_tree.ensures.exact in
    let beside = broken_rule-beside rows target.number.0 target.entry.now c.args.entry.now good target.found in
    record { ok = ap rule_refusal (sym (rw c.tree-tree.ensures.exact at c.in-Ok.ensures.ok) ∙ beside) }

-- one is
pub returns-in-Err-Rule : goal.returns-in-Err-Rule
returns-in-Err-Rule g c =
    let target = c.args.target.now in
    let rows = g.D.Dir.rows target.asking.now.dir.now in
    let number = target.number.0 in
    let good : IsNumberedTree rows = subst IsNumberedTree c.tree-tree.ensures.exact c.entries_form_a_tree.ensures.exact in
    let beside = broken_rule-beside rows number target.entry.now c.args.entry.now good target.found in
    let told : broken_rule (replaced (Some number) rows) (others (Some number) rows) c.args.entry.now ≡ Some c.in-Err-Rule.rule =
    rw c.tree-tree.ensures.exact at (rw c.in-Err-Rule.field-0-is at c.in-Err-Rule.ensures.rule) in
    record {
      ok = ap (λ result. Some result) (c.result_of.ensures.exact ∙ ap result_of c.rule_code.ensures.exact)
          ∙ ap rule_refusal (sym told ∙ beside);
    }
