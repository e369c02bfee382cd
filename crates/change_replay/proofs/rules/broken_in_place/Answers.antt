-- The rules are those of the target's place.
use Rattle.std.proofs.Common.{◌≡◌, ◌∙◌, Some, ap, sym}
use Rattle.op_add_delete.specs.schema_rules.Checking.{replaced, others}
use Rattle.acdf_filters.specs.aci_item.Rules.{broken_rule}
use Rattle.change_replay.specs.Applied.{rule_refusal}
use Rattle.change_replay.proofs.rules.PlaceSteps.{broken_rule-beside}
use Rattle.change_replay.proofs.rules.broken_in_place.Goals as goal

-- none is broken
pub returns-in-Ok : goal.returns-in-Ok
returns-in-Ok c =
    let beside = broken_rule-beside c.args.tree.now c.args.target.number.0 c.args.target.entry.now c.args.entry.now c.entries_form_a_tree.ensures.exact c.requires.found in
    record { ok = ap rule_refusal (sym c.in-Ok.ensures.ok ∙ beside) }

-- one is
pub returns-in-Err-Rule : goal.returns-in-Err-Rule
returns-in-Err-Rule c =
    let number = c.args.target.number.0 in
    let beside = broken_rule-beside c.args.tree.now number c.args.target.entry.now c.args.entry.now c.entries_form_a_tree.ensures.exact c.requires.found in
    let told : broken_rule (replaced (Some number) c.args.tree.now) (others (Some number) c.args.tree.now) c.args.entry.now ≡ Some c.in-Err-Rule.rule =
    rw c.in-Err-Rule.field-0-is at c.in-Err-Rule.ensures.rule in
    record { ok = ap (λ code. Some code) c.rule_code.ensures.exact ∙ ap rule_refusal (sym told ∙ beside) }
