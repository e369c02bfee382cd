use Rattle.std.proofs.Common.{◌+◌, sym, ◌∙◌, ap, drop, Some, Ok}
use Rattle.std.proofs.lemmas.List.{drop_all}
use Rattle.dir_tree.proofs.base_laws_proofs.Theorems.{next-item}
use Rattle.change_records.specs.Reading.{attribute_with, attributes_in}
use Rattle.change_records.proofs.JoinLemmas.{joined}
use Rattle.change_records.proofs.adds.AddSteps.{attributes-step, attributes-fault, attributes-done}
use Rattle.change_records.proofs.adds.attributes_in.Goals as goal

-- a line is bad
pub returns-in-Err : goal.returns-in-Err
returns-in-Err c =
    attributes-fault c.loop-line.whole.items c.loop-line.before c.args.lines.now c.loop-line.line-index c.line-item.result c.in-Err.bad _
    (next-item c.args.lines.now c.loop-line.line-index c.line-item.result c.loop-line-test.true c.line-item.is) c.loop-line.invariant c.in-Err.ensures

-- one line more
pub loop-line-preserved : goal.loop-line-preserved
loop-line-preserved c =
    c.loop-line.invariant
    ∙ attributes-step c.loop-line.whole.items c.loop-line.before c.args.lines.now c.loop-line.line-index c.line-item.result c.in-Ok.read
    (next-item c.args.lines.now c.loop-line.line-index c.line-item.result c.loop-line-test.true c.line-item.is) c.in-Ok.ensures
    ∙ ap (λ items. joined items (attributes_in (Some (attribute_with c.loop-line.before c.in-Ok.read)) (drop (c.loop-line.line-index + 1) c.args.lines.now))) (sym c.in_ok-attribute_with-in-Ok.ensures.whole)
    ∙ ap (λ next. joined c.attribute_with.new.whole.items (attributes_in (Some next) (drop (c.loop-line.line-index + 1) c.args.lines.now))) (sym c.in_ok-attribute_with-in-Ok.ensures.next)

-- no line is left
pub returns : goal.returns
returns c =
    c.loop-line.invariant
    ∙ attributes-done c.loop-line.whole.items c.loop-line.before _ (drop_all c.loop-line.line-index c.args.lines.now c.loop-line-test.false)
    ∙ ap Ok (sym (c.from_vec.ensures.exact ∙ c.in_ok-put_last.ensures))
