-- One value after the other stays or goes.
use Rattle.std.proofs.Common.{sym, ◌∙◌, ap, ◌++◌, ◌+◌, List, drop, append-nil}
use Rattle.std.proofs.lemmas.List.{drop_all}
use Rattle.dir_tree.proofs.base_laws_proofs.Theorems.{next-item}
use Rattle.dir_tree.specs.dn_names.name.Names.{Keyed}
use Rattle.entry_changes.specs.Steps.{staying}
use Rattle.entry_changes.proofs.effects.TakenLemmas.{staying-next}
use Rattle.entry_changes.proofs.effects.staying.Goals as goal

-- one more
pub loop-value-preserved : goal.loop-value-preserved
loop-value-preserved c =
    c.loop-value.invariant
    ∙ staying-next c.args.gone.now c.loop-value.left.items c.put_staying.new.left.items (drop c.loop-value.value-index c.args.values.now) c.value-item.result (drop (c.loop-value.value-index + 1) c.args.values.now)
    (next-item c.args.values.now c.loop-value.value-index c.value-item.result c.loop-value-test.true c.value-item.is) c.in_ok-put_staying.ensures.ok

-- none is left
pub returns : goal.returns
returns c = record {
  ok = sym (c.loop-value.invariant
      ∙ ap (λ (more : List Keyed). c.loop-value.left.items ++ staying c.args.gone.now more) (drop_all c.loop-value.value-index c.args.values.now c.loop-value-test.false)
      ∙ append-nil c.loop-value.left.items);
}
