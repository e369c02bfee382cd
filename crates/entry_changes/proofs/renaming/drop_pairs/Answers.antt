use Rattle.std.proofs.Common.{sym, ap, ◌∙◌, drop, ◌+◌}
use Rattle.std.proofs.lemmas.List.{drop_all}
use Rattle.dir_tree.proofs.base_laws_proofs.Theorems.{next-item}
use Rattle.entry_changes.specs.Renaming.{gone_among, without_pairs}
use Rattle.entry_changes.proofs.effects.EffectLemmas.{pairs-step, pairs-done}
use Rattle.entry_changes.proofs.renaming.drop_pairs.Goals as goal

-- one pair more
pub loop-pair-preserved : goal.loop-pair-preserved
loop-pair-preserved c =
    let left = next-item c.args.old.now c.loop-pair.pair-index c.pair-item.result c.loop-pair-test.true c.pair-item.is in
    c.loop-pair.invariant
    ∙ pairs-step c.loop-pair.entry c.args.old.now c.args.new.now c.loop-pair.pair-index c.pair-item.result left
    ∙ ap (λ entry. without_pairs entry (gone_among (drop (c.loop-pair.pair-index + 1) c.args.old.now) c.args.new.now)) (sym c.drop_pair.ensures.exact)

-- no pair is left
pub returns : goal.returns
returns c = record {
  exact = sym (c.loop-pair.invariant ∙ pairs-done c.loop-pair.entry _ c.args.new.now (drop_all c.loop-pair.pair-index c.args.old.now c.loop-pair-test.false));
}
