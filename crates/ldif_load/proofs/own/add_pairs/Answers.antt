use Rattle.std.proofs.Common.{◌≡◌, ◌∙◌, sym, ap, drop, ◌+◌}
use Rattle.std.proofs.lemmas.List.{drop_all}
use Rattle.dir_tree.specs.attributes.Changes.{with_value}
use Rattle.ldif_load.specs.load.Loading.{with_pairs}
use Rattle.ldif_load.proofs.own.OwnLemmas.{pairs-step, pairs-done}
use Rattle.ldif_load.proofs.own.add_pairs.Goals as goal

-- the pair's value is there
pub loop-pair-preserved : goal.loop-pair-preserved
loop-pair-preserved c =
    let added : c.push.new.self ≡ with_value c.pair-item.result.kind c.pair-item.result.value c.loop-pair.entry =
    c.in_ok-_added.ensures.ok
    ∙ ap (λ kind. with_value kind c.in_ok-copy.field-0 c.loop-pair.entry) c.kind.ensures.exact
    ∙ ap (λ value. with_value c.pair-item.result.kind value c.loop-pair.entry) (c.in_ok-copy.ensures.ok ∙ c.value.ensures.exact) in
    c.loop-pair.invariant
    ∙ pairs-step c.loop-pair.entry c.args.pairs.now c.loop-pair.pair-index c.pair-item.result c.loop-pair-test.true c.pair-item.is
    ∙ ap (λ entry. with_pairs entry (drop (c.loop-pair.pair-index + 1) c.args.pairs.now)) (sym added)

-- no pair is left
pub returns : goal.returns
returns c = record {
  ok = sym (c.loop-pair.invariant ∙ pairs-done c.loop-pair.entry _ (drop_all c.loop-pair.pair-index c.args.pairs.now c.loop-pair-test.false));
}
