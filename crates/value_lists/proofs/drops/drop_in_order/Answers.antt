-- A value taken out leaves the same to be taken out; where no value has the key, none is.
use Rattle.std.proofs.Common.{ap, ◌∙◌, not, filter, bytes_eq}
use Rattle.value_lists.proofs.drops.DropLemmas.{filter-step, filter-last}
use Rattle.value_lists.proofs.drops.drop_in_order.Goals as goal

pub loop-place-preserved : goal.loop-place-preserved
loop-place-preserved c = record {
  order = c.drop_at.ensures.order;
  left =
      ap (filter (λ value. not (bytes_eq c.args.key.now value.key))) c.drop_at.ensures.exact
      ∙ filter-step c.args.key.now c.loop-place.values.items c.deref.result.now c.in-Some.place c.deref.ensures.value
      c.in-Some.ensures.within c.in-Some.ensures.key
      ∙ c.loop-place.invariant.left;
}

pub returns-clause-exact : goal.returns-clause-exact
returns-clause-exact c =
    filter-last c.args.key.now c.loop-place.values.items c.deref.result.now c.deref.ensures.value
    c.in_default.ensures.found
    ∙ c.loop-place.invariant.left
