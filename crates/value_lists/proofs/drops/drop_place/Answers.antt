-- `retain` keeps the other places.
use Rattle.std.proofs.Common.{not, ◌==◌, rules}
use Rattle.std.proofs.lemmas.Fn.{filter_same}
use Rattle.value_lists.proofs.drops.drop_place.Goals as goal

pub returns : goal.returns
returns c = record {
  exact =
      filter_same _ (λ other. not (c.args.place == other)) _ (λ other passes after call. search rules) _ _
      c.retain.ensures.filtered;
}
