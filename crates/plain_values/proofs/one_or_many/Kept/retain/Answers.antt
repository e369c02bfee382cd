-- The one item is kept where the test answers true of it.
use Rattle.std.proofs.Common.{◌∷◌, [], ap, sym, ◌∙◌, subst, refl}
use Rattle.std.specs.Fn.{CalledAt}
use Rattle.std.specs.List.{items_where_true}
use Rattle.std.specs.List.Retain.{IsFiltered}
use Rattle.plain_values.specs.Items.{items_in}
use Rattle.plain_values.proofs.one_or_many.ItemLemmas.{IsFiltered-one}
use Rattle.plain_values.proofs.one_or_many.Kept.retain.Goals as goal

pub returns-then-not-keep : goal.returns-then-not-keep
returns-then-not-keep g c = record {
  filtered =
      subst (λ kept. IsFiltered (CalledAt g.F.FnMut) c.args.keep (items_in kept) c.new.result.items) (sym c.in-One.is)
      (IsFiltered-one (CalledAt g.F.FnMut) c.args.keep c.keep.new.self c.in-One.item c.keep.result c.new.result.items (record { shown = _; shows = refl; called = c.keep.ensures })
      (c.new.ensures.items ∙ ap (λ answer. items_where_true (answer ∷ []) (c.in-One.item ∷ [])) (sym c.if-not-keep.true)));
}

pub returns-in-One : goal.returns-in-One
returns-in-One g c = record {
  filtered =
      subst (λ kept. IsFiltered (CalledAt g.F.FnMut) c.args.keep (items_in kept) (c.in-One.item ∷ [])) (sym c.in-One.is)
      (IsFiltered-one (CalledAt g.F.FnMut) c.args.keep c.keep.new.self c.in-One.item c.keep.result (c.in-One.item ∷ []) (record { shown = _; shows = refl; called = c.keep.ensures })
      (ap (λ answer. items_where_true (answer ∷ []) (c.in-One.item ∷ [])) (sym c.if-not-keep.false)));
}
