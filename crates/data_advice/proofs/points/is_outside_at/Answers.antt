-- The points of the entry are as many as their numbers.
use Rattle.std.proofs.Common.{◌≡◌, ◌==◌, ◌∙◌, ℕ, Option, Some, false, sym, ap, length}
use Rattle.std.specs.Prelude.{map}
use Rattle.std.specs.Option.{option_map_or}
use Rattle.std.proofs.lemmas.List.{length-map}
use Rattle.dir_tree.specs.Entry.{EntryInformation}
use Rattle.dir_tree.specs.tree.Numbered.{entry_of, entries_of}
use Rattle.data_advice.specs.Advice.{is_outside}
use Rattle.data_advice.proofs.points.PointLemmas.{as_many}
use Rattle.data_advice.proofs.points.is_outside_at.Goals as goal

pub returns-in_ok-points-in-Some-clause-ok : goal.returns-in_ok-points-in-Some-clause-ok
returns-in_ok-points-in-Some-clause-ok c =
    let rows = c.args.tree.now in
    let entry = c.in-Some.field-0.now in
    let known : entry_of c.args.no.0 rows ≡ Some entry = sym c.in-Some.ensures.exact in
    let items = c.in_ok-points-in-Some.points.items in
    c.are_none.ensures.exact
    ∙ ap (λ (n : ℕ). n == 0) (ap length c.as_slice.ensures.value ∙ sym (length-map items (λ no. no.0))
    ∙ sym (as_many rows (map (λ no. no.0) items) c.in_ok-points-in-Some.ensures.live)
    ∙ ap length (c.in_ok-points-in-Some.ensures.exact entry known))
    ∙ ap (λ (found : Option EntryInformation). option_map_or (is_outside (entries_of rows)) found false) (sym known)
