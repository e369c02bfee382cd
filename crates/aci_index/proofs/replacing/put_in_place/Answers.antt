-- The change is of the entry's own lists alone.
use Rattle.std.proofs.Common.{List, false, ap, sym, subst, ◌∙◌}
use Rattle.std.specs.Option.{option_map_or}
use Rattle.dir_tree.specs.tree.Numbered.{Numbered, IsNumberedTree}
use Rattle.aci_lists.specs.kept.Lists.{AreOf}
use Rattle.aci_lists.specs.kept.Holdings.{IsHeld}
use Rattle.aci_index.specs.Steps.{is_own_change}
use Rattle.aci_index.proofs.replacing.OwnLemmas.{held-own}
use Rattle.aci_index.proofs.replacing.put_in_place.Goals as goal

pub returns-clause-held : goal.returns-clause-held
returns-clause-held c =
    let number = c.args.successor.number.0 in
    let rows = c.args.tree.now in
    let entry = c.args.successor.entry in
    let done = c.in_ok-old.ensures in
    let own = sym (ap (λ o. option_map_or (λ old. is_own_change old entry) o false) done.exact.0.found) ∙ c.requires.own in
    let also = subst IsNumberedTree done.exact.0.left c.entries_form_a_tree-2.ensures.exact in
    let made = c.put_own.new.held in
    subst (λ (new : List Numbered). IsHeld made new) (sym done.exact.0.left)
    (held-own number c.in_ok-old.old entry rows c.args.held.now made c.entries_form_a_tree.ensures.exact also done.exact.0.found own c.requires.held
    c.put_own.ensures.others (subst (AreOf rows entry) (sym c.put_own.ensures.own) c.requires.lists))
