-- By the walk's lemmas.
use Rattle.std.proofs.Common.{◌≡◌, Some, sym, ap, ◌∙◌}
use Rattle.std.specs.Option.{option_map}
use Rattle.std.proofs.lemmas.Option.{same_Some}
use Rattle.admin_scope.specs.Walking.{walk_of}
use Rattle.admin_scope.proofs.subentries.ListLemmas.{ok_from}
use Rattle.admin_scope.proofs.subentries.WalkLemmas.{areas-gathered, live-gathered}
use Rattle.admin_scope.proofs.point_list.areas.Goals as goal

pub returns-in-Some-clause-exact : goal.returns-in-Some-clause-exact
returns-in-Some-clause-exact c = λ entry e.
    let known : Some c.in-Some.entry.now ≡ Some entry = ap (option_map (λ entry. entry.now)) (sym c.in-Some.is) ∙ c.at.ensures.exact ∙ e in
    let named = c.name.ensures.exact ∙ ap (λ entry. entry.name) (same_Some c.in-Some.entry.now entry known) in
    ok_from _ _ (λ found h. areas-gathered c.args.tree.now c.entries_form_a_tree.ensures.exact entry _ (h ∙ ap (λ name. walk_of name c.args.tree.now) named)) c.gather.result c.gather.ensures.exact

pub returns-in-Some-clause-live : goal.returns-in-Some-clause-live
returns-in-Some-clause-live c =
    ok_from _ _ (λ found h. live-gathered c.args.tree.now c.name.result.now _ h) c.gather.result c.gather.ensures.exact
