-- What is weighed of an entry that is to be added is what counts for it.
use Rattle.std.proofs.Common.{◌≡◌, ℕ, true, false, List, [], map, sym, ap, ◌∙◌}
use Rattle.std.specs.Prelude.{flat_map, fold}
use Rattle.std.specs.Option.{option_map_or}
use Rattle.std.proofs.lemmas.Bool.{cond-true, cond-false}
use Rattle.dir_tree.specs.tree.Trees.{superior_name, named_in}
use Rattle.dir_tree.specs.Points.{is_subentry}
use Rattle.dir_tree.specs.tree.Numbered.{IsNumberedTree, entries_of, find_name}
use Rattle.acdf_filters.specs.admin_scope.InForce.{in_force}
use Rattle.acdf_filters.specs.Tuples.{prescriptive_aci, subentry_aci, listed_in, inherited, tuples_new}
use Rattle.acdf_filters.specs.declared.question.Question.{Question}
use Rattle.acdf_filters.specs.Filters.{decided}
use Rattle.acdf_filters.specs.Granted.{placed_new}
use Rattle.acdf_filters.specs.Standing.{initial}
use Rattle.acdf_filters.specs.weighing.Weighing.{asked_of, weighed_for, is_granted}
use Rattle.acdf_filters.proofs.Theorems.{decided-fold}
use Rattle.aci_lists.specs.declared.kept.Kept.{Kept}
use Rattle.acdf_filters.specs.admin_scope.InForce.{AreInForce}
use Rattle.aci_lists.specs.kept.Lists.{IsKept, tuples_at, tuples_below}
use Rattle.aci_lists.proofs.kept.KeptLemmas.{tuple_in, values_tuples, tuples-entries, weighed_at-entries, weighed_below-entry}

-- the state decides on a subentry, by what the entry above it gives
pub decided-above : (question : Question) (kept : List Kept) → IsKept kept question.tree.now → IsNumberedTree question.tree.now → is_subentry question.entry.now ≡ true
    → is_granted (fold (weighed_for question) initial (tuples_below kept (find_name (superior_name question.entry.now.name) question.tree.now)))
    ≡ decided (asked_of question) (placed_new (entries_of question.tree.now) question.who.now question.entry.now)
unfolding tuples_new inherited
decided-above question kept is tree subentry =
    let rows = question.tree.now in
    let entry = question.entry.now in
    let above = option_map_or (listed_in subentry_aci) (named_in (superior_name entry.name) (entries_of rows)) [] in
    let others = flat_map (listed_in prescriptive_aci) (in_force (entries_of rows) entry) in
    ap is_granted (weighed_below-entry question kept rows is tree (superior_name entry.name) initial
    ∙ ap (λ listed. fold (weighed_for question) initial (map tuple_in listed)) (sym (cond-true (is_subentry entry) above others subentry)))
    ∙ decided-fold question (tuples_new (entries_of rows) entry)

-- and on another entry, by the subentries in force for it
pub decided-found : (question : Question) (kept : List Kept) (ids : List ℕ) → IsKept kept question.tree.now → is_subentry question.entry.now ≡ false
    → AreInForce question.tree.now question.entry.now ids
    → is_granted (fold (weighed_for question) initial (tuples_at kept ids))
    ≡ decided (asked_of question) (placed_new (entries_of question.tree.now) question.who.now question.entry.now)
unfolding tuples_new inherited
decided-found question kept ids is ordinary found =
    let rows = question.tree.now in
    let entry = question.entry.now in
    let above = option_map_or (listed_in subentry_aci) (named_in (superior_name entry.name) (entries_of rows)) [] in
    let others = flat_map (listed_in prescriptive_aci) (in_force (entries_of rows) entry) in
    ap is_granted (weighed_at-entries question kept rows is ids found.live initial
    ∙ ap (λ entries. fold (weighed_for question) initial (flat_map (values_tuples prescriptive_aci) entries)) found.exact
    ∙ ap (fold (weighed_for question) initial) (sym (tuples-entries prescriptive_aci (in_force (entries_of rows) entry))
    ∙ ap (map tuple_in) (sym (cond-false (is_subentry entry) above others ordinary))))
    ∙ decided-fold question (tuples_new (entries_of rows) entry)
