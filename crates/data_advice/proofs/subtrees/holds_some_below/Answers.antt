-- All entries are those from the suffix on.
use Rattle.std.proofs.Common.{◌∙◌, sym, ap}
use Rattle.std.specs.List.{list_any}
use Rattle.subtree_spec.specs.Subtrees.{subtree_of}
use Rattle.admin_scope.specs.Refinements.{holds}
use Rattle.data_advice.proofs.notes.WalkLemmas.{any_below, none_below}
use Rattle.data_advice.proofs.subtrees.holds_some_below.Goals as goal

pub returns-in-Some-clause-exact : goal.returns-in-Some-clause-exact
returns-in-Some-clause-exact c =
    c.holds_below_from.ensures.exact
    ∙ any_below (holds (subtree_of c.args.subtree.now) c.args.point.now) c.args.tree.now c.in-Some.suffix.0 c.entries_form_a_tree.ensures.exact (sym c.in-Some.ensures.exact)

pub returns-in-None-clause-exact : goal.returns-in-None-clause-exact
returns-in-None-clause-exact c = sym (ap (list_any (holds (subtree_of c.args.subtree.now) c.args.point.now)) (none_below c.args.tree.now (sym c.in-None.ensures.exact)))
