-- All entries are those from the suffix on.
use Rattle.std.proofs.Common.{sym}
use Rattle.dir_tree.specs.Points.{is_specific_point}
use Rattle.dir_tree.specs.tree.Numbered.{entries_of}
use Rattle.data_advice.specs.Advice.{is_outside}
use Rattle.data_advice.proofs.notes.WalkLemmas.{any_below, kept_below, none_below}
use Rattle.data_advice.proofs.points.put_points.Goals as goal

pub returns-in-Some-clause-ok : goal.returns-in-Some-clause-ok
returns-in-Some-clause-ok c =
    let rows = c.args.tree.now in
    let is = sym c.in-Some.ensures.exact in
    let tree = c.entries_form_a_tree.ensures.exact in
    rw (any_below is_specific_point rows c.in-Some.suffix.0 tree is, kept_below (is_outside (entries_of rows)) rows c.in-Some.suffix.0 tree is)
    at c.put_points_from.ensures.ok

pub returns-in-None-clause-ok : goal.returns-in-None-clause-ok
returns-in-None-clause-ok c = rw (none_below c.args.tree.now (sym c.in-None.ensures.exact)) c.put_no_point.ensures.ok
