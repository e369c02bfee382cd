-- Front by front: the one that passes is matched, and where none does, none is.
use Rattle.std.proofs.Common.{arith, subst}
use Rattle.dir_tree.specs.tree.Numbered.{entries_of, IsNumberedTree}
use Rattle.acdf_filters.specs.Granted.{is_disclosed}
use Rattle.directory.proofs.nearest.NearestLemmas.{matched-found, matched-none, hidden-next}
use Rattle.directory.proofs.nearest.matched.Goals as goal

pub returns-in-Some : goal.returns-in-Some
returns-in-Some g c =
    let rows = g.D.Dir.rows c.args.asking.now.dir.now in
    let tree : IsNumberedTree rows = subst IsNumberedTree c.tree.ensures.exact c.entries_form_a_tree.ensures.exact in
    record {
      exact = matched-found c.args.asking.now.who.now c.loop-len.len c.args.name.now rows c.in-Some.entry.now tree (omega arith) c.loop-len.invariant.within c.in-Some.ensures.exact c.loop-len.invariant.hidden;
    }

pub loop-len-preserved : goal.loop-len-preserved
loop-len-preserved g c =
    let rows = g.D.Dir.rows c.args.asking.now.dir.now in
    let tree : IsNumberedTree rows = subst IsNumberedTree c.tree.ensures.exact c.entries_form_a_tree.ensures.exact in
    record {
      within = omega arith;
      hidden = hidden-next (is_disclosed (entries_of rows) c.args.asking.now.who.now) c.loop-len.len c.args.name.now rows tree (omega arith) c.loop-len.invariant.within c.in_default.ensures.exact c.loop-len.invariant.hidden;
    }

pub returns : goal.returns
returns g c =
    let rows = g.D.Dir.rows c.args.asking.now.dir.now in
    record {
      exact = matched-none c.args.asking.now.who.now c.loop-len.len c.args.name.now rows (omega arith) c.loop-len.invariant.hidden;
    }
