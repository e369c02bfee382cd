-- From the suffix on all entries are looked at, and without one there are none.
use Rattle.std.proofs.Common.{ap, sym, subst, ◌∙◌}
use Rattle.dir_tree.specs.tree.Numbered.{IsNumberedTree, suffix_of}
use Rattle.hush_laws.proofs.within.ShownLemmas.{shown-from_suffix, shown-nowhere}
use Rattle.hush_laws.proofs.within.is_any_shown.Goals as goal

pub returns-in-Some : goal.returns-in-Some
returns-in-Some g c = record {
  exact = c.is_shown_below.ensures.exact
      ∙ shown-from_suffix c.args.top.now c.args.asking.now.who.now c.in-Some.suffix.0 (g.D.Dir.rows c.args.asking.now.dir.now)
      (subst IsNumberedTree c.tree-tree.ensures.exact c.entries_form_a_tree.ensures.exact)
      (ap suffix_of (sym c.tree-tree.ensures.exact) ∙ sym c.in-Some.ensures.exact);
}

pub returns-in-None : goal.returns-in-None
returns-in-None g c = record {
  exact = shown-nowhere c.args.top.now c.args.asking.now.who.now (g.D.Dir.rows c.args.asking.now.dir.now)
      (ap suffix_of (sym c.tree-tree.ensures.exact) ∙ sym c.in-None.ensures.exact);
}
