-- From the suffix on all entries are left, and without one there are none.
use Rattle.std.proofs.Common.{ap, sym, ◌∙◌}
use Rattle.dir_tree.specs.tree.Numbered.{entries_at}
use Rattle.hush_laws.proofs.rows.RowLemmas.{rows-all, rows-none}
use Rattle.hush_laws.proofs.rows.Rows.new.Goals as goal

pub returns-in-Some : goal.returns-in-Some
returns-in-Some c = record {
  exact = ap (entries_at c.args.tree.now) c.below.ensures.exact
      ∙ rows-all c.in-Some.suffix.0 c.args.tree.now c.entries_form_a_tree.ensures.exact (sym c.in-Some.ensures.exact);
}

pub returns-in-None : goal.returns-in-None
returns-in-None c = record { exact = rows-none c.args.tree.now (sym c.in-None.ensures.exact) }
