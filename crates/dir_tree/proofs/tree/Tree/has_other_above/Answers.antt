-- The number found is another, or none is.
use Rattle.std.proofs.Common.{sym, ap, ◌∙◌}
use Rattle.dir_tree.specs.tree.Trees.{superior_name}
use Rattle.dir_tree.proofs.replace.ReplaceLemmas.{taken_by, has_name-without}
use Rattle.dir_tree.proofs.tree.Tree.has_other_above.Goals as goal

pub returns-in-Some : goal.returns-in-Some
returns-in-Some c = record {
  exact = ap (taken_by c.args.no.0) c.in-Some.ensures.exact
      ∙ sym (has_name-without (superior_name c.args.name.now) c.args.no.0 c.args.self.now c.entries_form_a_tree.ensures.exact.tree.sorted);
}

pub returns-in-None : goal.returns-in-None
returns-in-None c = record {
  exact = ap (taken_by c.args.no.0) c.in-None.ensures.exact
      ∙ sym (has_name-without (superior_name c.args.name.now) c.args.no.0 c.args.self.now c.entries_form_a_tree.ensures.exact.tree.sorted);
}
