-- The code asks for the class of its own first.
use Rattle.std.proofs.Common.{◌&&◌, codes, sym, ap, ◌∙◌}
use Rattle.std.proofs.Math.Bool.{and_comm}
use Rattle.dir_tree.specs.EntryClasses.{has_class}
use Rattle.dir_tree.specs.Points.{is_subentry, is_access_subentry}
use Rattle.dir_tree.proofs.entry.Entry.is_access_subentry.Goals as goal

pub returns-then-has_class : goal.returns-then-has_class
unfolding is_subentry is_access_subentry
returns-then-has_class c = record {
  exact =
      c.has_class-then-has_class.ensures.exact
      ∙ ap (λ own. own && has_class (codes "2.5.17.0") c.args.self.now) (sym c.if-has_class.true ∙ c.has_class.ensures.exact)
      ∙ and_comm (has_class (codes "2.5.17.1") c.args.self.now) (has_class (codes "2.5.17.0") c.args.self.now);
}

pub returns-else-has_class : goal.returns-else-has_class
unfolding is_subentry is_access_subentry
returns-else-has_class c = record {
  exact =
      c.if-has_class.false
      ∙ ap (λ own. own && has_class (codes "2.5.17.0") c.args.self.now) (sym c.if-has_class.false ∙ c.has_class.ensures.exact)
      ∙ and_comm (has_class (codes "2.5.17.1") c.args.self.now) (has_class (codes "2.5.17.0") c.args.self.now);
}
