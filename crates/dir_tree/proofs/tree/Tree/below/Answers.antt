-- The number is not in use.
use Rattle.std.proofs.Common.{ap, ◌∙◌, arith, Option}
use Rattle.dir_tree.specs.Entry.{EntryInformation}
use Rattle.dir_tree.specs.Scope.{in_scope}
use Rattle.dir_tree.proofs.tree.Tree.below.Goals as goal

pub returns-in-None : goal.returns-in-None
returns-in-None c = record {
  exact = c.walk_nowhere.ensures.exact ∙ ap (λ (base : Option EntryInformation). in_scope c.args.scope c.args.no.0 base c.args.self.now) c.in-None.ensures.exact;
  fits = rw c.walk_nowhere.ensures.exact (omega arith);
}
