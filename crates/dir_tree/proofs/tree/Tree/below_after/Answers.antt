-- The number is not in use.
use Rattle.std.proofs.Common.{ap, ◌∙◌, arith, Option}
use Rattle.dir_tree.specs.Entry.{EntryInformation}
use Rattle.dir_tree.specs.Scope.{in_scope_after}
use Rattle.dir_tree.proofs.tree.Tree.below_after.Goals as goal

pub returns-in-None : goal.returns-in-None
returns-in-None c = record {
  exact = c.walk_nowhere.ensures.exact ∙ ap (λ (base : Option EntryInformation). in_scope_after c.args.scope c.args.no.0 base c.args.after.now c.args.self.now) c.in-None.ensures.exact;
  fits = rw c.walk_nowhere.ensures.exact (omega arith);
}
