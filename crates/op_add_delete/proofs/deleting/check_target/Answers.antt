-- Nothing refuses the delete of the target.
use Rattle.std.proofs.Common.{◌∙◌, sym}
use Rattle.op_add_delete.proofs.adding.UpdateLemmas.{allowed-target}
use Rattle.op_add_delete.proofs.deleting.check_target.Goals as goal

pub returns-in-None : goal.returns-in-None
returns-in-None g c = record {
  ok = allowed-target (g.D.Dir.rows c.args.asking.now.dir.now) c.args.asking.now.who.now c.args.name.now c.in-Some.target.entry.now c.in-Some.target.number.0
      (sym c.in-Some.ensures.exact) (rw c.in-Some.ensures.asking at c.in-Some.target.found) (sym (rw c.in-Some.ensures.asking at c.in_ok-refusal.ensures.ok) ∙ c.in-None.is);
}
