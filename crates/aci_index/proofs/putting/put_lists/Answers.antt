-- One element is changed.
use Rattle.aci_lists.proofs.Theorems.{lists_at-set_same, lists_at-set_other}
use Rattle.aci_index.proofs.putting.put_lists.Goals as goal

pub returns-clause-own : goal.returns-clause-own
returns-clause-own c = lists_at-set_same c.args.kept.now c.args.number.0 c.args.lists c.requires.room

pub returns-clause-others : goal.returns-clause-others
returns-clause-others c = λ id other. lists_at-set_other c.args.kept.now c.args.number.0 c.args.lists id other
