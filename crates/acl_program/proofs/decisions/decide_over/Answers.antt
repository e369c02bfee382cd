use Rattle.std.proofs.Common.{refl, sym}
use Rattle.acl_program.specs.Deciding.{decision_asked}
use Rattle.acl_program.proofs.decisions.DecisionLemmas.{Performs-decided, decision_data, decision_other}
use Rattle.acl_program.proofs.program.PerformLemmas.{Performs-refused}
use Rattle.acl_program.proofs.decisions.decide_over.Goals as goal

-- the data file was loaded
pub returns-in-Ok-clause-performs : goal.returns-in-Ok-clause-performs
returns-in-Ok-clause-performs g c = rw (sym c.outside.view_is) (λ who target item permission asks.
    Performs-decided _ _ who target item permission _ _ _ _ _ asks c.in-Ok.ensures.exact c.print_decision.ensures.ends refl)

-- it wasn't
pub returns-in-Err-clause-performs : goal.returns-in-Err-clause-performs
returns-in-Err-clause-performs g c = rw (sym c.outside.view_is) (λ who target item permission asks.
    Performs-refused (decision_asked c.args.account c.args.name.now who target item permission) c.args.name.now _ _ _ _ (decision_other _ _ _ _ _ _) (decision_data _ _ _ _ _ _) c.in-Err.ensures.exact c.print_trouble.ensures.ends refl)
