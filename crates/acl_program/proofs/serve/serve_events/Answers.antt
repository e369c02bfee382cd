use Rattle.std.proofs.Common.{sym, ap, ◌∙◌}
use Rattle.acl_program.specs.Outcomes.{settled}
use Rattle.acl_program.proofs.serve.ServeLemmas.{PutsAll-as}
use Rattle.acl_program.proofs.serve.serve_events.Goals as goal

-- the loop ended, and its line was to be put
pub returns-clause-serves : goal.returns-clause-serves
returns-clause-serves g c = rw (sym c.outside.view_is) (λ content applied. record {
  how = c.serve_loop-ended.result;
  answer = c.write_all-put.result;
  serves = record {
    left = _;
    served = rw c.bounds_of.ensures.exact at c.serve_loop-ended.ensures.served;
    plays = c.serve_loop-ended.ensures.plays;
    cause = rw c.bounds_of.ensures.exact at c.serve_loop-ended.ensures.cause;
    lost = c.serve_loop-ended.ensures.lost;
    memory = rw c.bounds_of.ensures.exact at c.serve_loop-ended.ensures.memory;
    refusals = c.serve_loop-ended.ensures.refusals;
  };
  ends = c.after.ensures.exact ∙ ap (λ wanted. settled c.write_all-put.result wanted) c.loop_status.ensures;
  tells = PutsAll-as _ _ _ _ _ (c.as_bytes.ensures.value ∙ c.ended_text.ensures) c.write_all-put.ensures.tells;
  cause = c.write_all-put.ensures.cause;
})
