-- Both trees are copies of one.
use Rattle.std.proofs.Common.{◌≡◌, IfOk, subst}
use Rattle.event_replay.specs.Played.{played_steps}
use Rattle.hush_laws.specs.Hush.{hush_of_replay}
use Rattle.session_hub.specs.Terms.{no_terms}
use Rattle.audit_program.proofs.auditing.first_fault.Goals as goal

pub returns : goal.returns
returns c = record {
  ok = subst (λ entries. IfOk c.find_fault.result (λ fault. fault ≡ hush_of_replay no_terms entries (played_steps c.args.events.now) c.args.number c.args.top.now))
      c.in_ok-now.ensures.ok c.find_fault.ensures.ok;
}
