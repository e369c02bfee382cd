-- The replies are those of the replays.
use Rattle.std.proofs.Common.{◌∙◌, ap}
use Rattle.session_hub.specs.session_model.Purging.{purged}
use Rattle.event_replay.specs.Played.{played_steps}
use Rattle.audit_program.proofs.auditing.AuditLemmas.{difference_of-found}
use Rattle.audit_program.proofs.auditing.difference.Goals as goal

pub returns : goal.returns
returns c = record {
  ok = difference_of-found _ _ _ _ c.args.number _ _ _ c.compared.ensures.exact c.in_ok-all.ensures.ok c.in_ok-alone.ensures.ok c.in_ok-copy.ensures.ok
      (c.in_ok-own.ensures.ok ∙ ap (λ events. purged c.args.number (played_steps events)) c.as_slice.ensures.value);
}
