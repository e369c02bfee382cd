-- Both answers are those over the script's steps.
use Rattle.session_hub.specs.Terms.{no_terms}
use Rattle.audit_program.proofs.auditing.AuditLemmas.{IsAudit-found, openings-steps}
use Rattle.audit_program.proofs.auditing.audit_script.Goals as goal

pub returns-clause-ok : goal.returns-clause-ok
returns-clause-ok c = IsAudit-found _ _ _ _ _ _ _ _ c.in_ok-events.ensures.steps c.as_slice.ensures.value c.in_ok-fault.ensures.ok c.in_ok-differs.ensures.ok

-- no number opens twice, so nothing differs where the hush is kept
pub returns-clause-hushed : goal.returns-clause-hushed
returns-clause-hushed c = λ none.
    let audit = IsAudit-found _ _ _ _ _ _ _ _ c.in_ok-events.ensures.steps c.as_slice.ensures.value c.in_ok-fault.ensures.ok c.in_ok-differs.ensures.ok in
    let once = openings-steps _ _ c.args.number c.in_ok-events.ensures.steps (c.an_event_opens_once.ensures.exact _ c.args.number c.in_ok-events.ensures.ok.played) in
    c.an_audit_finds_no_difference_under_a_hush.ensures.exact no_terms _ _ c.args.number c.args.top.now _ c.requires.good once audit none
