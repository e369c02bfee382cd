-- The octets are a message: what forbids its request forbids them.
use Rattle.std.proofs.Common.{◌≡◌, Option, sym, subst}
use Rattle.std.specs.Prelude.{IfOk, option_and_then}
use Rattle.session_hub.specs.session_model.ldap_msg.declared.kinds.Message.{Message}
use Rattle.hush_laws.specs.Requests.{failing_asked}
use Rattle.hush_laws.proofs.requests.failing_request.Goals as goal

pub returns-in-Ok : goal.returns-in-Ok
returns-in-Ok c = record {
  ok = subst (λ (found : Option Message). IfOk c.failing_asked.result (λ part. part ≡ option_and_then (λ message. failing_asked c.args.top.now message.request) found))
      (sym c.in-Ok.ensures.exact) c.failing_asked.ensures.ok;
}
