-- The reply is the one of its parts.
use Rattle.std.proofs.Common.{ap, ◌∙◌, Some}
use Rattle.std.specs.Prelude.{Option}
use Rattle.ber_layout.specs.element.Pieces.{◌>>=◌}
use Rattle.ber_layout.specs.Layouts.{Value}
use Rattle.ldap_msg.specs.declared.kinds.LdapResult.{LdapResult}
use Rattle.ldap_msg.specs.declared.kinds.Reply.TheVariants as reply
use Rattle.ldap_msg.specs.Results.{result_layout, result_from}
use Rattle.ldap_msg.proofs.replies.ReplyLemmas.{with_code}
use Rattle.ldap_msg.proofs.replies.ended_reply.Goals as goal

pub returns : goal.returns
returns c =
    ap (λ (o : Option (Value result_layout)). o >>= λ (parts : Value result_layout). Some (reply.Ended c.args.ending (result_from parts))) c.in_ok-ended.ensures
    ∙ ap (λ (r : LdapResult). Some (reply.Ended c.args.ending r)) (with_code c.in_ok-ended.ended)
