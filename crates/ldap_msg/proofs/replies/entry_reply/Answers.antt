-- The reply is the one of its parts.
use Rattle.std.proofs.Common.{ap, ◌∙◌, Some}
use Rattle.std.specs.Prelude.{Option, List}
use Rattle.ber_layout.specs.element.Pieces.{◌>>=◌}
use Rattle.ber_layout.specs.Layouts.{Value}
use Rattle.ldap_msg.specs.declared.kinds.KindValues.{KindValues}
use Rattle.ldap_msg.specs.declared.kinds.Reply.TheVariants as reply
use Rattle.ldap_msg.specs.Results.{entry_layout}
use Rattle.ldap_msg.specs.Replies.{entry_from}
use Rattle.ldap_msg.proofs.reading.PartLemmas.{attributes_back}
use Rattle.ldap_msg.proofs.replies.entry_reply.Goals as goal

pub returns : goal.returns
returns c =
    ap (λ (o : Option (Value entry_layout)). o >>= λ (parts : Value entry_layout). Some (entry_from parts)) c.in_ok-name.ensures
    ∙ ap (λ (list : List KindValues). Some (reply.Entry c.in_ok-name.name list)) (attributes_back c.in_ok-name.attributes)
