-- The request is the one of its parts.
use Rattle.std.proofs.Common.{ap, ◌∙◌, Some}
use Rattle.std.specs.Prelude.{Option}
use Rattle.ber_layout.specs.element.Pieces.{◌>>=◌}
use Rattle.ber_layout.specs.Layouts.{Value}
use Rattle.ldap_msg.specs.declared.kinds.ModifyRequest.{ModifyRequest}
use Rattle.ldap_msg.specs.declared.kinds.Request.TheVariants as request
use Rattle.ldap_msg.specs.declared.kinds.Update.TheVariants as update
use Rattle.ldap_msg.specs.Kinds.{modify_layout, modify_from}
use Rattle.ldap_msg.proofs.reading.PartLemmas.{modify_back}
use Rattle.ldap_msg.proofs.reading.modify.Goals as goal

pub returns : goal.returns
returns c =
    ap (λ (o : Option (Value modify_layout)). o >>= λ (parts : Value modify_layout). Some (request.Update (update.Modify (modify_from parts)))) c.in_ok-read.ensures
    ∙ ap (λ (r : ModifyRequest). Some (request.Update (update.Modify r))) (modify_back c.in_ok-read.field-0)
