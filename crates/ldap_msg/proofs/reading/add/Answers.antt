-- The request is the one of its parts.
use Rattle.std.proofs.Common.{ap, ◌∙◌, Some}
use Rattle.std.specs.Prelude.{Option}
use Rattle.ber_layout.specs.element.Pieces.{◌>>=◌}
use Rattle.ber_layout.specs.Layouts.{Value}
use Rattle.ldap_msg.specs.declared.kinds.AddRequest.{AddRequest}
use Rattle.ldap_msg.specs.declared.kinds.Request.TheVariants as request
use Rattle.ldap_msg.specs.declared.kinds.Update.TheVariants as update
use Rattle.ldap_msg.specs.Kinds.{add_layout, add_from}
use Rattle.ldap_msg.proofs.reading.PartLemmas.{add_back}
use Rattle.ldap_msg.proofs.reading.add.Goals as goal

pub returns : goal.returns
returns c =
    ap (λ (o : Option (Value add_layout)). o >>= λ (parts : Value add_layout). Some (request.Update (update.Add (add_from parts)))) c.in_ok-read.ensures
    ∙ ap (λ (r : AddRequest). Some (request.Update (update.Add r))) (add_back c.in_ok-read.field-0)
