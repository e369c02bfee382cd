-- The controls are those of their parts.
use Rattle.std.proofs.Common.{sym, ap, ◌∙◌, map}
use Rattle.std.specs.Prelude.{option_map, Option}
use Rattle.ldap_msg.specs.declared.kinds.Control.{Control}
use Rattle.ldap_msg.specs.Controls.{control_parts, controls_from}
use Rattle.ldap_msg.proofs.reading.PartLemmas.{controls_back}
use Rattle.std.specs.Prelude.{List}
use Rattle.ldap_msg.proofs.reading.known.Goals as goal

pub returns-in-Some : goal.returns-in-Some
returns-in-Some c =
    sym (ap (λ (o : Option (List Control)). controls_from (option_map (λ (list : List Control). (map control_parts list, tt)) o)) c.in-Some.is ∙ controls_back c.in-Some.controls)
