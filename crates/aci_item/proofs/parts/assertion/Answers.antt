-- No octets are a text.
use Rattle.aci_item.proofs.parts.PartLemmas.{no_octets_text}
use Rattle.aci_item.proofs.parts.assertion.Goals as goal

pub returns-in_ok-no_value-in-None-clause-text : goal.returns-in_ok-no_value-in-None-clause-text
returns-in_ok-no_value-in-None-clause-text c = no_octets_text c.in_ok-no_value-in-None.field-0 c.in_ok-no_value-in-None.ensures.ok
