-- The value is the text.
use Rattle.std.proofs.Common.{◌≡◌, rules}
use Rattle.aci_item.proofs.parts.PartLemmas.{text_value}
use Rattle.aci_item.proofs.parts.value_of.Goals as goal

pub returns-in-Ok-clause-text : goal.returns-in-Ok-clause-text
returns-in-Ok-clause-text c =
    let same : c.into_bytes-octets.result.items ≡ c.args.text.now = search rules in
    text_value c.args.kind.0 c.into_bytes-octets.result.items c.args.text.now c.in-Ok.value c.in-Ok.ensures.ok same c.utf8.text
