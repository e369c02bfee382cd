-- No octets are a password, whose key is none.
use Rattle.aci_item.proofs.parts.PartLemmas.{user_password, password_value}
use Rattle.aci_item.proofs.parts.no_value.Goals as goal

pub make_value-requires : goal.make_value-requires
make_value-requires c = user_password

pub returns-in-Ok : goal.returns-in-Ok
returns-in-Ok c = record { ok = password_value c.new.result.items c.in-Ok.value c.new.ensures.items c.in-Ok.ensures.ok }
