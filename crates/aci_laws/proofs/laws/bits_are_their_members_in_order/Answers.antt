-- The laws are proved of the definitions.
use Rattle.aci_laws.proofs.laws.BitPrints.{bits-in_order, is_among-in_order}
use Rattle.aci_laws.proofs.laws.bits_are_their_members_in_order.Goals as goal

pub returns : goal.returns
returns c = record { exact = bits-in_order; keeps = is_among-in_order }
