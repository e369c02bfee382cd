-- The bits of the number stand in order.
use Rattle.std.proofs.Common.{◌≡◌, subst}
use Rattle.std.specs.Prelude.{List}
use Rattle.aci_item.specs.Permission.{Bit, in_order}
use Rattle.aci_item.proofs.bits.BitLemmas.{bits_in_order}
use Rattle.aci_item.proofs.bits.Bits.stand_in_order.Goals as goal

pub returns : goal.returns
returns c =
    let Ordered : List Bit → Type 0 = λ bits. in_order bits ≡ bits in
    record { ordered = subst Ordered c.self.view_is (bits_in_order c.self.inside.0) }
