-- The bit of the number is the bit of the set.
use Rattle.std.proofs.Common.{ℕ, ap, sym, ◌∙◌, arith}
use Rattle.std.specs.Prelude.{◌==◌, List}
use Rattle.std.specs.Int.{bit_at}
use Rattle.aci_item.specs.Permission.{Bit, is_among}
use Rattle.aci_item.proofs.bits.BitLemmas.{among_filtered, mask_test}
use Rattle.aci_item.proofs.bits.Bits.has.Goals as goal

pub returns : goal.returns
returns c =
    let bit : Bit = record { permission = c.args.permission; grants = c.args.grants } in
    let number : ℕ = c.self.inside.0 in
    record {
      exact = mask_test number c.bit_place.result (omega (arith, c.bit_place.ensures.fits))
          ∙ ap (λ place. bit_at number place == 1) c.bit_place.ensures.exact
          ∙ sym (among_filtered (λ place. bit_at number place == 1) bit)
          ∙ ap (λ (bits : List Bit). is_among bits bit) c.self.view_is;
    }
