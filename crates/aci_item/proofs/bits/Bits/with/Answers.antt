-- One more bit of the number is one more bit of the set.
use Rattle.std.proofs.Common.{ℕ, ◌<◌, ◌*◌, ◌%◌, ◌^◌, ap, ◌∙◌, subst, arith}
use Rattle.std.specs.Prelude.{bit_or}
use Rattle.aci_item.specs.Permission.{Bit, bits_of, put_bit}
use Rattle.aci_item.proofs.bits.BitLemmas.{mask_set}
use Rattle.aci_item.proofs.bits.Bits.with.Goals as goal

pub returns : goal.returns
returns c =
    let bit : Bit = record { permission = c.args.permission; grants = c.args.grants } in
    let number : ℕ = c.self.inside.0 in
    let Small : ℕ → Type 0 = λ place. place < 32 in
    let within = subst Small c.bit_place.ensures.exact (omega (arith, c.bit_place.ensures.fits)) in
    record {
      exact = ap (λ place. bits_of (bit_or number (1 * 2 ^ place % 2 ^ 32))) c.bit_place.ensures.exact ∙ mask_set number bit within
          ∙ ap (put_bit bit) c.self.view_is;
    }
