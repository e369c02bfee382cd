-- The bits of a word from one of them on.
use Rattle.std.proofs.Common.{◌≡◌, ℕ, ◌-◌, ◌*◌, ◌%◌, ◌^◌, min, ◌<◌, ◌≤◌, bit_and, ap, ◌∙◌, arith}
use Rattle.std.specs.Int.{bit_at}
use Rattle.std.proofs.Math.Nat.{min-zero}
use Rattle.std.proofs.lemmas.Nat.Bits.{ones_shl, bit_at_and, bit_at-lt, bit_at_mask_below, bit_at_mask_inside}

min_one : (n : ℕ) → n < 2 → min n 1 ≡ n
min_one n few = omega arith

pub mask_below : (word bit other : ℕ) → bit < 64 → other < bit → bit_at (bit_and word ((2 ^ 64 - 1) * 2 ^ bit % 2 ^ 64)) other ≡ 0
mask_below word bit other within below =
    ap (λ mask. bit_at (bit_and word mask) other) (ones_shl 64 bit (omega arith))
    ∙ (bit_at_and word (2 ^ 64 - 2 ^ bit) other
    ∙ (ap (min (bit_at word other)) (bit_at_mask_below bit 64 other below) ∙ min-zero (bit_at word other)))

pub mask_inside : (word bit other : ℕ) → bit < 64 → bit ≤ other → other < 64
    → bit_at (bit_and word ((2 ^ 64 - 1) * 2 ^ bit % 2 ^ 64)) other ≡ bit_at word other
mask_inside word bit other within above few =
    ap (λ mask. bit_at (bit_and word mask) other) (ones_shl 64 bit (omega arith))
    ∙ (bit_at_and word (2 ^ 64 - 2 ^ bit) other
    ∙ (ap (min (bit_at word other)) (bit_at_mask_inside bit 64 other above few) ∙ min_one (bit_at word other) (bit_at-lt word other)))
