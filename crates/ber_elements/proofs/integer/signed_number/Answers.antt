-- Both numbers are below 2 ^ 63, and the test is the one of the definition.
use Rattle.std.proofs.Common.{◌<◌, ◌^◌, arith, zero-add, ap, ◌∙◌, ℕ, w64, pos}
use Rattle.std.proofs.lemmas.Bool.{lt-ltb, le-ltb}
use Rattle.std.proofs.lemmas.Int.{ints, to_z_pos}
use Rattle.ber_elements.proofs.integer.signed_number.Goals as goal

pub overflow_cast-result : goal.overflow_cast-result
overflow_cast-result c =
    let fits : c.number_of.result < 2 ^ 63 = c.number_of.ensures.half c.if-first-lt128.true in
    search (arith, ints)

pub returns-then-first-lt128 : goal.returns-then-first-lt128
returns-then-first-lt128 c =
    let fits : c.number_of.result < 2 ^ 63 = c.number_of.ensures.half c.if-first-lt128.true in
    rw (lt-ltb c.args.first 128 c.if-first-lt128.true, zero-add) (to_z_pos w64 c.number_of.result fits ∙ ap (λ (n : ℕ). pos n) c.number_of.ensures.value)

pub overflow_cast-result-2 : goal.overflow_cast-result-2
overflow_cast-result-2 c =
    let fits : c.turned_number_of.result < 2 ^ 63 = c.turned_number_of.ensures.half (omega arith) in
    search (arith, ints)

pub returns : goal.returns
returns c =
    let fits : c.turned_number_of.result < 2 ^ 63 = c.turned_number_of.ensures.half (omega arith) in
    rw (le-ltb c.args.first 128 c.if-first-lt128.false, zero-add, ← c.turned_number_of.ensures.value) (omega (arith, ints))
