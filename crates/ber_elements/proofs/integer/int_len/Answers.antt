-- What is written is eight octets without the spare ones.
use Rattle.std.proofs.Common.{◌≡◌, ℕ, ap, ◌∙◌, w64, arith}
use Rattle.std.specs.Int.{to_be_bytes}
use Rattle.std.proofs.lemmas.Int.{to_z-of_z}
use Rattle.ber_elements.specs.Integer.{magnitude}
use Rattle.ber_elements.proofs.integer.IntegerLemmas.{written_length}
use Rattle.ber_elements.proofs.integer.int_len.Goals as goal

pub returns-clause-exact : goal.returns-clause-exact
returns-clause-exact c =
    let fits = c.ranges.value in
    let size : c.magnitude.result ≡ magnitude c.args.value = c.magnitude.ensures ∙ ap magnitude (to_z-of_z w64 c.args.value fits) in
    let bytes = c.to_be_bytes-octets.ensures ∙ ap (λ (n : ℕ). to_be_bytes w64 n) size in
    omega (arith, written_length c.args.value c.to_be_bytes-octets.result c.spare_zeros.result bytes c.spare_zeros.ensures.spare)
