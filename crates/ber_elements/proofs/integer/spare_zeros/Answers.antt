-- At most one octet is left.
use Rattle.std.proofs.Common.{arith, sym, ◌∙◌, drop}
use Rattle.std.proofs.lemmas.List.{length-drop}
use Rattle.ber_elements.proofs.integer.IntegerLemmas.{short_trimmed}
use Rattle.ber_elements.proofs.integer.spare_zeros.Goals as goal

pub returns-clause-spare : goal.returns-clause-spare
returns-clause-spare c = sym (short_trimmed (drop c.loop-spare.spare c.args.octets.now) (omega (arith, length-drop c.loop-spare.spare c.args.octets.now))) ∙ c.loop-spare.invariant.same
