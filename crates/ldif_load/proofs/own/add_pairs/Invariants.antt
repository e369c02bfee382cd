use Rattle.std.proofs.Common.{◌≡◌, drop}
use Rattle.ldif_load.specs.load.Loading.{with_pairs}
use Rattle.ldif_load.proofs.own.add_pairs.Given as goal

-- the pairs that are left, put in the entry so far, give what all pairs give
abbrev pub invariant-loop-pair : goal.invariant-loop-pair
invariant-loop-pair l = with_pairs l.initial.entry l.pairs ≡ with_pairs l.entry (drop l.pair-index l.pairs)
