-- The pairs so far and those of what is left are the RDN's.
use Rattle.std.proofs.Common.{◌≡◌, ◌≤◌, ◌+◌, [], length, vec_len}
use Rattle.dn_names.specs.Reading.{rdn_of}
use Rattle.dn_names.specs.Resolving.{rdn_from}
use Rattle.dn_names.proofs.parsing.read_pairs.Given as goal

abbrev pub invariant-pairs : goal.invariant-pairs
invariant-pairs l = record {
  exact : rdn_from l.index l.pairs.items (rdn_of l.rest) ≡ rdn_from l.fn.first [] (rdn_of l.fn.text);
  count : vec_len l.pairs + length (rdn_of l.rest) ≡ length (rdn_of l.fn.text);
  fits : l.index + length l.rest ≤ l.fn.first + length l.fn.text;
}

abbrev pub decreases-pairs : goal.decreases-pairs
decreases-pairs l = length l.rest
