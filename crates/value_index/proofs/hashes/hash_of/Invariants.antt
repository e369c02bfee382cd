-- What the octets that are left make of the hash is the hash of all.
use Rattle.std.proofs.Common.{◌≡◌, drop}
use Rattle.std.specs.Prelude.{fold}
use Rattle.value_index.specs.Hashes.{hash_step, hash_of}
use Rattle.value_index.proofs.hashes.hash_of.Given as goal

abbrev pub invariant-loop-octet : goal.invariant-loop-octet
invariant-loop-octet l = record { left : fold hash_step l.hash (drop l.octet-index l.key) ≡ hash_of l.fn.kind.0 l.key }
