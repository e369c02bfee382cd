-- What is written so far, and what is left.
use Rattle.std.proofs.Common.{◌≡◌, ◌++◌, drop, map}
use Rattle.std.specs.Prelude.{flat_map, string_bytes}
use Rattle.fault_places.specs.ClassFaults.{doubled_said}
use Rattle.fault_places.proofs.classes.put_all_doubled.Given as goal

abbrev pub invariant-loop-kind : goal.invariant-loop-kind
invariant-loop-kind l =
    string_bytes l.out ++ flat_map (doubled_said l.given l.entry) (map (λ kind. kind.0) (drop l.kind-index l.kinds)) ≡ string_bytes l.initial.out ++ flat_map (doubled_said l.given l.entry) (map (λ kind. kind.0) l.kinds)
