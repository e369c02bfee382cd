-- What is written so far, and what is left.
use Rattle.std.proofs.Common.{◌≡◌, ◌++◌, drop}
use Rattle.std.specs.Prelude.{flat_map, string_bytes}
use Rattle.fault_places.specs.ClassFaults.{unknown_class}
use Rattle.fault_places.proofs.classes.put_all_unknown.Given as goal

abbrev pub invariant-loop-value : goal.invariant-loop-value
invariant-loop-value l =
    string_bytes l.out ++ flat_map (unknown_class l.line) (drop l.value-index l.values) ≡ string_bytes l.initial.out ++ flat_map (unknown_class l.line) l.values
