-- What is written so far, and what is left.
use Rattle.std.proofs.Common.{◌≡◌, ◌++◌, drop}
use Rattle.std.specs.Prelude.{flat_map, string_bytes, filter}
use Rattle.fault_places.specs.ClassFaults.{quoted_class, is_apart}
use Rattle.fault_places.proofs.classes.put_apart.Given as goal

abbrev pub invariant-loop-value : goal.invariant-loop-value
invariant-loop-value l =
    string_bytes l.out ++ flat_map quoted_class (filter (is_apart l.values) (drop l.value-index l.values)) ≡ string_bytes l.initial.out ++ flat_map quoted_class (filter (is_apart l.values) l.values)
