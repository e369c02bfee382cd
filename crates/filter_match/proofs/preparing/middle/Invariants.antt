-- The parts so far have their keys.
use Rattle.std.proofs.Common.{◌≡◌, Some, map, take}
use Rattle.filter_match.specs.Tests.{middle_keys}
use Rattle.filter_match.proofs.preparing.middle.Given as goal

abbrev pub invariant-loop-part : goal.invariant-loop-part
invariant-loop-part l = middle_keys l.rule (take l.part-index l.parts) ≡ Some (map (λ key. key.items) l.keys.items)
