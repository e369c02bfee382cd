use Rattle.std.proofs.Common.{◌↔◌, map, drop}
use Rattle.match_rules.specs.substrings.Substrings.{InOrder}
use Rattle.match_rules.proofs.substrings.stand_in_order.Given as goal

abbrev pub invariant-loop-part : goal.invariant-loop-part
invariant-loop-part l = InOrder (map (λ part. part.items) (drop l.part-index l.parts)) l.rest ↔ InOrder (map (λ part. part.items) l.parts) l.initial.rest
