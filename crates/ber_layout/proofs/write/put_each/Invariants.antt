-- The elements of the values so far were appended.
use Rattle.std.proofs.Common.{◌≡◌, ◌++◌, map, take}
use Rattle.ber_layout.specs.Layouts.{writes}
use Rattle.ber_layout.specs.Spellings.{each_octets}
use Rattle.ber_layout.proofs.write.put_each.Given as goal

abbrev pub invariant-loop-value : goal.invariant-loop-value
invariant-loop-value g l =
    l.out.items ≡ l.fn.out.items ++ each_octets l.tag (writes g.T.Laid.layout) (map g.T.Laid.parts (take l.value-index l.values))
