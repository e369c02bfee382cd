-- What is written are the octets so far.
use Rattle.std.proofs.Common.{◌≡◌, ◌++◌, length, take}
use Rattle.std.specs.List.{flat_map}
use Rattle.line_text.specs.Escapes.{escaped_octet}
use Rattle.line_text.proofs.escapes.put_escaped.Given as goal

abbrev pub invariant-loop-octet : goal.invariant-loop-octet
invariant-loop-octet l = record {
  written : l.out.items ≡ l.fn.out.items ++ flat_map escaped_octet (take l.octet-index l.octets);
  counted : l.before ≡ length l.fn.out.items;
}
