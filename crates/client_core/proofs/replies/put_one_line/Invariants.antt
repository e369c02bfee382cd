use Rattle.std.proofs.Common.{◌≡◌, ◌++◌, take}
use Rattle.std.specs.List.{flat_map}
use Rattle.client_core.specs.ReplyTexts.{within_line}
use Rattle.client_core.proofs.replies.put_one_line.Given as goal

-- the octets before
abbrev pub invariant-loop-octet : goal.invariant-loop-octet
invariant-loop-octet l = l.out.items ≡ l.initial.out.items ++ flat_map within_line (take l.octet-index l.octets)
