use Rattle.std.proofs.Common.{◌≡◌, ◌++◌, take}
use Rattle.std.specs.List.{flat_map}
use Rattle.client_core.specs.Scripts.{send_line}
use Rattle.client_core.proofs.scripts.put_send_lines.Given as goal

-- the lines of the requests before
abbrev pub invariant-loop-ask : goal.invariant-loop-ask
invariant-loop-ask l = l.out.items ≡ l.initial.out.items ++ flat_map send_line (take l.ask-index l.asked)
