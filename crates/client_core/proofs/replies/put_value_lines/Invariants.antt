use Rattle.std.proofs.Common.{◌≡◌, ◌++◌, take}
use Rattle.client_core.specs.ReplyTexts.{value_lines}
use Rattle.client_core.proofs.replies.put_value_lines.Given as goal

-- the lines of the values before
abbrev pub invariant-loop-value : goal.invariant-loop-value
invariant-loop-value l = l.out.items ≡ l.initial.out.items ++ value_lines l.kind (take l.value-index l.values)
