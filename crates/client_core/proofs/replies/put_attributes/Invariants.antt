use Rattle.std.proofs.Common.{◌≡◌, ◌++◌, take}
use Rattle.std.specs.List.{flat_map}
use Rattle.client_core.specs.ReplyTexts.{attribute_lines}
use Rattle.client_core.proofs.replies.put_attributes.Given as goal

-- the lines of the attributes before
abbrev pub invariant-loop-attribute : goal.invariant-loop-attribute
invariant-loop-attribute l = l.out.items ≡ l.initial.out.items ++ flat_map attribute_lines (take l.attribute-index l.attributes)
