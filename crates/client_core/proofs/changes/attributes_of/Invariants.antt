use Rattle.std.proofs.Common.{◌≡◌, take}
use Rattle.client_core.specs.Picks.{attributes_of}
use Rattle.client_core.proofs.changes.attributes_of.Given as goal

-- the attributes of the lines before
abbrev pub invariant-loop-line : goal.invariant-loop-line
invariant-loop-line l = l.attributes.items ≡ attributes_of (take l.line-index l.lines)
