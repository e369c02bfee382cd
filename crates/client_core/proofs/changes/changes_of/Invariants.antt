use Rattle.std.proofs.Common.{◌≡◌, take}
use Rattle.client_core.specs.Picks.{changes_of}
use Rattle.client_core.proofs.changes.changes_of.Given as goal

-- the changes of the lines before
abbrev pub invariant-loop-line : goal.invariant-loop-line
invariant-loop-line l = l.changes.items ≡ changes_of (take l.line-index l.lines)
