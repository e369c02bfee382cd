-- The types so far.
use Rattle.std.proofs.Common.{◌==◌, take}
use Rattle.std.specs.List.{list_any}
use Rattle.schema_rules.specs.Classes.{MarksAlso}
use Rattle.schema_rules.proofs.marks.mark_all.Given as goal

abbrev pub invariant-loop-kind : goal.invariant-loop-kind
invariant-loop-kind l = MarksAlso l.initial.marks (λ number. list_any (λ kind. number == kind.0) (take l.kind-index l.kinds)) l.marks
