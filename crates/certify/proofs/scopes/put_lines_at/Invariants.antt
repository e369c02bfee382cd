-- What is put so far, and the subentries that are left.
use Rattle.std.proofs.Common.{◌≡◌, ◌++◌, map, drop}
use Rattle.std.specs.Prelude.{flat_map}
use Rattle.certify.specs.Lines.{line_of}
use Rattle.certify.specs.Making.{scope_line_at}
use Rattle.certify.proofs.scopes.put_lines_at.Given as goal

abbrev pub invariant-loop-number : goal.invariant-loop-number
invariant-loop-number l =
    map line_of l.lines.items ++ flat_map (scope_line_at l.question.tree.now l.question.entry.now l.point) (map (λ no. no.0) (drop l.number-index l.numbers))
    ≡ map line_of l.initial.lines.items ++ flat_map (scope_line_at l.question.tree.now l.question.entry.now l.point) (map (λ no. no.0) l.numbers)
