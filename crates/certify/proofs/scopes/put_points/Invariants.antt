-- What is put so far, and the points that are left.
use Rattle.std.proofs.Common.{◌≡◌, ◌++◌, map, drop}
use Rattle.std.specs.Prelude.{flat_map}
use Rattle.dir_tree.specs.tree.Numbered.{entries_of, entries_at}
use Rattle.certify.specs.Lines.{line_of}
use Rattle.certify.specs.Certificate.{scope_lines_at}
use Rattle.certify.proofs.scopes.put_points.Given as goal

abbrev pub invariant-loop-number : goal.invariant-loop-number
invariant-loop-number l =
    let lines = scope_lines_at (entries_of l.question.tree.now) l.question.entry.now in
    map line_of l.lines.items ++ flat_map lines (entries_at l.question.tree.now (map (λ no. no.0) (drop l.number-index l.numbers)))
    ≡ map line_of l.initial.lines.items ++ flat_map lines (entries_at l.question.tree.now (map (λ no. no.0) l.numbers))
