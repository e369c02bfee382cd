-- What is written so far, and the subentries that are left.
use Rattle.std.proofs.Common.{◌≡◌, ◌++◌, map, drop}
use Rattle.std.specs.Prelude.{flat_map, string_bytes}
use Rattle.dir_tree.specs.tree.Numbered.{entries_at}
use Rattle.explanation.specs.Texts.{subentry_line}
use Rattle.explanation.proofs.lines.put_subentries.Given as goal

abbrev pub invariant-loop-number : goal.invariant-loop-number
invariant-loop-number l =
    string_bytes l.out ++ flat_map subentry_line (entries_at l.tree (map (λ no. no.0) (drop l.number-index l.numbers)))
    ≡ string_bytes l.initial.out ++ flat_map subentry_line (entries_at l.tree (map (λ no. no.0) l.numbers))
