-- What is written so far, and the tuples that are left.
use Rattle.std.proofs.Common.{◌≡◌, ◌++◌, map, drop}
use Rattle.std.specs.Prelude.{flat_map, string_bytes}
use Rattle.explanation.specs.Explained.{kept_at}
use Rattle.explanation.specs.Texts.{kept_line}
use Rattle.explanation.proofs.lines.put_all_kept.Given as goal

abbrev pub invariant-loop-tuple : goal.invariant-loop-tuple
invariant-loop-tuple l =
    string_bytes l.out ++ flat_map kept_line (map (kept_at l.tree) (drop l.tuple-index l.kept))
    ≡ string_bytes l.initial.out ++ flat_map kept_line (map (kept_at l.tree) l.kept)
