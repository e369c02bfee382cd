-- What is written so far, and what is left.
use Rattle.std.proofs.Common.{◌≡◌, ◌++◌, drop}
use Rattle.std.specs.Prelude.{flat_map, string_bytes}
use Rattle.dir_tree.specs.schema_tables.Attributes.{attr_of}
use Rattle.fault_places.specs.LineFaults.{unread_of}
use Rattle.fault_places.proofs.values.put_unread.Given as goal

abbrev pub invariant-loop-line : goal.invariant-loop-line
invariant-loop-line l =
    string_bytes l.out ++ flat_map (λ line. unread_of l.lines line (attr_of line.kind)) (drop l.line-index l.lines) ≡ string_bytes l.initial.out ++ flat_map (λ line. unread_of l.lines line (attr_of line.kind)) l.lines
