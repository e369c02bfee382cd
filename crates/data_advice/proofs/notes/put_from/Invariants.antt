-- What is written so far, and the entries that are left.
use Rattle.std.proofs.Common.{◌≡◌, ◌++◌}
use Rattle.std.specs.Prelude.{flat_map, string_bytes}
use Rattle.dir_tree.specs.tree.Numbered.{entries_of}
use Rattle.data_advice.specs.EntryNotes.{entry_note}
use Rattle.dir_tree.specs.Scope.{scoped}
use Rattle.dir_tree.specs.declared.scope.Scope.TheVariants.{Sub}
use Rattle.data_advice.specs.Walking.{gives}
use Rattle.data_advice.proofs.notes.put_from.Given as goal

abbrev pub invariant-loop-no : goal.invariant-loop-no
invariant-loop-no l =
    string_bytes l.out ++ flat_map (gives (entry_note (entries_of l.tree)) l.tree) l.no-iterator
    ≡ string_bytes l.initial.out ++ flat_map (gives (entry_note (entries_of l.tree)) l.tree) (scoped Sub l.fn.suffix.0 l.tree)
