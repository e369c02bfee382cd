-- What is written so far, and what is left.
use Rattle.std.proofs.Common.{◌≡◌, ◌++◌, drop}
use Rattle.std.specs.Prelude.{flat_map, string_bytes}
use Rattle.dir_tree.specs.tree.Numbered.{entries_of}
use Rattle.data_advice.specs.Noting.{place_of}
use Rattle.data_advice.specs.ItemNotes.{name_note}
use Rattle.data_advice.proofs.items.put_names.Given as goal

abbrev pub invariant-loop-name : goal.invariant-loop-name
invariant-loop-name l =
    string_bytes l.out ++ flat_map (name_note (entries_of l.tree) (place_of l.spot)) (drop l.name-index l.names)
    ≡ string_bytes l.initial.out ++ flat_map (name_note (entries_of l.tree) (place_of l.spot)) l.names
