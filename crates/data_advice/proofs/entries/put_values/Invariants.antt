-- What is written so far, and what is left.
use Rattle.std.proofs.Common.{◌≡◌, ◌++◌, drop}
use Rattle.std.specs.Prelude.{◌+◌, string_bytes}
use Rattle.data_advice.specs.Noting.{numbered}
use Rattle.dir_tree.specs.tree.Numbered.{entries_of}
use Rattle.data_advice.specs.ItemNotes.{text_note}
use Rattle.data_advice.specs.EntryNotes.{at}
use Rattle.data_advice.proofs.entries.put_values.Given as goal

abbrev pub invariant-loop-index : goal.invariant-loop-index
invariant-loop-index l =
    string_bytes l.out ++ numbered (λ number value. text_note (entries_of l.tree) (at l.entry l.kind.0 number) value.octets) (l.index + 1) (drop l.index l.values) ≡ string_bytes l.initial.out ++ numbered (λ number value. text_note (entries_of l.tree) (at l.entry l.kind.0 number) value.octets) 1 l.values
