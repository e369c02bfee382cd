-- What is written so far, and what is left.
use Rattle.std.proofs.Common.{◌≡◌, ◌++◌, drop}
use Rattle.std.specs.Prelude.{◌+◌, string_bytes}
use Rattle.data_advice.specs.Noting.{numbered}
use Rattle.data_advice.specs.EntryNotes.{password_note}
use Rattle.data_advice.proofs.passwords.put_values.Given as goal

abbrev pub invariant-loop-index : goal.invariant-loop-index
invariant-loop-index l =
    string_bytes l.out ++ numbered (password_note l.entry) (l.index + 1) (drop l.index l.values) ≡ string_bytes l.initial.out ++ numbered (password_note l.entry) 1 l.values
