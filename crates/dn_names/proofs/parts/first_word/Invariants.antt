-- No space has come, so the word's length is counted from here on.
use Rattle.std.proofs.Common.{◌≡◌, ◌+◌, not, drop}
use Rattle.std.specs.Prelude.{◌==◌}
use Rattle.std.specs.List.{prefix_len}
use Rattle.dn_names.proofs.parts.first_word.Given as goal

abbrev pub invariant-loop-place : goal.invariant-loop-place
invariant-loop-place l =
    l.place + prefix_len (λ octet. not (octet == 32)) (drop l.place l.word) ≡ prefix_len (λ octet. not (octet == 32)) l.word
