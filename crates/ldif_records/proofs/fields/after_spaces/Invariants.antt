use Rattle.std.proofs.Common.{◌≡◌, drop}
use Rattle.ldif_records.specs.Fields.{after_spaces}
use Rattle.ldif_records.proofs.fields.after_spaces.Given as goal

-- the octets before are spaces
abbrev pub invariant-loop-place : goal.invariant-loop-place
invariant-loop-place l = after_spaces (drop l.place l.text) ≡ after_spaces l.text
