use Rattle.std.proofs.Common.{◌≡◌, ◌++◌, take}
use Rattle.ldif_records.specs.writing.Written.{written_values}
use Rattle.ldif_records.proofs.writing.put_values.Given as goal

-- the lines of the values before
abbrev pub invariant-loop-value : goal.invariant-loop-value
invariant-loop-value l = l.out.items ≡ l.initial.out.items ++ written_values l.kind (take l.value-index l.values)
