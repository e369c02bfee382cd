use Rattle.std.proofs.Common.{◌≡◌, ◌++◌, take}
use Rattle.ldif_records.specs.writing.Written.{written_attributes}
use Rattle.ldif_records.proofs.writing.put_attributes.Given as goal

-- the lines of the attributes before
abbrev pub invariant-loop-index : goal.invariant-loop-index
invariant-loop-index l = l.out.items ≡ l.initial.out.items ++ written_attributes (take l.index l.entry.attributes)
