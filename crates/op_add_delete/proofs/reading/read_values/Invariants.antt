-- The values so far, before those of what is left, are all.
use Rattle.std.proofs.Common.{◌≡◌, drop}
use Rattle.op_add_delete.specs.reading.NewEntries.{read_values}
use Rattle.op_add_delete.proofs.reading.ReadingLemmas.{put_before}
use Rattle.op_add_delete.proofs.reading.read_values.Given as goal

abbrev pub invariant-loop-octets : goal.invariant-loop-octets
invariant-loop-octets l =
    read_values l.kind.0 l.given ≡ put_before l.values.items (read_values l.kind.0 (drop l.octets-index l.given))
