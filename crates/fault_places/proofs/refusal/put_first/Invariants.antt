-- What is said of the records that are left, with the entries so far, is what is said of all.
use Rattle.std.proofs.Common.{◌≡◌, ◌-◌, length, []}
use Rattle.std.specs.Prelude.{string_bytes}
use Rattle.dir_tree.specs.tree.Numbered.{entries_of}
use Rattle.ldif_records.specs.lines.Places.{IsPlace, records_from, file_start}
use Rattle.fault_places.specs.Refusals.{refused_after}
use Rattle.fault_places.proofs.refusal.put_first.Given as goal

abbrev pub invariant-records : goal.invariant-records
invariant-records l = record {
  whole : refused_after [] (records_from l.text file_start) ≡ refused_after (entries_of l.tree) (records_from l.text l.at);
  place : IsPlace l.text l.at;
  kept : string_bytes l.out ≡ string_bytes l.fn.out;
}

abbrev pub decreases-records : goal.decreases-records
decreases-records l = length l.text - l.at.offset
