use Rattle.std.proofs.Common.{◌≡◌, ◌-◌, length, []}
use Rattle.dir_tree.specs.tree.Numbered.{entries_of}
use Rattle.ldif_load.specs.ldif_records.lines.Places.{IsPlace, records_from}
use Rattle.ldif_load.specs.load.DataFile.{loads_after, file_start}
use Rattle.data_file.proofs.loading.load_all.Given as goal

-- the entries so far with the records that are left are what all records give
abbrev pub invariant-loop-next : goal.invariant-loop-next
invariant-loop-next l = record {
  whole : loads_after [] (records_from l.text file_start) ≡ loads_after (entries_of l.tree) (records_from l.text l.at);
  place : IsPlace l.text l.at;
}

abbrev pub decreases-loop-next : goal.decreases-loop-next
decreases-loop-next l = length l.text - l.at.offset
