use Rattle.ldif_load.proofs.laws.FileLemmas.{goes_on_after_a_record, goes_on_where_loaded, ends_at_a_bad_record, ends_at_a_bad_line, ends_with_its_entries}
use Rattle.ldif_load.proofs.laws.records_are_loaded_one_by_one.Goals as goal

pub returns : goal.returns
returns c = record {
  next = goes_on_after_a_record;
  loaded = goes_on_where_loaded;
  refused = ends_at_a_bad_record;
  bad = ends_at_a_bad_line;
  empty = ends_with_its_entries;
}
