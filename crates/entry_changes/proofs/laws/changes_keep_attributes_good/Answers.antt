use Rattle.entry_changes.proofs.laws.GoodLemmas.{good-changed_by, name-changed_by, good-renamed_entry, name-renamed_entry}
use Rattle.entry_changes.proofs.laws.changes_keep_attributes_good.Goals as goal

pub returns : goal.returns
returns c = record {
  changed = good-changed_by;
  name = name-changed_by;
  renamed = good-renamed_entry;
  called = name-renamed_entry;
}
