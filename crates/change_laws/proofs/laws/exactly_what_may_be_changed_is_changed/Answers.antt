-- By the theorems.
use Rattle.change_laws.proofs.laws.ModifiedLemmas.{modified-may, may-modified}
use Rattle.change_laws.proofs.laws.RenamedLemmas.{renamed-may, may-renamed}
use Rattle.change_laws.proofs.laws.exactly_what_may_be_changed_is_changed.Goals as goal

pub returns : goal.returns
returns c = record {
  modified = modified-may;
  only_modified = may-modified;
  renamed = renamed-may;
  only_renamed = may-renamed;
}
