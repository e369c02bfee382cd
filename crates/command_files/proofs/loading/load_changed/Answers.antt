use Rattle.command_files.proofs.loading.ChangeLemmas.{LoadsTree-read, LoadsTree-unread, LoadsFile-good}
use Rattle.command_files.proofs.loading.load_changed.Goals as goal

-- the tree is good
pub load_changes-requires : goal.load_changes-requires
load_changes-requires g c = record { good = LoadsFile-good _ _ _ _ _ c.in-Ok.ensures.exact }

-- the data file is accepted
pub returns-in-Ok-clause-exact : goal.returns-in-Ok-clause-exact
returns-in-Ok-clause-exact g c = LoadsTree-read _ _ _ _ _ _ _ _ _ _ c.as_slice.ensures.value c.in-Ok.ensures.kept c.in-Ok.ensures.exact c.load_changes.ensures.exact

-- it isn't
pub returns-in-Err-clause-exact : goal.returns-in-Err-clause-exact
returns-in-Err-clause-exact g c = LoadsTree-unread _ _ _ _ _ _ c.in-Err.ensures.exact
