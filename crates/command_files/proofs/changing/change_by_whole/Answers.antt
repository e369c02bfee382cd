use Rattle.command_files.proofs.loading.ChangeLemmas.{changed_by_whole-left, changed_by_whole-fault}
use Rattle.command_files.proofs.changing.change_by_whole.Goals as goal

-- the changes were read
pub returns-in-Ok-clause-exact : goal.returns-in-Ok-clause-exact
returns-in-Ok-clause-exact c =
    changed_by_whole-left _ _ _ _ _ c.split_at.ensures.front c.whole_length-whole.ensures.exact _ _ _ c.whole_length-whole.ensures.within c.in-Ok.ensures.exact c.deref.ensures.value c.apply.ensures.exact

-- they weren't
pub returns-in-Err-clause-exact : goal.returns-in-Err-clause-exact
returns-in-Err-clause-exact c = changed_by_whole-fault _ _ _ _ _ c.split_at.ensures.front c.whole_length-whole.ensures.exact _ c.in-Err.ensures.exact
