use Rattle.command_files.proofs.loading.load_tree.Goals as goal

-- the files were loaded, or not
pub returns-in-Some-clause-exact : goal.returns-in-Some-clause-exact
returns-in-Some-clause-exact g c = rw c.in-Some.is c.load_changed.ensures.exact

pub returns-in-None-clause-exact : goal.returns-in-None-clause-exact
returns-in-None-clause-exact g c = rw c.in-None.is c.load_unchanged.ensures.exact
