use Rattle.command_files.proofs.changing.apply.Goals as goal

-- a good tree stays good
pub returns-in-Ok-clause-good : goal.returns-in-Ok-clause-good
returns-in-Ok-clause-good c = c.a_good_tree_stays_good_when_replayed.ensures.exact _ _ _ c.requires.good c.in-Ok.ensures.ok
