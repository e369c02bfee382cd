use Rattle.std.proofs.Common.{sym, ap, subst}
use Rattle.command_files.specs.dir_tree.tree.Numbered.{entries_of}
use Rattle.command_files.specs.aci_item.Rules.{IsGoodTree}
use Rattle.command_files.specs.Outside.{written}
use Rattle.acl_program.proofs.program.RunLemmas.{Played-nothing, Played-over}
use Rattle.acl_program.proofs.replay.play.Goals as goal

-- the directory is that of the tree
pub play_over-requires : goal.play_over-requires
play_over-requires g c = record { fresh = c.requires.fresh; good = subst (λ rows. IsGoodTree (entries_of rows)) (sym c.in-Ok.ensures.ok) c.requires.good }

pub returns-in-Ok : goal.returns-in-Ok
returns-in-Ok g c = record { ends = Played-over _ _ _ _ _ (written _ _) (written _ _) _ (ap entries_of c.in-Ok.ensures.ok) c.play_over.ensures.ends }

-- there was no memory for it
pub returns-in-Err : goal.returns-in-Err
returns-in-Err g c = record { ends = Played-nothing _ _ _ _ (written _ _) }
