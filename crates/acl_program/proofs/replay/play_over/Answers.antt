use Rattle.std.proofs.Common.{sym, ap, ◌∙◌, subst}
use Rattle.command_files.specs.dir_tree.tree.Numbered.{entries_of}
use Rattle.command_files.specs.aci_item.Rules.{IsGoodTree}
use Rattle.command_files.specs.Outside.{written}
use Rattle.acl_program.specs.Outcomes.{dump_text}
use Rattle.acl_program.proofs.program.RunLemmas.{Played-stopped, Played-spent, Played-nothing, no_fault, no_store_fault}
use Rattle.acl_program.proofs.replay.play_over.Goals as goal

-- Stop was heard
pub dumped-requires : goal.dumped-requires
dumped-requires g c = record { good = subst (λ rows. IsGoodTree (entries_of rows)) (sym c.tree.ensures.exact) c.in-Stopped.ensures.good }

pub returns-in-Stopped : goal.returns-in-Stopped
returns-in-Stopped g c =
    record { ends = Played-stopped _ _ _ _ c.args.dump _ _ (written _ _) (written _ _) _ c.in-Stopped.ensures.plays (c.dumped.ensures.text ∙ ap (λ rows. dump_text c.args.dump (entries_of rows)) c.tree.ensures.exact) c.show.ensures.ends }

-- the turns are spent
pub dumped-requires-in-TurnsSpent : goal.dumped-requires-in-TurnsSpent
dumped-requires-in-TurnsSpent g c = record { good = subst (λ rows. IsGoodTree (entries_of rows)) (sym c.tree-in-TurnsSpent.ensures.exact) c.in-TurnsSpent.ensures.good }

pub returns-in-TurnsSpent : goal.returns-in-TurnsSpent
returns-in-TurnsSpent g c =
    record { ends = Played-spent _ _ _ _ c.args.dump _ _ (written _ _) (written _ _) _ c.in-TurnsSpent.ensures.plays (c.dumped-in-TurnsSpent.ensures.text ∙ ap (λ rows. dump_text c.args.dump (entries_of rows)) c.tree-in-TurnsSpent.ensures.exact) c.show-in-TurnsSpent.ensures.ends }

-- the link never fails
pub returns-in-LinkFault : goal.returns-in-LinkFault
returns-in-LinkFault g c = absurd (no_fault _ _ _ _ _ c.in-LinkFault.ensures.plays)

-- nor its store
pub returns-in-StoreFault : goal.returns-in-StoreFault
returns-in-StoreFault g c = absurd (no_store_fault _ _ _ _ _ c.in-StoreFault.ensures.plays)

-- nothing was put
pub returns : goal.returns
returns g c = record { ends = Played-nothing _ _ _ _ (written _ _) }
