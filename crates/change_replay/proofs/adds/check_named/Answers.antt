-- The new entry has its name.
use Rattle.std.proofs.Common.{◌∙◌, sym}
use Rattle.change_replay.proofs.adds.AddSteps.{named-new}
use Rattle.change_replay.proofs.adds.check_named.Goals as goal

pub check_new-requires : goal.check_new-requires
check_new-requires c =
    record { named = λ none. c.requires.named (sym (named-new c.args.name c.args.given.now c.in-Ok.entry c.in-Ok.ensures.ok) ∙ none) }
