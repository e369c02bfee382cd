use Rattle.std.proofs.Common.{refl, sym}
use Rattle.command_words.specs.command.Command.{Ask}
use Rattle.command_files.specs.declared.loading.SecondFile.TheVariants as second
use Rattle.command_files.specs.loading.Accepting.{IsBadRequests}
use Rattle.command_files.specs.loading.Loading.{LoadsRequests}
use Rattle.acl_program.specs.program.Causes.{second_named}
use Rattle.acl_program.proofs.asking.AskLemmas.{LoadsRequests-sendable, Performs-asked}
use Rattle.acl_program.proofs.program.PerformLemmas.{Performs-second_refused}
use Rattle.acl_program.proofs.asking.ask_over.Goals as goal

-- the requests can be sent
pub print_asked-requires : goal.print_asked-requires
print_asked-requires g c = record { sendable = rw c.as_slice.ensures.value (LoadsRequests-sendable _ _ _ _ _ c.in-Ok.ensures.exact) }

-- they were read
pub returns-in-Ok-clause-performs : goal.returns-in-Ok-clause-performs
returns-in-Ok-clause-performs g c = rw (sym c.outside.view_is) (λ name before loads. Performs-asked name _ _ _ _ _ _ _ _ _ c.as_slice.ensures.value loads c.in-Ok.ensures.exact c.print_asked.ensures.ends refl)

-- they weren't
pub returns-in-Err-clause-performs : goal.returns-in-Err-clause-performs
unfolding LoadsRequests
returns-in-Err-clause-performs g c = rw (sym c.outside.view_is) (λ name before loads.
    Performs-second_refused (Ask name c.args.asked.now.requests.now c.args.asked.now.script) name (second_named second.Requests c.args.asked.now.requests.now) IsBadRequests _ _ _ _ _ _
    refl refl (λ line content bad. bad) loads c.in-Err.ensures.exact c.print_trouble.ensures.ends refl)
