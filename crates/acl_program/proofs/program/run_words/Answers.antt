use Rattle.std.proofs.Common.{refl, sym}
use Rattle.acl_program.proofs.program.RunLemmas.{Runs-performed, Runs-unread, Runs-usage}
use Rattle.acl_program.proofs.sample.SampleLemmas.{few_of}
use Rattle.acl_program.proofs.program.run_words.Goals as goal

-- a command asks for no more persons than it may
pub perform-requires : goal.perform-requires
perform-requires g c = record { few = few_of _ _ (rw c.in-Ok-Some.field-0-is at c.in-Ok-Some.ensures.found) }

-- the words ask for a command
pub returns-in-Ok-Some-clause-runs : goal.returns-in-Ok-Some-clause-runs
returns-in-Ok-Some-clause-runs g c =
    Runs-performed _ _ _ _ _ (rw c.in-Ok-Some.field-0-is at c.in-Ok-Some.ensures.found) c.perform.ensures.performs

-- they ask for nothing
pub returns-in-Ok-None-clause-runs : goal.returns-in-Ok-None-clause-runs
returns-in-Ok-None-clause-runs g c =
    rw (sym c.outside.view_is) (Runs-usage _ _ _ _ (rw c.in-Ok-None.field-0-is at c.in-Ok-None.ensures.only) c.print_usage.ensures.ends refl refl)

-- there was no memory to read them
pub returns-in-Err-clause-runs : goal.returns-in-Err-clause-runs
returns-in-Err-clause-runs g c = Runs-unread _ _ _ refl refl refl
