-- By the theorems, over the laws of what goes on and of what is recovered.
use Rattle.crash_laws.proofs.laws.ShownLemmas.{shown_kept, there_kept}
use Rattle.crash_laws.proofs.laws.a_crash_keeps_what_was_shown.Goals as goal

pub returns : goal.returns
returns c =
    let turns = c.a_server_writes_its_file_on.ensures.front in
    let recovers = c.what_was_accepted_is_recovered.ensures.exact in
    record { exact = shown_kept turns recovers; begun = there_kept turns recovers }
