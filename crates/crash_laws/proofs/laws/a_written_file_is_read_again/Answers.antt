-- By the theorem, over the law of what is recovered.
use Rattle.crash_laws.proofs.laws.CrashLemmas.{written-read}
use Rattle.crash_laws.proofs.laws.a_written_file_is_read_again.Goals as goal

pub returns : goal.returns
returns c = record { exact = written-read c.what_was_accepted_is_recovered.ensures.exact }
