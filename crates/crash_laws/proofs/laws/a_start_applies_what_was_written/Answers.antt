-- By the theorems, over the laws of files.
use Rattle.sha2.specs.Sha256.{sha256}
use Rattle.whole_blocks.specs.Blocks.{whole_part}
use Rattle.crash_laws.proofs.laws.DigestLemmas.{sha256_digest}
use Rattle.crash_laws.proofs.laws.StartingLemmas.{written_started, torn_started}
use Rattle.crash_laws.proofs.laws.a_start_applies_what_was_written.Goals as goal

pub returns : goal.returns
returns c = record {
  exact = λ first content done text written.
      written_started first content done text written (c.a_written_file_is_read_again.ensures.exact first (sha256 content) done (whole_part text) written);
  head = λ first content. c.a_file_begins_with_its_head.ensures.exact first (sha256 content) (sha256_digest content);
  torn = torn_started;
}
