-- By the laws above.
use Rattle.std.proofs.Common.{◌++◌}
use Rattle.sha2.specs.Sha256.{sha256}
use Rattle.crash_laws.proofs.laws.a_start_after_a_crash_has_what_was_shown.Goals as goal

pub returns : goal.returns
returns c = record {
  exact = λ terms first content done file steps journal given sound early before taking text left.
      (let kept = c.a_crash_keeps_what_was_shown.ensures.exact terms first (sha256 content) done file steps journal given sound early before taking text left in
      record {
        kept = kept;
        started = c.a_start_applies_what_was_written.ensures.exact first content (done ++ (kept.shown ++ kept.more)) text kept.written;
      });
}
