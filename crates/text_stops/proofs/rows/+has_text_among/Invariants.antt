-- The rows that are left are fewer.
use Rattle.std.proofs.Common.{length}
use Rattle.text_stops.proofs.rows.+has_text_among.Given as goal

abbrev pub decreases-has_text_among : goal.decreases-has_text_among
decreases-has_text_among l = length l.rows.now
