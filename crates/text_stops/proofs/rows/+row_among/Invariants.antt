-- The rows that are left are fewer.
use Rattle.std.proofs.Common.{length}
use Rattle.text_stops.proofs.rows.+row_among.Given as goal

abbrev pub decreases-row_among : goal.decreases-row_among
decreases-row_among l = length l.rows.now
