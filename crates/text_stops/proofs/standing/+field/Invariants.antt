-- The rows that are left are fewer.
use Rattle.std.proofs.Common.{length}
use Rattle.text_stops.proofs.standing.+field.Given as goal

abbrev pub decreases-field : goal.decreases-field
decreases-field l = length l.rows.now
