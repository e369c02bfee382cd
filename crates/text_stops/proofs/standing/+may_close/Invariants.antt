-- The rows that are left are fewer.
use Rattle.std.proofs.Common.{length}
use Rattle.text_stops.proofs.standing.+may_close.Given as goal

abbrev pub decreases-may_close : goal.decreases-may_close
decreases-may_close l = length l.rows.now
