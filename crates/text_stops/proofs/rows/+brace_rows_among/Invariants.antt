-- The rows that are left are fewer.
use Rattle.std.proofs.Common.{length}
use Rattle.text_stops.proofs.rows.+brace_rows_among.Given as goal

abbrev pub decreases-brace_rows_among : goal.decreases-brace_rows_among
decreases-brace_rows_among l = length l.rows.now
