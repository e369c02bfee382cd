-- A level deeper is nearer to the end; the filters so far stand before those that are left.
use Rattle.std.proofs.Common.{◌≡◌, ◌+◌, ◌*◌, length}
use Rattle.ldap_filter.specs.reading.FilterReading.{filter_at, all_of}
use Rattle.ldap_filter.specs.reading.Joined.{behind}
use Rattle.ldap_filter.proofs.reading.+filter_at.Given as goal

abbrev pub decreases-filter_at : goal.decreases-filter_at
decreases-filter_at l = 4 * l.deep

abbrev pub decreases-level : goal.decreases-level
decreases-level l = 4 * l.deep + 3

abbrev pub decreases-all : goal.decreases-all
decreases-all l = 4 * l.deep + 1

abbrev pub decreases-only : goal.decreases-only
decreases-only l = 4 * l.deep + 2

abbrev pub invariant-all-loop-rest : goal.invariant-all-loop-rest
invariant-all-loop-rest l = all_of (filter_at l.deep) l.content ≡ behind l.members.items (all_of (filter_at l.deep) l.rest)

abbrev pub decreases-all-loop-rest : goal.decreases-all-loop-rest
decreases-all-loop-rest l = length l.rest
