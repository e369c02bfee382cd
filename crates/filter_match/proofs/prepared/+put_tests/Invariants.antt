-- The tests of the members so far were appended.
use Rattle.std.proofs.Common.{◌≡◌, ◌++◌, take}
use Rattle.ldap_filter.specs.filter.Filters.{filters_of}
use Rattle.filter_match.specs.walk.Walks.{tests_of_all}
use Rattle.filter_match.proofs.prepared.+put_tests.Given as goal

abbrev pub invariant-loop-member : goal.invariant-loop-member
invariant-loop-member l = l.tests.items ≡ l.fn.tests.items ++ tests_of_all (filters_of (take l.member-index l.member-items))
