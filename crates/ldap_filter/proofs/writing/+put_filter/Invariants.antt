-- The elements of the members so far were appended.
use Rattle.std.proofs.Common.{◌≡◌, ◌++◌, take}
use Rattle.ldap_filter.specs.filter.Filters.{filters_of}
use Rattle.ldap_filter.specs.FilterSpelling.{members_octets}
use Rattle.ldap_filter.proofs.writing.+put_filter.Given as goal

abbrev pub invariant-put_node-loop-member : goal.invariant-put_node-loop-member
invariant-put_node-loop-member l = l.out.items ≡ l.fn.out.items ++ members_octets (filters_of (take l.member-index l.member-items))
