-- The members so far were printed.
use Rattle.std.proofs.Common.{◌≡◌, ◌++◌, [], ◌∷◌, take}
use Rattle.ldap_filter.specs.filter.Filters.{filters_of}
use Rattle.filter_text.specs.Printing.{print_filters}
use Rattle.filter_text.proofs.printing.+put_filter.Given as goal

abbrev pub invariant-put_node-loop-conjunct : goal.invariant-put_node-loop-conjunct
invariant-put_node-loop-conjunct l = l.out.items ≡ l.fn.out.items ++ 40 ∷ 38 ∷ print_filters (filters_of (take l.conjunct-index l.conjunct-items))

abbrev pub invariant-put_node-loop-disjunct : goal.invariant-put_node-loop-disjunct
invariant-put_node-loop-disjunct l = l.out.items ≡ l.fn.out.items ++ 40 ∷ 124 ∷ print_filters (filters_of (take l.disjunct-index l.disjunct-items))
