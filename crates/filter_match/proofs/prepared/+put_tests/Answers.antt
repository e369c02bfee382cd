-- The tests of one member more were appended.
use Rattle.std.proofs.Common.{◌++◌, List, sym, ap, ◌∙◌, take, append_assoc}
use Rattle.ldap_filter.specs.filter.Filters.{filters_of}
use Rattle.filter_match.specs.Tests.{Test}
use Rattle.filter_match.specs.walk.Walks.{tests_of, tests_of_all}
use Rattle.filter_match.proofs.walk.WalkLemmas.{tests_of_all-more}
use Rattle.filter_match.proofs.prepared.+put_tests.Goals as goal

pub loop-member-preserved : goal.loop-member-preserved
loop-member-preserved t c =
    let members = c.deref-member-items.result.now in
    let old = c.args.tests.now.items in
    let done = tests_of_all (filters_of (take c.loop-member.member-index members)) in
    c.in_ok-put_tests-in-And.ensures
    ∙ ap (λ (tests : List Test). tests ++ tests_of c.member-item.result) c.loop-member.invariant
    ∙ append_assoc old done (tests_of c.member-item.result)
    ∙ ap (λ (tests : List Test). old ++ tests) (sym (tests_of_all-more members c.loop-member.member-index c.member-item.result c.loop-member-test.true c.member-item.is))
