-- A member is walked over after the other; an item is walked over at once.
use Rattle.std.proofs.Common.{◌≡◌, true, List, sym, ap, ◌∙◌, subst, inl, inr}
use Rattle.ldap_filter.specs.declared.filter.Node.{Node}
use Rattle.ldap_filter.specs.filter.Nodes.{filter_of_node}
use Rattle.ldap_filter.specs.filter.Filters.{Filter, filters_of}
use Rattle.ldap_filter.specs.filter.Filters.Filter.{And, Or}
use Rattle.filter_match.specs.Tests.{test_of}
use Rattle.filter_match.specs.Judging.{judged}
use Rattle.filter_match.specs.walk.Walks.{tests_of, asks_all_of_and, asks_all_of_or, Walks}
use Rattle.filter_match.proofs.walk.WalkLemmas.{on_the_way-start, on_the_way-next, on_the_way-all, is_item, walks_item}
use Rattle.filter_match.proofs.walk.+walk.Goals as goal

pub loop-member-init : goal.loop-member-init
loop-member-init g t c =
    on_the_way-start c.asks_all_of_and-every.result (g.J.Judge.answers c.args.judge.now) c.args.question c.deref-member-items.result.now c.args.tests.now

pub loop-member-2-init : goal.loop-member-2-init
loop-member-2-init g t c =
    on_the_way-start c.asks_all_of_or-every.result (g.J.Judge.answers c.args.judge.now) c.args.question c.deref-member-items-in-Or.result.now c.args.tests.now

pub loop-member-preserved : goal.loop-member-preserved
loop-member-preserved g t c =
    on_the_way-next c.asks_all_of_and-every.result (g.J.Judge.answers c.args.judge.now) c.args.question c.deref-member-items.result.now
    c.loop-member.member-index c.args.tests.now c.loop-member.holds c.loop-member.rest.now c.member-item.result c.asked_next-asked.result
    c.walk-walked.result.holds c.join-holds.result c.walk-walked.result.rest.now
    c.loop-member.invariant c.loop-member-test.true c.member-item.is c.asked_next-asked.ensures c.walk-walked.ensures c.join-holds.ensures

pub loop-member-2-preserved : goal.loop-member-2-preserved
loop-member-2-preserved g t c =
    on_the_way-next c.asks_all_of_or-every.result (g.J.Judge.answers c.args.judge.now) c.args.question c.deref-member-items-in-Or.result.now
    c.loop-member-2.member-index c.args.tests.now c.loop-member-2.holds c.loop-member-2.rest.now c.member-item-in-loop-member-2.result c.asked_next-asked-in-loop-member-2.result
    c.walk-walked-in-loop-member-2.result.holds c.join-holds-in-loop-member-2.result c.walk-walked-in-loop-member-2.result.rest.now
    c.loop-member-2.invariant c.loop-member-2-test.true c.member-item-in-loop-member-2.is c.asked_next-asked-in-loop-member-2.ensures c.walk-walked-in-loop-member-2.ensures c.join-holds-in-loop-member-2.ensures

pub returns-after-loop-member : goal.returns-after-loop-member
returns-after-loop-member g t c =
    let answers = g.J.Judge.answers c.args.judge.now in
    let members = c.deref-member-items.result.now in
    let is : c.args.filter.now ≡ And (filters_of members) =
    sym c.filter.view_is ∙ ap filter_of_node c.in-And.is ∙ ap (λ (l : List Filter). And (filters_of l)) (sym c.deref-member-items.ensures.value) in
    subst (λ (filter : Filter). Walks (tests_of filter) (judged answers c.args.question filter) c.args.tests.now c.loop-member.holds c.loop-member.rest.now) (sym is)
    (on_the_way-all c.asks_all_of_and-every.result (asks_all_of_and c.args.question) answers c.args.question members c.loop-member.member-index c.args.tests.now c.loop-member.holds c.loop-member.rest.now
    c.asks_all_of_and-every.ensures c.loop-member.invariant c.loop-member-test.false)

pub returns-after-loop-member-2 : goal.returns-after-loop-member-2
returns-after-loop-member-2 g t c =
    let answers = g.J.Judge.answers c.args.judge.now in
    let members = c.deref-member-items-in-Or.result.now in
    let is : c.args.filter.now ≡ Or (filters_of members) =
    sym c.filter.view_is ∙ ap filter_of_node c.in-Or.is ∙ ap (λ (l : List Filter). Or (filters_of l)) (sym c.deref-member-items-in-Or.ensures.value) in
    subst (λ (filter : Filter). Walks (tests_of filter) (judged answers c.args.question filter) c.args.tests.now c.loop-member-2.holds c.loop-member-2.rest.now) (sym is)
    (on_the_way-all c.asks_all_of_or-every.result (asks_all_of_or c.args.question) answers c.args.question members c.loop-member-2.member-index c.args.tests.now c.loop-member-2.holds c.loop-member-2.rest.now
    c.asks_all_of_or-every.ensures c.loop-member-2.invariant c.loop-member-2-test.false)

-- whichever item it is
pub returns-in-Equal : goal.returns-in-Equal
returns-in-Equal g t c =
    let of = λ (node : Node). is_item (filter_of_node node) in
    let is : is_item c.args.filter.now ≡ true =
    ap is_item (sym c.filter.view_is)
    ∙ elim c.in-Equal.is [
      | inl equal ↦ ap of equal.2
      | inr others ↦ elim others [
        | inl parts ↦ ap of parts.4
        | inr others ↦ elim others [
          | inl at_least ↦ ap of at_least.2
          | inr others ↦ elim others [
            | inl at_most ↦ ap of at_most.2
            | inr others ↦ elim others [
              | inl present ↦ ap of present.1
              | inr others ↦ elim others [
                | inl approx ↦ ap of approx.2
                | inr extensible ↦ ap of extensible.1
              ]
            ]
          ]
        ]
      ]
    ] in
    walks_item c.args.filter.now (g.J.Judge.answers c.args.judge.now) c.args.question c.args.tests.now c.item.result.holds c.item.result.rest.now is
    (c.item.ensures (test_of c.args.filter.now))
