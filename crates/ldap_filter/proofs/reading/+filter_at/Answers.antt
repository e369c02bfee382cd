-- One member more is read, or it can't be, or nothing is left.
use Rattle.std.proofs.Common.{◌≡◌, ◌++◌, ◌∷◌, [], ◌<◌, ℕ, List, Option, Some, None, true, false, eqb, length, sym, ap, ◌∙◌}
use Rattle.std.proofs.lemmas.Result.{err_from_is_err_and}
use Rattle.ber_layout.specs.element.Pieces.{◌>>=◌}
use Rattle.ber_layout.specs.components.Components.{Component, any_of}
use Rattle.ber_layout.proofs.Theorems.{fails_so}
use Rattle.ldap_filter.specs.filter.Filters.{Filter, Filters}
use Rattle.ldap_filter.specs.filter.Filters.Filters.{Nil, Cons}
use Rattle.ldap_filter.specs.reading.FilterReading.{filter_at, all_of}
use Rattle.ldap_filter.specs.reading.Joined.{joined, behind}
use Rattle.ldap_filter.proofs.reading.JoinedLemmas.{any_shorter, all_step, all_none, all_done, joined_nil, behind_more}
use Rattle.ldap_filter.proofs.reading.+filter_at.Goals as goal

-- there is no element
pub all-returns-in_err-found : goal.all-returns-in_err-found
all-returns-in_err-found t c =
    let p = err_from_is_err_and c.from_residual.result c.from_residual.ensures.1 in
    let reader = filter_at c.args.deep in
    let some : eqb (length c.loop-rest.rest.now) 0 ≡ false = sym c.is_empty.ensures ∙ c.loop-rest-test.true in
    rw (p.1, p.2) (fails_so c.in_err-found.field-0.0 (any_of c.loop-rest.rest.now) (all_of reader c.args.content.now)
    (λ none. c.loop-rest.invariant ∙ ap (behind c.loop-rest.members.items) (all_none reader c.loop-rest.rest.now some none)) c.in_err-found.ensures)

-- the element is no filter
pub all-returns-in_err-member : goal.all-returns-in_err-member
all-returns-in_err-member t c =
    let p = err_from_is_err_and c.from_residual-in_err-member.result c.from_residual-in_err-member.ensures.1 in
    let reader = filter_at c.args.deep in
    let tag = c.in_ok-found.found.tag in
    let content = c.in_ok-found.found.content.now in
    let rest = c.in_ok-found.found.rest.now in
    rw (p.1, p.2) (fails_so c.in_err-member.field-0.0 (reader (tag, content)) (all_of reader c.args.content.now)
    (λ none. c.loop-rest.invariant
    ∙ ap (behind c.loop-rest.members.items) (all_step reader c.loop-rest.rest.now (record { value = (tag, content); rest = rest }) c.in_ok-found.ensures)
    ∙ ap (λ (o : Option Filter). behind c.loop-rest.members.items (o >>= λ (first : Filter). (all_of reader rest >>= λ (others : Filters). Some (Cons first others)))) none) c.in_err-member.ensures)

pub all-loop-rest-smaller : goal.all-loop-rest-smaller
all-loop-rest-smaller t c =
    any_shorter c.loop-rest.rest.now (record { value = (c.in_ok-found.found.tag, c.in_ok-found.found.content.now); rest = c.in_ok-found.found.rest.now }) c.in_ok-found.ensures

-- one member more stands before those that are left
pub all-loop-rest-preserved : goal.all-loop-rest-preserved
all-loop-rest-preserved t c =
    let reader = filter_at c.args.deep in
    let rest = c.in_ok-found.found.rest.now in
    c.loop-rest.invariant
    ∙ ap (behind c.loop-rest.members.items) (all_step reader c.loop-rest.rest.now (record { value = (c.in_ok-found.found.tag, c.in_ok-found.found.content.now); rest = rest }) c.in_ok-found.ensures)
    ∙ ap (λ (o : Option Filter). behind c.loop-rest.members.items (o >>= λ (first : Filter). (all_of reader rest >>= λ (others : Filters). Some (Cons first others)))) c.in_ok-member.ensures
    ∙ behind_more c.loop-rest.members.items c.in_ok-member.member (all_of reader rest)
    ∙ ap (λ (l : List Filter). behind l (all_of reader rest)) (sym c.in_ok-put_last.ensures)

-- all are read
pub all-returns : goal.all-returns
all-returns t c =
    let reader = filter_at c.args.deep in
    let none : eqb (length c.loop-rest.rest.now) 0 ≡ true = sym c.is_empty.ensures ∙ c.loop-rest-test.false in
    c.loop-rest.invariant
    ∙ ap (behind c.loop-rest.members.items) (all_done reader c.loop-rest.rest.now none)
    ∙ ap (λ (f : Filters). Some f) (joined_nil c.loop-rest.members.items)
