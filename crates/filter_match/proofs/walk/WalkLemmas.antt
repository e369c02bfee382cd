-- A walk over the members of an and or an or, one member after the other.
use Rattle.std.proofs.Common.{◌≡◌, ℕ, ◌+◌, ◌<◌, ◌≤◌, suc, Bool, true, false, List, [], ◌∷◌, ◌++◌, refl, sym, ap, ◌∙◌, drop, length, get_or, add-one, drop-cons, append_assoc, append-nil, take, subst}
use Rattle.std.proofs.lemmas.List.{drop_all, take_more}
use Rattle.std.proofs.lemmas.Bool.{false≢true}
use Rattle.ldap_filter.specs.filter.Filters.{Filter, filters_of}
use Rattle.ldap_filter.specs.filter.Filters.Filter.{And, Or, Not, Equal, Parts, AtLeast, AtMost, Present, Approx, Extensible}
use Rattle.filter_match.specs.declared.question.Question.{Question}
use Rattle.filter_match.specs.Judging.{judged, judged_all}
use Rattle.filter_match.specs.walk.OnTheWay.{IsOnTheWay}
use Rattle.filter_match.specs.Tests.{Test, test_of}
use Rattle.filter_match.specs.walk.Walks.{tests_of, tests_of_all, join, asked_next, Walks}
use Rattle.filter_match.proofs.evaluating.JoinLemmas.{join-every, join-done}

-- the members from an index on: the one there, and those behind it
drop_at : (members : List Filter) (index : ℕ) (member : Filter) → index < length members → member ≡ get_or members index member
    → drop index members ≡ member ∷ drop (index + 1) members
drop_at members index member within is =
    rw (add-one, drop-cons members index member) (ap (λ (first : Filter). first ∷ drop (suc index) members) (sym is))

-- at the start nothing was asked
pub on_the_way-start : (every : Bool) (answers : Question → Test → Bool) (question : Question) (members : List Filter) (tests : List Test)
    → IsOnTheWay every answers question members 0 tests every tests
unfolding IsOnTheWay
on_the_way-start every answers question members tests others is =
    (join-every every (judged_all every answers question (filters_of members)), is)

-- what was not asked changes no answer that was settled
one_more : (every holds left found now : Bool) (answers : Question → Test → Bool) (question asked : Question) (member : Filter)
    → asked ≡ asked_next every holds question → found ≡ judged answers asked member → now ≡ join every holds found
    → join every now left ≡ join every holds (join every (judged answers question member) left)
one_more true true left found now answers question asked member is_asked is_found is_now = rw (is_now, is_found, is_asked) refl
one_more true false left found now answers question asked member is_asked is_found is_now = rw is_now refl
one_more false true left found now answers question asked member is_asked is_found is_now = rw is_now refl
one_more false false left found now answers question asked member is_asked is_found is_now = rw (is_now, is_found, is_asked) refl

-- one member more
pub on_the_way-next : (every : Bool) (answers : Question → Test → Bool) (question : Question) (members : List Filter) (index : ℕ)
    (tests : List Test) (holds : Bool) (rest : List Test) (member : Filter) (asked : Question) (found now : Bool) (left : List Test)
    → IsOnTheWay every answers question members index tests holds rest
    → index < length members → member ≡ get_or members index member
    → asked ≡ asked_next every holds question
    → Walks (tests_of member) (judged answers asked member) rest found left
    → now ≡ join every holds found
    → IsOnTheWay every answers question members (index + 1) tests now left
unfolding IsOnTheWay
on_the_way-next every answers question members index tests holds rest member asked found now left before within is is_asked walks is_now others same =
    let so_far = before others same in
    let at = drop_at members index member within is in
    let behind = tests_of_all (filters_of (drop (index + 1) members)) in
    let step = walks (behind ++ others)
    (so_far.1 ∙ ap (λ (l : List Filter). tests_of_all (filters_of l) ++ others) at ∙ append_assoc (tests_of member) behind others) in (
      one_more every holds (judged_all every answers question (filters_of (drop (index + 1) members))) found now answers question asked member is_asked step.0 is_now
          ∙ ap (λ (l : List Filter). join every holds (judged_all every answers question (filters_of l))) (sym at)
          ∙ so_far.0,
      step.1,
    )

-- at the end all members were asked
on_the_way-end : (every : Bool) (answers : Question → Test → Bool) (question : Question) (members : List Filter) (index : ℕ)
    (tests : List Test) (holds : Bool) (rest : List Test)
    → IsOnTheWay every answers question members index tests holds rest → length members ≤ index
    → Walks (tests_of_all (filters_of members)) (judged_all every answers question (filters_of members)) tests holds rest
unfolding IsOnTheWay
on_the_way-end every answers question members index tests holds rest before past others same =
    let so_far = before others same in
    let none_left : drop index members ≡ [] = drop_all index members past in (
      sym (join-done every holds)
          ∙ ap (λ (l : List Filter). join every holds (judged_all every answers question (filters_of l))) (sym none_left)
          ∙ so_far.0,
      so_far.1 ∙ ap (λ (l : List Filter). tests_of_all (filters_of l) ++ others) none_left,
    )

-- with the answers of all members in another spelling
pub on_the_way-all : (every whole : Bool) (answers : Question → Test → Bool) (question : Question) (members : List Filter) (index : ℕ)
    (tests : List Test) (holds : Bool) (rest : List Test) → every ≡ whole
    → IsOnTheWay every answers question members index tests holds rest → length members ≤ index
    → Walks (tests_of_all (filters_of members)) (judged_all whole answers question (filters_of members)) tests holds rest
on_the_way-all every whole answers question members index tests holds rest is before past =
    subst (λ (b : Bool). Walks (tests_of_all (filters_of members)) (judged_all b answers question (filters_of members)) tests holds rest) is
    (on_the_way-end every answers question members index tests holds rest before past)

-- ---- the tests of members, one member more at the end

tests_of_all-snoc : (members : List Filter) (member : Filter) → tests_of_all (filters_of (members ++ member ∷ [])) ≡ tests_of_all (filters_of members) ++ tests_of member
tests_of_all-snoc [] member = append-nil (tests_of member)
tests_of_all-snoc (first ∷ rest) member =
    ap (λ (tests : List Test). tests_of first ++ tests) (tests_of_all-snoc rest member)
    ∙ sym (append_assoc (tests_of first) (tests_of_all (filters_of rest)) (tests_of member))

pub tests_of_all-more : (members : List Filter) (index : ℕ) (member : Filter) → index < length members → member ≡ get_or members index member
    → tests_of_all (filters_of (take (index + 1) members)) ≡ tests_of_all (filters_of (take index members)) ++ tests_of member
tests_of_all-more members index member within is =
    ap (λ (l : List Filter). tests_of_all (filters_of l)) (take_more members index member within ∙ ap (λ (last : Filter). take index members ++ last ∷ []) (sym is))
    ∙ tests_of_all-snoc (take index members) member

-- ---- items

-- the filter is an item
abbrev pub is_item : Filter → Bool
is_item (And members) = false
is_item (Or members) = false
is_item (Not member) = false
is_item (Equal kind value) = true
is_item (Parts kind initial any final) = true
is_item (AtLeast kind value) = true
is_item (AtMost kind value) = true
is_item (Present kind) = true
is_item (Approx kind value) = true
is_item (Extensible content) = true

pub walks_item : (filter : Filter) (answers : Question → Test → Bool) (question : Question) (tests : List Test) (holds : Bool) (rest : List Test)
    → is_item filter ≡ true
    → Walks (test_of filter ∷ []) (answers question (test_of filter)) tests holds rest
    → Walks (tests_of filter) (judged answers question filter) tests holds rest
walks_item (And members) answers question tests holds rest is walks = absurd (false≢true is)
walks_item (Or members) answers question tests holds rest is walks = absurd (false≢true is)
walks_item (Not member) answers question tests holds rest is walks = absurd (false≢true is)
walks_item (Equal kind value) answers question tests holds rest is walks = walks
walks_item (Parts kind initial any final) answers question tests holds rest is walks = walks
walks_item (AtLeast kind value) answers question tests holds rest is walks = walks
walks_item (AtMost kind value) answers question tests holds rest is walks = walks
walks_item (Present kind) answers question tests holds rest is walks = walks
walks_item (Approx kind value) answers question tests holds rest is walks = walks
walks_item (Extensible content) answers question tests holds rest is walks = walks
