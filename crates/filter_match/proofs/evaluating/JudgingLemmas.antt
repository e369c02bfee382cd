-- What the items' answers say of a filter: its truth, where they are asked with permission, and no less where not.
use Rattle.std.proofs.Common.{◌≡◌, Bool, true, false, ◌&&◌, List, [], ◌∷◌, refl, sym, ap, ◌∙◌, inl, inr, if◌then◌else◌}
use Rattle.std.proofs.lemmas.Bool.{false≢true, and_parts, and_from, or_right, or_left, or_cases}
use Rattle.std.specs.List.{list_any}
use Rattle.dir_tree.specs.Entry.{EntryInformation, values_of}
use Rattle.ldap_filter.specs.filter.Filters.{Filter, Filters}
use Rattle.ldap_filter.specs.filter.Filters.Filter.{And, Or, Not, Equal, Parts, AtLeast, AtMost, Present, Approx, Extensible}
use Rattle.ldap_filter.specs.filter.Filters.Filters.{Nil, Cons}
use Rattle.filter_match.specs.declared.question.Question.{Question}
use Rattle.filter_match.specs.declared.question.Question.TheVariants.{IsTrue, IsFalse, Settled}
use Rattle.filter_match.specs.declared.truth.Truth.TheVariants.{True, False, Undefined}
use Rattle.filter_match.specs.Judging.{exact, possible, has_possible, judged, judged_all}
use Rattle.filter_match.specs.Tests.{Test, test_of}
use Rattle.filter_match.specs.Tests.Test.{Nothing, IsThere, HasValue}
use Rattle.filter_match.specs.Truth.{Permits, is_true, matches, has_match, test_truth, truth, truths}
use Rattle.filter_match.specs.walk.Walks.{answer, turned, asks_all_of_and, asks_all_of_or, join, joined}
use Rattle.filter_match.proofs.evaluating.JoinLemmas.{answer-all_of, answer-any_of, answer-negated}

-- ---- with permission

mutual
  pub judged-exact : (permits : Permits) (entry : EntryInformation) (question : Question) (filter : Filter)
      → judged (exact permits entry) question filter ≡ answer question (truth permits entry filter)
  judged-exact permits entry question (And members) =
      judged_all-exact (asks_all_of_and question) permits entry question members ∙ sym (answer-all_of question (truths permits entry members))
  judged-exact permits entry question (Or members) =
      judged_all-exact (asks_all_of_or question) permits entry question members ∙ sym (answer-any_of question (truths permits entry members))
  judged-exact permits entry question (Not member) =
      judged-exact permits entry (turned question) member ∙ sym (answer-negated question (truth permits entry member))
  judged-exact permits entry question (Equal kind value) = refl
  judged-exact permits entry question (Parts kind initial any final) = refl
  judged-exact permits entry question (AtLeast kind value) = refl
  judged-exact permits entry question (AtMost kind value) = refl
  judged-exact permits entry question (Present kind) = refl
  judged-exact permits entry question (Approx kind value) = refl
  judged-exact permits entry question (Extensible content) = refl

  judged_all-exact : (every : Bool) (permits : Permits) (entry : EntryInformation) (question : Question) (members : Filters)
      → judged_all every (exact permits entry) question members ≡ joined every question (truths permits entry members)
  judged_all-exact every permits entry question Nil = refl
  judged_all-exact every permits entry question (Cons first rest) =
      ap (λ (one : Bool). join every one (judged_all every (exact permits entry) question rest)) (judged-exact permits entry question first)
      ∙ ap (λ (others : Bool). join every (answer question (truth permits entry first)) others) (judged_all-exact every permits entry question rest)

-- ---- what one says yes to, the other does too

join-weaker : (every one first other second : Bool) → (one ≡ true → first ≡ true) → (other ≡ true → second ≡ true) → join every one other ≡ true → join every first second ≡ true
join-weaker true one first other second so also holds =
    let parts = and_parts one other holds in
    and_from first second (so parts.0) (also parts.1)
join-weaker false one first other second so also holds =
    elim (or_cases one other holds) [
      | inl here ↦ or_left first second (so here)
      | inr later ↦ or_right first second (also later)
    ]

mutual
  pub judged-weaker : (one other : Question → Test → Bool) → ((question : Question) (test : Test) → one question test ≡ true → other question test ≡ true)
      → (question : Question) (filter : Filter) → judged one question filter ≡ true → judged other question filter ≡ true
  judged-weaker one other so question (And members) holds = judged_all-weaker (asks_all_of_and question) one other so question members holds
  judged-weaker one other so question (Or members) holds = judged_all-weaker (asks_all_of_or question) one other so question members holds
  judged-weaker one other so question (Not member) holds = judged-weaker one other so (turned question) member holds
  judged-weaker one other so question (Equal kind value) holds = so question (test_of (Equal kind value)) holds
  judged-weaker one other so question (Parts kind initial any final) holds = so question (test_of (Parts kind initial any final)) holds
  judged-weaker one other so question (AtLeast kind value) holds = so question (test_of (AtLeast kind value)) holds
  judged-weaker one other so question (AtMost kind value) holds = so question (test_of (AtMost kind value)) holds
  judged-weaker one other so question (Present kind) holds = so question (test_of (Present kind)) holds
  judged-weaker one other so question (Approx kind value) holds = so question (test_of (Approx kind value)) holds
  judged-weaker one other so question (Extensible content) holds = so question (test_of (Extensible content)) holds

  judged_all-weaker : (every : Bool) (one other : Question → Test → Bool) → ((question : Question) (test : Test) → one question test ≡ true → other question test ≡ true)
      → (question : Question) (members : Filters) → judged_all every one question members ≡ true → judged_all every other question members ≡ true
  judged_all-weaker every one other so question Nil holds = holds
  judged_all-weaker every one other so question (Cons first rest) holds =
      join-weaker every (judged one question first) (judged other question first) (judged_all every one question rest) (judged_all every other question rest)
      (judged-weaker one other so question first) (judged_all-weaker every one other so question rest) holds

-- ---- without permission

pub found_so : (permitted found : Bool) → is_true (if permitted then (if found then True else False) else Undefined) ≡ true → found ≡ true
found_so true true holds = refl
found_so true false holds = holds
found_so false true holds = refl
found_so false false holds = holds

pub list_any-weaker : {A : Type 0} (one other : A → Bool) (items : List A) → list_any (λ item. one item && other item) items ≡ true → list_any one items ≡ true
list_any-weaker one other [] holds = holds
list_any-weaker one other (item ∷ items) holds =
    elim (or_cases (one item && other item) _ holds) [
      | inl here ↦ or_left (one item) _ (and_parts (one item) (other item) here).0
      | inr later ↦ or_right (one item) _ (list_any-weaker one other items later)
    ]

possible-weaker : (permits : Permits) (entry : EntryInformation) (question : Question) (test : Test) → exact permits entry question test ≡ true → possible entry question test ≡ true
unfolding test_truth has_possible has_match
possible-weaker permits entry IsTrue Nothing holds = holds
possible-weaker permits entry IsTrue (IsThere kind) holds = found_so (permits.kind kind) _ holds
possible-weaker permits entry IsTrue (HasValue kind asserted) holds =
    list_any-weaker (matches asserted) (permits.value kind) (values_of kind entry.attributes) (found_so (permits.kind kind) _ holds)
possible-weaker permits entry IsFalse test holds = refl
possible-weaker permits entry Settled test holds = holds

pub not_so : (one other : Bool) → (one ≡ true → other ≡ true) → other ≡ false → one ≡ false
not_so true other so is = absurd (false≢true (sym is ∙ so refl))
not_so false other so is = refl

-- a filter that no permission makes True is not
pub possible-false : (permits : Permits) (entry : EntryInformation) (filter : Filter) → judged (possible entry) IsTrue filter ≡ false → is_true (truth permits entry filter) ≡ false
possible-false permits entry filter is =
    not_so _ _ (λ holds. judged-weaker (exact permits entry) (possible entry) (possible-weaker permits entry) IsTrue filter (judged-exact permits entry IsTrue filter ∙ holds)) is
