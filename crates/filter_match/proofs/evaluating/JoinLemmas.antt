-- The truth of an and or an or is what the answers of its members say together.
use Rattle.std.proofs.Common.{◌≡◌, Bool, true, false, ◌&&◌, ◌||◌, refl, sym, ap, ◌∙◌, List, [], ◌∷◌, if◌then◌else◌}
use Rattle.std.specs.List.{list_any, list_all}
use Rattle.std.proofs.Math.Bool.{and-false}
use Rattle.filter_match.specs.declared.truth.Truth.{Truth}
use Rattle.filter_match.specs.declared.truth.Truth.TheVariants.{True, False, Undefined}
use Rattle.filter_match.specs.declared.question.Question.{Question}
use Rattle.filter_match.specs.declared.question.Question.TheVariants.{IsTrue, IsFalse, Settled}
use Rattle.filter_match.specs.Truth.{is_true, is_false, all_of, any_of, negated}
use Rattle.filter_match.specs.walk.Walks.{answer, turned, asks_all_of_and, asks_all_of_or, join, joined}

-- ---- the answers of a list

joined_all : (question : Question) (truths : List Truth) → joined true question truths ≡ list_all (answer question) truths
joined_all question [] = refl
joined_all question (first ∷ rest) = ap (λ others. answer question first && others) (joined_all question rest)

joined_any : (question : Question) (truths : List Truth) → joined false question truths ≡ list_any (answer question) truths
joined_any question [] = refl
joined_any question (first ∷ rest) = ap (λ others. answer question first || others) (joined_any question rest)

joined_none : (truths : List Truth) → joined false Settled truths ≡ false
joined_none [] = refl
joined_none (first ∷ rest) = joined_none rest

-- not all are True where one is False, nor all False where one is True
apart_true : (truths : List Truth) → (list_any is_false truths && list_all is_true truths) ≡ false
apart_true [] = refl
apart_true (True ∷ rest) = apart_true rest
apart_true (False ∷ rest) = refl
apart_true (Undefined ∷ rest) = and-false (list_any is_false rest)

apart_false : (truths : List Truth) → (list_any is_true truths && list_all is_false truths) ≡ false
apart_false [] = refl
apart_false (True ∷ rest) = refl
apart_false (False ∷ rest) = apart_false rest
apart_false (Undefined ∷ rest) = and-false (list_any is_true rest)

-- ---- and

all_true : (one every : Bool) → (one && every) ≡ false → is_true (if one then False else if every then True else Undefined) ≡ every
all_true true every apart = sym apart
all_true false true apart = refl
all_true false false apart = refl

all_false : (one every : Bool) → is_false (if one then False else if every then True else Undefined) ≡ one
all_false true every = refl
all_false false true = refl
all_false false false = refl

pub answer-all_of : (question : Question) (truths : List Truth) → answer question (all_of truths) ≡ joined (asks_all_of_and question) question truths
answer-all_of IsTrue truths = all_true _ _ (apart_true truths) ∙ sym (joined_all IsTrue truths)
answer-all_of IsFalse truths = all_false _ _ ∙ sym (joined_any IsFalse truths)
answer-all_of Settled truths = sym (joined_none truths)

-- ---- or

any_true : (one every : Bool) → is_true (if one then True else if every then False else Undefined) ≡ one
any_true true every = refl
any_true false true = refl
any_true false false = refl

any_false : (one every : Bool) → (one && every) ≡ false → is_false (if one then True else if every then False else Undefined) ≡ every
any_false true every apart = sym apart
any_false false true apart = refl
any_false false false apart = refl

pub answer-any_of : (question : Question) (truths : List Truth) → answer question (any_of truths) ≡ joined (asks_all_of_or question) question truths
answer-any_of IsTrue truths = any_true _ _ ∙ sym (joined_any IsTrue truths)
answer-any_of IsFalse truths = any_false _ _ (apart_false truths) ∙ sym (joined_all IsFalse truths)
answer-any_of Settled truths = sym (joined_none truths)

-- ---- not

pub answer-negated : (question : Question) (one : Truth) → answer question (negated one) ≡ answer (turned question) one
answer-negated IsTrue True = refl
answer-negated IsTrue False = refl
answer-negated IsTrue Undefined = refl
answer-negated IsFalse True = refl
answer-negated IsFalse False = refl
answer-negated IsFalse Undefined = refl
answer-negated Settled one = refl

-- ---- one member after the other

pub join-every : (every one : Bool) → join every every one ≡ one
join-every true one = refl
join-every false one = refl

pub join-done : (every one : Bool) → join every one every ≡ one
join-done true true = refl
join-done true false = refl
join-done false true = refl
join-done false false = refl
