-- What a walk down a filter keeps: the tests of its items in their order, and what is asked of each part.
use Rattle.std.specs.Prelude.{◌≡◌, Bool, true, false, ◌&&◌, ◌||◌, List, [], ◌∷◌, ◌++◌}
use Rattle.ldap_filter.specs.filter.Filters.{Filter, Filters}
use Rattle.ldap_filter.specs.filter.Filters.Filter.{And, Or, Not, Equal, Parts, AtLeast, AtMost, Present, Approx, Extensible}
use Rattle.ldap_filter.specs.filter.Filters.Filters.{Nil, Cons}
use Rattle.filter_match.specs.declared.truth.Truth.{Truth}
use Rattle.filter_match.specs.declared.question.Question.{Question}
use Rattle.filter_match.specs.declared.question.Question.TheVariants.{IsTrue, IsFalse, Settled}
use Rattle.filter_match.specs.Tests.{Test, test_of}
use Rattle.filter_match.specs.Truth.{is_true, is_false}

-- the tests of a filter's items, in their order
abbrev mutual
  pub tests_of : Filter → List Test
  tests_of (And members) = tests_of_all members
  tests_of (Or members) = tests_of_all members
  tests_of (Not member) = tests_of member
  tests_of (Equal kind value) = test_of (Equal kind value) ∷ []
  tests_of (Parts kind initial any final) = test_of (Parts kind initial any final) ∷ []
  tests_of (AtLeast kind value) = test_of (AtLeast kind value) ∷ []
  tests_of (AtMost kind value) = test_of (AtMost kind value) ∷ []
  tests_of (Present kind) = test_of (Present kind) ∷ []
  tests_of (Approx kind value) = test_of (Approx kind value) ∷ []
  tests_of (Extensible content) = test_of (Extensible content) ∷ []

  pub tests_of_all : Filters → List Test
  tests_of_all Nil = []
  tests_of_all (Cons first rest) = tests_of first ++ tests_of_all rest

-- ---- what is asked

-- the answer to a question, of a truth; nothing is asked where the answer is settled, and then it is no
abbrev pub answer : Question → Truth → Bool
answer IsTrue = is_true
answer IsFalse = is_false
answer Settled = λ truth. false

-- the question to ask of the negated
abbrev pub turned : Question → Question
turned IsTrue = IsFalse
turned IsFalse = IsTrue
turned Settled = Settled

-- whether every member of an and, or one, has to answer yes; of an or
abbrev pub asks_all_of_and : Question → Bool
asks_all_of_and IsTrue = true
asks_all_of_and IsFalse = false
asks_all_of_and Settled = false

abbrev pub asks_all_of_or : Question → Bool
asks_all_of_or IsTrue = false
asks_all_of_or IsFalse = true
asks_all_of_or Settled = false

-- two answers as one: both are yes, or one is
abbrev pub join : Bool → Bool → Bool → Bool
join true one other = one && other
join false one other = one || other

-- the answers of all members as one
abbrev pub joined : Bool → Question → List Truth → Bool
joined every question [] = every
joined every question (first ∷ rest) = join every (answer question first) (joined every question rest)

-- what is asked of the next member: nothing where the answer is settled
abbrev pub asked_next : Bool → Bool → Question → Question
asked_next true true question = question
asked_next true false question = Settled
asked_next false true question = Settled
asked_next false false question = question

-- of these tests, the first ones are the filter's own; they were walked over, and gave the answer
abbrev pub Walks : List Test → Bool → List Test → Bool → List Test → Type 0
Walks own holds tests found rest = (others : List Test) → tests ≡ own ++ others → (found ≡ holds) × (rest ≡ others)
