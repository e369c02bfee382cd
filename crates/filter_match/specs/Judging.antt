-- What answers for items, and for filters by them.
use Rattle.std.specs.Prelude.{ℕ, Bool, true, false}
use Rattle.std.specs.List.{list_any}
use Rattle.dir_tree.specs.Entry.{EntryInformation, values_of, has_kind}
use Rattle.ldap_filter.specs.filter.Filters.{Filter, Filters}
use Rattle.ldap_filter.specs.filter.Filters.Filter.{And, Or, Not, Equal, Parts, AtLeast, AtMost, Present, Approx, Extensible}
use Rattle.ldap_filter.specs.filter.Filters.Filters.{Nil, Cons}
use Rattle.filter_match.specs.declared.question.Question.{Question}
use Rattle.filter_match.specs.declared.question.Question.TheVariants.{IsTrue, IsFalse, Settled}
use Rattle.filter_match.specs.Tests.{Assertion, Test, test_of}
use Rattle.filter_match.specs.Tests.Test.{Nothing, IsThere, HasValue}
use Rattle.filter_match.specs.Truth.{Permits, matches, test_truth}
use Rattle.filter_match.specs.walk.Walks.{answer, turned, asks_all_of_and, asks_all_of_or, join}

-- an item's answer with permission
abbrev pub exact : Permits → EntryInformation → Question → Test → Bool
exact permits entry question test = answer question (test_truth permits entry test)

-- an entry has a value that matches, whether it is permitted or not
abbrev pub has_value : EntryInformation → ℕ → Assertion → Bool
has_value entry kind asserted = list_any (matches asserted) (values_of kind entry.attributes)

-- a test may be True of an entry
unfoldable pub has_possible : EntryInformation → Test → Bool
has_possible entry Nothing = false
has_possible entry (IsThere kind) = has_kind kind entry.attributes
has_possible entry (HasValue kind asserted) = has_value entry kind asserted

-- an item's answer under some permission: each may be False
abbrev pub possible : EntryInformation → Question → Test → Bool
possible entry IsTrue test = has_possible entry test
possible entry IsFalse test = true
possible entry Settled test = false

-- a filter's answer by those of its items
abbrev mutual
  pub judged : (Question → Test → Bool) → Question → Filter → Bool
  judged answers question (And members) = judged_all (asks_all_of_and question) answers question members
  judged answers question (Or members) = judged_all (asks_all_of_or question) answers question members
  judged answers question (Not member) = judged answers (turned question) member
  judged answers question (Equal kind value) = answers question (test_of (Equal kind value))
  judged answers question (Parts kind initial any final) = answers question (test_of (Parts kind initial any final))
  judged answers question (AtLeast kind value) = answers question (test_of (AtLeast kind value))
  judged answers question (AtMost kind value) = answers question (test_of (AtMost kind value))
  judged answers question (Present kind) = answers question (test_of (Present kind))
  judged answers question (Approx kind value) = answers question (test_of (Approx kind value))
  judged answers question (Extensible content) = answers question (test_of (Extensible content))

  -- the answers of all members as one
  pub judged_all : Bool → (Question → Test → Bool) → Question → Filters → Bool
  judged_all every answers question Nil = every
  judged_all every answers question (Cons first rest) = join every (judged answers question first) (judged_all every answers question rest)
