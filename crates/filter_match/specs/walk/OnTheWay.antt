-- What a walk over members keeps.
use Rattle.std.specs.Prelude.{◌≡◌, ℕ, Bool, List, ◌++◌, drop}
use Rattle.ldap_filter.specs.filter.Filters.{Filter, filters_of}
use Rattle.filter_match.specs.declared.question.Question.{Question}
use Rattle.filter_match.specs.Judging.{judged_all}
use Rattle.filter_match.specs.Tests.{Test}
use Rattle.filter_match.specs.walk.Walks.{tests_of_all, join}

-- before the member at the index: with the answers of those that are left the answer is that of all members, and their
-- tests are left
unfoldable pub IsOnTheWay : Bool → (Question → Test → Bool) → Question → List Filter → ℕ → List Test → Bool → List Test → Type 0
IsOnTheWay every answers question members index tests holds rest =
    (others : List Test) → tests ≡ tests_of_all (filters_of members) ++ others
    → (join every holds (judged_all every answers question (filters_of (drop index members))) ≡ judged_all every answers question (filters_of members))
    × (rest ≡ tests_of_all (filters_of (drop index members)) ++ others)
