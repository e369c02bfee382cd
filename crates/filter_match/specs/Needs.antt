-- The values that a filter needs: without them it is True of no entry, whatever is permitted.
use Rattle.std.specs.Prelude.{ℕ, ◌==◌, Bool, true, false, ◌&&◌, not, List, Option, Some, None}
use Rattle.std.specs.Str.{bytes_eq}
use Rattle.ldap_filter.specs.filter.Filters.{Filter}
use Rattle.filter_match.specs.declared.question.Question.{Question}
use Rattle.filter_match.specs.declared.question.Question.TheVariants.{IsTrue, IsFalse, Settled}
use Rattle.filter_match.specs.Judging.{judged}
use Rattle.filter_match.specs.Tests.{Assertion, Test}
use Rattle.filter_match.specs.Tests.Assertion.{HasKey, IsClass, IsAtLeast, IsAtMost, HasParts}
use Rattle.filter_match.specs.Tests.Test.{Nothing, IsThere, HasValue}

-- what is asserted is this key
abbrev pub is_key : List ℕ → Assertion → Bool
is_key key (HasKey asserted) = bytes_eq asserted key
is_key key (IsClass oid) = false
is_key key (IsAtLeast asserted) = false
is_key key (IsAtMost asserted) = false
is_key key (HasParts first middle last) = false

-- a test asks for the key of the type
abbrev pub asks_for : ℕ → List ℕ → Test → Bool
asks_for kind key Nothing = false
asks_for kind key (IsThere other) = false
asks_for kind key (HasValue other asserted) = other == kind && is_key key asserted

-- an item's answer of an entry without the key of the type: who asks for that is not True, and all else may be
abbrev pub without : ℕ → List ℕ → Question → Test → Bool
without kind key IsTrue test = not (asks_for kind key test)
without kind key IsFalse test = true
without kind key Settled test = false

-- the filter needs what the test asks for, if that is a key of a type: by these answers it is not True
abbrev pub is_needed : Filter → Option Test → Bool
is_needed filter None = false
is_needed filter (Some Nothing) = false
is_needed filter (Some (IsThere kind)) = false
is_needed filter (Some (HasValue kind (HasKey key))) = not (judged (without kind key) IsTrue filter)
is_needed filter (Some (HasValue kind (IsClass oid))) = false
is_needed filter (Some (HasValue kind (IsAtLeast key))) = false
is_needed filter (Some (HasValue kind (IsAtMost key))) = false
is_needed filter (Some (HasValue kind (HasParts first middle last))) = false
