-- What the kept form of a test asks.
use Rattle.std.specs.Prelude.{map}
use Rattle.filter_match.specs.declared.asked.Asks.{Asks}
use Rattle.filter_match.specs.declared.asked.Asks.TheVariants as asks
use Rattle.filter_match.specs.declared.asked.Asserted.{Asserted}
use Rattle.filter_match.specs.declared.asked.Asserted.TheVariants as asserts
use Rattle.filter_match.specs.Tests.{Assertion, Test}
use Rattle.filter_match.specs.Tests.Assertion.{HasKey, IsClass, IsAtLeast, IsAtMost, HasParts}
use Rattle.filter_match.specs.Tests.Test.{Nothing, IsThere, HasValue}

-- what is asserted
abbrev pub assertion_asked : Asserted → Assertion
assertion_asked (asserts.HasKey value) = HasKey value.key
assertion_asked (asserts.IsClass value) = IsClass value.key
assertion_asked (asserts.IsAtLeast key) = IsAtLeast key.items
assertion_asked (asserts.IsAtMost key) = IsAtMost key.items
assertion_asked (asserts.HasParts first middle last) = HasParts first.items (map (λ part. part.items) middle.items) last.items

-- what is asked
abbrev pub test_asked : Asks → Test
test_asked asks.Nothing = Nothing
test_asked (asks.IsThere kind) = IsThere kind.0
test_asked (asks.HasValue kind asserted) = HasValue kind.0 (assertion_asked asserted)
