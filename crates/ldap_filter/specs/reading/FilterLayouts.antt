-- Filters and their octets (RFC 4511 4.5.1.7): an element's tag and content.
use Rattle.std.specs.Prelude.{◌≡◌, ℕ, zero, suc, ◌≤◌, Bool, List, [], ◌∷◌, length, Option, Some, None, ◌==◌, if◌then◌else◌}
use Rattle.ber_layout.specs.element.Pieces.{◌>>=◌}
use Rattle.ber_layout.specs.components.Components.{Component, Follows, any_of}
use Rattle.ber_layout.specs.Layouts.{Layout, Value, Says as SaysLayout, reads}
use Rattle.ber_layout.specs.Layouts.Layout.{AnyOctets, End, Then, Maybe, Each}
use Rattle.ldap_filter.specs.filter.Filters.{Filter, Filters, depth}
use Rattle.ldap_filter.specs.filter.Filters.Filter.{And, Or, Not, Equal, Parts, AtLeast, AtMost, Present, Approx, Extensible}
use Rattle.ldap_filter.specs.filter.Filters.Filters.{Nil, Cons}
use Rattle.ldap_filter.specs.Assertion.{assertion_layout}

-- SubstringFilter ::= SEQUENCE { type AttributeDescription, substrings SEQUENCE SIZE (1..MAX) OF substring CHOICE {
-- initial [0], any [1], final [2] } }, at most one initial first and at most one final last
abbrev pub substrings_layout : Layout
substrings_layout = Maybe 0x80 AnyOctets (Each 0x81 AnyOctets (Maybe 0x82 AnyOctets End))

abbrev pub parts_layout : Layout
parts_layout = Then 0x04 AnyOctets (Then 0x30 substrings_layout End)

-- ---- the relation

-- there is at least one part
abbrev pub IsSome : Option (List ℕ) → List (List ℕ) → Option (List ℕ) → Type 0
IsSome (Some initial) any final = Unit {0}
IsSome None any (Some final) = Unit {0}
IsSome None [] None = ⊥
IsSome None (first ∷ any) None = Unit {0}

-- the tag and the content say the filter
abbrev mutual
  pub SaysFilter : Filter → ℕ × List ℕ → Type 0
  SaysFilter (And members) element = (element.0 ≡ 0xa0) × SaysFilters members element.1
  SaysFilter (Or members) element = (element.0 ≡ 0xa1) × SaysFilters members element.1
  SaysFilter (Not member) element = (element.0 ≡ 0xa2) × ((tag : ℕ) × Follows tag (λ content. SaysFilter member (tag, content)) (λ rest. rest ≡ []) element.1)
  SaysFilter (Equal kind value) element = (element.0 ≡ 0xa3) × SaysLayout assertion_layout (kind, (value, tt)) element.1
  SaysFilter (Parts kind initial any final) element = (element.0 ≡ 0xa4) × (IsSome initial any final × SaysLayout parts_layout (kind, ((initial, (any, (final, tt))), tt)) element.1)
  SaysFilter (AtLeast kind value) element = (element.0 ≡ 0xa5) × SaysLayout assertion_layout (kind, (value, tt)) element.1
  SaysFilter (AtMost kind value) element = (element.0 ≡ 0xa6) × SaysLayout assertion_layout (kind, (value, tt)) element.1
  SaysFilter (Present kind) element = (element.0 ≡ 0x87) × (kind ≡ element.1)
  SaysFilter (Approx kind value) element = (element.0 ≡ 0xa8) × SaysLayout assertion_layout (kind, (value, tt)) element.1
  SaysFilter (Extensible content) element = (element.0 ≡ 0xa9) × (content ≡ element.1)

  -- the octets are an element for each filter
  pub SaysFilters : Filters → List ℕ → Type 0
  SaysFilters Nil bytes = bytes ≡ []
  SaysFilters (Cons first rest) bytes = (tag : ℕ) × Follows tag (λ content. SaysFilter first (tag, content)) (SaysFilters rest) bytes

-- the most that a filter is deep here
abbrev pub most_deep : ℕ
most_deep = 64

-- the tag and the content say the filter, which isn't too deep
abbrev pub IsFilter : Filter → ℕ × List ℕ → Type 0
IsFilter filter element = SaysFilter filter element × (depth filter ≤ most_deep)
