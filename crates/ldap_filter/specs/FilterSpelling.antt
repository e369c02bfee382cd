-- The one written spelling of a filter: its element's tag and content (RFC 4511 4.5.1.7).
use Rattle.std.specs.Prelude.{ℕ, List, [], ◌++◌}
use Rattle.ber_layout.specs.Layouts.{writes}
use Rattle.ber_layout.specs.Spellings.{element_octets}
use Rattle.ldap_filter.specs.filter.Filters.{Filter, Filters}
use Rattle.ldap_filter.specs.filter.Filters.Filter.{And, Or, Not, Equal, Parts, AtLeast, AtMost, Present, Approx, Extensible}
use Rattle.ldap_filter.specs.filter.Filters.Filters.{Nil, Cons}
use Rattle.ldap_filter.specs.Assertion.{assertion_layout}
use Rattle.ldap_filter.specs.reading.FilterLayouts.{parts_layout, IsSome}

-- the tag of a filter
abbrev pub filter_tag : Filter → ℕ
filter_tag (And members) = 0xa0
filter_tag (Or members) = 0xa1
filter_tag (Not member) = 0xa2
filter_tag (Equal kind value) = 0xa3
filter_tag (Parts kind initial any final) = 0xa4
filter_tag (AtLeast kind value) = 0xa5
filter_tag (AtMost kind value) = 0xa6
filter_tag (Present kind) = 0x87
filter_tag (Approx kind value) = 0xa8
filter_tag (Extensible content) = 0xa9

-- the content of a filter
abbrev mutual
  pub filter_content : Filter → List ℕ
  filter_content (And members) = members_octets members
  filter_content (Or members) = members_octets members
  filter_content (Not member) = element_octets (filter_tag member) (filter_content member)
  filter_content (Equal kind value) = writes assertion_layout (kind, (value, tt))
  filter_content (Parts kind initial any final) = writes parts_layout (kind, ((initial, (any, (final, tt))), tt))
  filter_content (AtLeast kind value) = writes assertion_layout (kind, (value, tt))
  filter_content (AtMost kind value) = writes assertion_layout (kind, (value, tt))
  filter_content (Present kind) = kind
  filter_content (Approx kind value) = writes assertion_layout (kind, (value, tt))
  filter_content (Extensible content) = content

  -- the elements of filters
  pub members_octets : Filters → List ℕ
  members_octets Nil = []
  members_octets (Cons first rest) = element_octets (filter_tag first) (filter_content first) ++ members_octets rest

-- the tag and the content of a filter
abbrev pub filter_octets : Filter → ℕ × List ℕ
filter_octets filter = (filter_tag filter, filter_content filter)

-- each substring filter has a part
abbrev mutual
  pub HasParts : Filter → Type 0
  HasParts (And members) = HaveParts members
  HasParts (Or members) = HaveParts members
  HasParts (Not member) = HasParts member
  HasParts (Equal kind value) = Unit {0}
  HasParts (Parts kind initial any final) = IsSome initial any final
  HasParts (AtLeast kind value) = Unit {0}
  HasParts (AtMost kind value) = Unit {0}
  HasParts (Present kind) = Unit {0}
  HasParts (Approx kind value) = Unit {0}
  HasParts (Extensible content) = Unit {0}

  -- the same of each filter
  pub HaveParts : Filters → Type 0
  HaveParts Nil = Unit {0}
  HaveParts (Cons first rest) = HasParts first × HaveParts rest
