-- An attribute's type and a value that is asserted of it (RFC 4511 4.1.6).
use Rattle.std.specs.Prelude.{ℕ, List}
use Rattle.ber_layout.specs.Layouts.{Layout, Value}
use Rattle.ber_layout.specs.Layouts.Layout.{AnyOctets, End, Then}
use Rattle.ldap_filter.specs.declared.assertion.Assertion.{Assertion}

-- AttributeValueAssertion ::= SEQUENCE { attributeDesc AttributeDescription, assertionValue AssertionValue }
abbrev pub assertion_layout : Layout
assertion_layout = Then 0x04 AnyOctets (Then 0x04 AnyOctets End)

-- the parts of an assertion
abbrev pub assertion_parts : Assertion → Value assertion_layout
assertion_parts assertion = (assertion.kind, (assertion.value, tt))
