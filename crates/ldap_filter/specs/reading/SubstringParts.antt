-- The parts of substrings (RFC 4511 4.5.1.7.2).
use Rattle.std.specs.Prelude.{ℕ, List, Option}
use Rattle.ber_layout.specs.Layouts.{Value}
use Rattle.ldap_filter.specs.declared.reading.Substrings.{Substrings}
use Rattle.ldap_filter.specs.reading.FilterLayouts.{substrings_layout}

-- the parts of substrings
abbrev pub substrings_parts : Substrings → Value substrings_layout
substrings_parts substrings = (substrings.initial, (substrings.any, (substrings.last, tt)))
