-- Keys of values: what two values must have alike to match.
-- RFC 4518 prepares a text by tables of its own. Here it is normalized (NFKC), folded in full as to case and normalized
-- again, before its spaces: the Unicode Standard's forms stand for those tables, by this profile. So no character is
-- mapped to nothing, controls stay as they are, none is prohibited, and a text of spaces alone has the empty key.
use Rattle.std.specs.Prelude.{ℕ, Bool, ◌==◌, ◌||◌, not, List, filter, Option, Some, None, if◌then◌else◌}
use Rattle.match_rules.specs.declared.rules.Rule.{Rule}
use Rattle.match_rules.specs.declared.rules.Rule.TheVariants.{Text, Ascii, Phone, Country, Octets}
use Rattle.match_rules.specs.Folding.{folded_octets}
use Rattle.match_rules.specs.Spaces.{is_space, cut_and_joined}
use Rattle.match_rules.specs.Syntaxes.{is_of}

-- the octet separates groups of digits in a telephone number (RFC 4518, section 2.6.3): a space or a hyphen
abbrev pub is_separator : ℕ → Bool
is_separator octet = is_space octet || octet == 0x2D

-- the octets without separators
abbrev pub without_separators : List ℕ → List ℕ
without_separators = filter (λ octet. not (is_separator octet))

-- a text in its folded form, its spaces cut at both ends and joined within
unfoldable pub prepared_text : List ℕ → List ℕ
prepared_text octets = cut_and_joined (folded_octets octets)

-- what a rule compares of a value
abbrev pub prepared : Rule → List ℕ → List ℕ
prepared Text octets = prepared_text octets
prepared Ascii octets = prepared_text octets
prepared Phone octets = without_separators (prepared_text octets)
prepared Country octets = prepared_text octets
prepared Octets octets = octets

-- the key of octets under a rule: none where they are not of the rule's syntax
unfoldable pub key_of : Rule → List ℕ → Option (List ℕ)
key_of rule octets = if is_of rule octets then Some (prepared rule octets) else None
