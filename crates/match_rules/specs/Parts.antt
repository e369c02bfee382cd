-- Keys of substring parts (RFC 4511, section 4.5.1.7.2; after RFC 4518, section 2.6.1).
use Rattle.std.specs.Prelude.{ℕ, List, Option, Some, None, if◌then◌else◌}
use Rattle.match_rules.specs.declared.parts.Part.{Part}
use Rattle.match_rules.specs.declared.parts.Part.TheVariants.{First, Middle, Last}
use Rattle.match_rules.specs.declared.rules.Rule.{Rule}
use Rattle.match_rules.specs.declared.rules.Rule.TheVariants.{Text, Ascii, Phone, Country, Octets}
use Rattle.match_rules.specs.Folding.{folded_octets}
use Rattle.match_rules.specs.Keys.{without_separators}
use Rattle.match_rules.specs.Spaces.{cut_front, cut_end, single_spaces}
use Rattle.match_rules.specs.Syntaxes.{is_part_of}

-- a part without the spaces at the end that is an end of the value: no other end is cut
abbrev pub cut_outer : Part → List ℕ → List ℕ
cut_outer First octets = cut_front octets
cut_outer Middle octets = octets
cut_outer Last octets = cut_end octets

-- a part in its folded form, its outer spaces cut, and each run of spaces that is left made one
unfoldable pub prepared_part_text : Part → List ℕ → List ℕ
prepared_part_text part octets = single_spaces (cut_outer part (folded_octets octets))

-- what a rule compares of a part
abbrev pub prepared_part : Rule → Part → List ℕ → List ℕ
prepared_part Text part octets = prepared_part_text part octets
prepared_part Ascii part octets = prepared_part_text part octets
prepared_part Phone part octets = without_separators (prepared_part_text part octets)
prepared_part Country part octets = prepared_part_text part octets
prepared_part Octets part octets = octets

-- the key of a part under a rule: none where the octets cannot be a part of the rule's values
unfoldable pub part_key_of : Rule → Part → List ℕ → Option (List ℕ)
part_key_of rule part octets = if is_part_of rule octets then Some (prepared_part rule part octets) else None
