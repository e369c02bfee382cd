-- Values that each of their octets shows to be their own keys.
use Rattle.std.specs.Prelude.{◌≢◌, ◌≤◌, ◌⊎◌, ℕ, List, [], All}
use Rattle.match_rules.specs.declared.rules.Rule.{Rule}
use Rattle.match_rules.specs.declared.rules.Rule.TheVariants.{Text, Ascii, Phone, Country, Octets}

-- the octet is visible ASCII and no capital letter
abbrev pub IsSmall : ℕ → Type 0
IsSmall octet = ((0x21 ≤ octet) × (octet ≤ 0x40)) ⊎ ((0x5B ≤ octet) × (octet ≤ 0x7E))

-- each octet of the value is left as it is: of the rules of texts, such an octet
abbrev pub IsOwn : Rule → List ℕ → Type 0
IsOwn Text octets = (octets ≢ []) × All IsSmall octets
IsOwn Ascii octets = (octets ≢ []) × All IsSmall octets
IsOwn Phone octets = ⊥
IsOwn Country octets = ⊥
IsOwn Octets octets = Unit {0}
