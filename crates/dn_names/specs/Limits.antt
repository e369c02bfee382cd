-- How large a name and its values may be. The standards set no limits: these are this profile's.
use Rattle.std.specs.Prelude.{ℕ}

-- the most RDNs of a name
abbrev pub most_rdns : ℕ
most_rdns = 64

-- the most octets of a value, in a name or of an attribute
abbrev pub most_octets : ℕ
most_octets = 65536
