-- The one written spelling of a length and of a header: the shortest (X.690 8.1.3; DER, X.690 10.1).
use Rattle.std.specs.Prelude.{ℕ, ◌+◌, List, [], ◌∷◌, nat_lt, if◌then◌else◌}
use Rattle.std.specs.Int.{bytes_high_first}

-- the long form with so many octets of the number
abbrev pub long_form : ℕ → ℕ → List ℕ
long_form count len = (128 + count) ∷ bytes_high_first count len

-- the shortest spelling of a length
unfoldable pub length_octets : ℕ → List ℕ
length_octets len =
    if nat_lt len 128 then len ∷ []
    else if nat_lt len 256 then long_form 1 len
    else if nat_lt len 65536 then long_form 2 len
    else if nat_lt len 16777216 then long_form 3 len
    else long_form 4 len

-- a tag and the length behind it
abbrev pub header_octets : ℕ → ℕ → List ℕ
header_octets tag len = tag ∷ length_octets len
