-- Sets of places, of each of which a bit says whether it is in the set.
use Rattle.std.specs.Prelude.{ℕ, ◌/◌, ◌%◌, List, Bool, ◌==◌, ◌&&◌, nat_lt, slice_index}
use Rattle.std.specs.Int.{bit_at}
use Rattle.mio_link.specs.declared.ready.Ready.{Ready}

-- the bit of a place: words have 64
abbrev pub bit_of : List ℕ → ℕ → ℕ
bit_of words place = bit_at (slice_index words (place / 64)) (place % 64)

-- the place is in the set: it is below 320, and its bit is set
unfoldable pub has : Ready → ℕ → Bool
has ready place = bit_of ready.words place == 1 && nat_lt place 320
