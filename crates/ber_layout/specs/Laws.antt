-- The laws over layouts that this crate's functions of laws state.
use Rattle.std.specs.Prelude.{◌≡◌, true, List, ℕ, Some}
use Rattle.ber_layout.specs.Layouts.{Layout, Value, Says, Fits, IsShort, is_clear, reads, writes}
use Rattle.ber_layout.specs.Ranges.{Within}

-- what is read is what the octets say
abbrev pub ReadingIsSound : Type 0
ReadingIsSound = (l : Layout) (value : Value l) (bytes : List ℕ) → reads l bytes ≡ Some value → Says l value bytes

-- what the octets say is read
abbrev pub ReadingIsComplete : Type 0
ReadingIsComplete = (l : Layout) (value : Value l) (bytes : List ℕ) → is_clear l ≡ true → Says l value bytes → reads l bytes ≡ Some value

-- what is written says the value
abbrev pub WritingSays : Type 0
WritingSays = (l : Layout) (value : Value l) → is_clear l ≡ true → Fits l value → Says l value (writes l value)

-- what is written is read again
abbrev pub WritingIsReadAgain : Type 0
WritingIsReadAgain = (l : Layout) (value : Value l) → is_clear l ≡ true → Fits l value → reads l (writes l value) ≡ Some value

-- a value in its ranges fits where all that is written of it is short
abbrev pub ShortValuesFit : Type 0
ShortValuesFit = (l : Layout) (value : Value l) → Within l value → IsShort (writes l value) → Fits l value
