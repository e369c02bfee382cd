-- Texts of blocks, as a file of changes has them (RFC 2849, ldif-changes): lines, and an empty line behind them, which
-- says that the block is whole. A text that was cut anywhere, or only in part written, has whole blocks at its front.
use Rattle.std.specs.Prelude.{ℕ, ◌<◌, ◌==◌, ◌&&◌, ◌≡◌, not, Bool, true, false, if◌then◌else◌, List, [], ◌∷◌, ◌++◌, length}
use Rattle.std.specs.List.{flat_map, list_all, AllByRecursion}

-- the octet ends no line
abbrev pub is_within : ℕ → Bool
is_within octet = not (octet == 10)

-- a line of a block: some octets, of which none is a line feed
pub record IsLine (line : List ℕ) : Type 0 where
  pub filled : 0 < length line
  pub within : list_all is_within line ≡ true

-- a block: some lines
pub record IsBlock (block : List (List ℕ)) : Type 0 where
  pub filled : 0 < length block
  pub lines : AllByRecursion IsLine block

-- a line with its end
abbrev pub ended : List ℕ → List ℕ
ended line = line ++ 10 ∷ []

-- the text of a block: its lines, and the empty line behind them
abbrev pub block_text : List (List ℕ) → List ℕ
block_text block = flat_map ended block ++ 10 ∷ []

-- the text of blocks one after another
abbrev pub blocks_text : List (List (List ℕ)) → List ℕ
blocks_text blocks = flat_map block_text blocks

-- a line feed is the first octet
abbrev pub begins_with_feed : List ℕ → Bool
begins_with_feed [] = false
begins_with_feed (octet ∷ rest) = octet == 10

-- the first two octets are line feeds: the first ends a line, and the second the empty one behind it
abbrev pub ends_block : List ℕ → Bool
ends_block [] = false
ends_block (octet ∷ rest) = (octet == 10) && begins_with_feed rest

-- an octet before what is found whole of those after it; where nothing is, a block may end here
abbrev pub whole_before : ℕ → List ℕ → List ℕ → List ℕ
whole_before octet rest [] = if ends_block (octet ∷ rest) then octet ∷ 10 ∷ [] else []
whole_before octet rest (first ∷ found) = octet ∷ first ∷ found

-- the longest front of a text that ends with an empty line
unfoldable pub whole_part : List ℕ → List ℕ
whole_part [] = []
whole_part (octet ∷ rest) = whole_before octet rest (whole_part rest)
