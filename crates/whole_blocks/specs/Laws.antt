-- The laws of texts of blocks that were cut, or have octets behind them that end no line.
use Rattle.std.specs.Prelude.{◌≡◌, ℕ, ◌≤◌, true, List, ◌++◌, length, take}
use Rattle.std.specs.List.{list_all, AllByRecursion}
use Rattle.whole_blocks.specs.Blocks.{IsBlock, is_within, blocks_text, whole_part}

-- the whole part of a text is that of the first blocks, these and a number of the others
pub record IsFrontOf (done more : List (List (List ℕ))) (text : List ℕ) : Type 0 where
  pub kept : ℕ
  pub front : whole_part text ≡ blocks_text (done ++ take kept more)

-- a text of blocks is cut behind some of them: these are there, and of the others a front
abbrev pub KeepsWhatStandsBefore : Type 0
KeepsWhatStandsBefore =
    (done more : List (List (List ℕ))) (count : ℕ) → AllByRecursion IsBlock done → AllByRecursion IsBlock more
    → length (blocks_text done) ≤ count → IsFrontOf done more (take count (blocks_text (done ++ more)))

-- a text of blocks is whole
abbrev pub IsWhole : Type 0
IsWhole = (blocks : List (List (List ℕ))) → AllByRecursion IsBlock blocks → whole_part (blocks_text blocks) ≡ blocks_text blocks

-- octets that end no line change nothing, as the zeros of a file that was lengthened before it was written
abbrev pub LeavesOutWhatEndsNoLine : Type 0
LeavesOutWhatEndsNoLine = (text tail : List ℕ) → list_all is_within tail ≡ true → whole_part (text ++ tail) ≡ whole_part text
