-- The lines of a text, each of which LF ends: what stands behind the last LF is no line.
use Rattle.std.specs.Prelude.{ℕ, ◌==◌, List, [], ◌∷◌, ◌++◌, flat_map}
use Rattle.std.specs.List.{slice_split}

-- all parts but the last
abbrev pub without_last : List (List ℕ) → List (List ℕ)
without_last [] = []
without_last (part ∷ []) = []
without_last (part ∷ next ∷ parts) = part ∷ without_last (next ∷ parts)

-- the last part
abbrev pub last_part : List (List ℕ) → List ℕ
last_part [] = []
last_part (part ∷ []) = part
last_part (part ∷ next ∷ parts) = last_part (next ∷ parts)

-- the parts of a text between its LFs, before the first and behind the last
abbrev pub parts_of : List ℕ → List (List ℕ)
parts_of text = slice_split (λ octet. octet == 10) text

-- the lines, without the LF that ends each
unfoldable pub lines_of : List ℕ → List (List ℕ)
lines_of text = without_last (parts_of text)

-- what stands behind the last LF
unfoldable pub rest_of : List ℕ → List ℕ
rest_of text = last_part (parts_of text)

-- lines as one text, LF behind each
abbrev pub joined_lines : List (List ℕ) → List ℕ
joined_lines lines = flat_map (λ line. line ++ 10 ∷ []) lines
