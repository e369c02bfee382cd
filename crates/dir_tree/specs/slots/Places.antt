-- Places in a list of rows: where a name belongs.
use Rattle.std.specs.Prelude.{ℕ, ◌-◌, nat_lt, suc, Bool, List, [], ◌∷◌, if◌then◌else◌}
use Rattle.dn_names.specs.name.Names.{RdnSequence}
use Rattle.dir_tree.specs.tree.Trees.{is_before}
use Rattle.dir_tree.specs.tree.Numbered.{Numbered}

-- how many at the front pass the test
abbrev pub front_count : (Numbered → Bool) → List Numbered → ℕ
front_count test [] = 0
front_count test (row ∷ rows) = if test row then suc (front_count test rows) else 0

-- the row's name comes before the name
abbrev pub stands_before : RdnSequence → Numbered → Bool
stands_before name row = is_before row.entry.name name

-- how many come before the name
unfoldable pub place_of : RdnSequence → List Numbered → ℕ
place_of name rows = front_count (stands_before name) rows

-- the place where one goes out at the other
abbrev pub place_without : ℕ → ℕ → ℕ
place_without from place = if nat_lt from place then place - 1 else place

-- what is read where there is nothing
abbrev pub no_row : Numbered
no_row = record { id = 0; entry = record { name = []; attributes = [] } }
