-- How a thing that may surprise is noted in a line: of which entry, of which of its values.
use Rattle.std.specs.Prelude.{ℕ, ◌+◌, List, [], ◌∷◌, ◌++◌, codes, decimal}
use Rattle.dir_tree.specs.schema_tables.Attributes.{name_of}
use Rattle.dir_tree.specs.dn_names.name.Names.{RdnSequence}
use Rattle.dir_tree.specs.dn_names.Printing.{print_name}
use Rattle.data_advice.specs.declared.noting.Spot as code

-- a value of an entry: the entry's name, the type, and which of its values, counted from 1
pub record Place : Type 0 where
  pub name : RdnSequence
  pub kind : ℕ
  pub number : ℕ

-- in a line
abbrev pub place_text : Place → List ℕ
place_text place =
    codes "note: " ++ (print_name place.name ++ (codes ", " ++ (name_of place.kind ++ (codes ", value " ++ (decimal place.number ++ codes ": ")))))

-- what is noted of a value: the text, which ends in LF
abbrev pub noted : Place → List ℕ → List ℕ
noted place text = place_text place ++ text

-- what a list gives, each with its number, of which the first has this one
abbrev pub numbered : {A : Type 0} → (ℕ → A → List ℕ) → ℕ → List A → List ℕ
numbered gives number [] = []
numbered gives number (first ∷ rest) = gives number first ++ numbered gives (number + 1) rest

-- the plain value of what the program holds
abbrev pub place_of : code.Spot → Place
place_of spot = record { name = spot.name.now; kind = spot.kind.0; number = spot.number }
