-- What a value is: its members, its word, its string, the identifier before it.
use Rattle.std.specs.Prelude.{ℕ, List, [], ◌∷◌, Option, codes, ◌&&◌, if◌then◌else◌, Bool, true, false}
use Rattle.std.specs.Prelude as std
use Rattle.std.specs.Str.{bytes_eq}
use Rattle.gser_tree.specs.declared.part.Part.{Part}
use Rattle.gser_tree.specs.looking.Shapes.{Shape, Word, Quoted, Braces, Named, Chosen, listed}

-- a value and the members behind it
pub record Behind (A : Type 0) : Type 0 where
  pub value : A
  pub rest : List Shape

-- the members in braces
abbrev pub members_in : Shape → Option (List Shape)
members_in (Braces shapes) = std.Some (listed shapes)
members_in shape = std.None

-- a word
abbrev pub word_in : Shape → Option Part
word_in (Word part) = std.Some part
word_in shape = std.None

-- a string
abbrev pub string_in : Shape → Option Part
string_in (Quoted part) = std.Some part
string_in shape = std.None

-- an identifier, and the value behind it
abbrev pub named_in : Shape → Option (Part × Shape)
named_in (Named part shape) = std.Some (part, shape)
named_in shape = std.None

-- an identifier, and the value behind it and a colon
abbrev pub chosen_in : Shape → Option (Part × Shape)
chosen_in (Chosen part shape) = std.Some (part, shape)
chosen_in shape = std.None

-- the value of the first member, where that is the component of the name
abbrev pub component : List ℕ → List Shape → Option (Behind Shape)
component name [] = std.None
component name (Named part shape ∷ rest) =
    if bytes_eq part.text name then std.Some (record { value = shape; rest = rest }) else std.None
component name (shape ∷ rest) = std.None

-- the value is NULL
abbrev pub is_null : Shape → Bool
is_null (Word part) = bytes_eq part.text (codes "NULL")
is_null shape = false

-- the members behind the first, where that is the identifier alone, or before NULL
abbrev pub flag : List ℕ → List Shape → Option (List Shape)
flag name [] = std.None
flag name (Word part ∷ rest) = if bytes_eq part.text name then std.Some rest else std.None
flag name (Named part shape ∷ rest) = if bytes_eq part.text name && is_null shape then std.Some rest else std.None
flag name (shape ∷ rest) = std.None
