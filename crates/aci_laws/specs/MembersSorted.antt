-- A set said another way: all its members in the order of the text, and then sorted.
use Rattle.std.specs.Prelude.{ℕ, List, [], ◌∷◌}
use Rattle.gser_tree.specs.Lexemes.{Lexeme}
use Rattle.gser_tree.specs.looking.Shapes.{Shape}
use Rattle.gser_tree.specs.Reading.{Read, give, ◌>>=◌}
use Rattle.gser_tree.specs.Writing.{text_of}
use Rattle.subtree_spec.specs.Parts.{set_of}
use Rattle.aci_item.specs.members.ItemParts.{bit}
use Rattle.aci_item.specs.Permission.{Bit, in_order}
use Rattle.aci_item.specs.Sets.{put_member}

-- members one by one, among those that were seen
abbrev pub put_members : {A : Type 0} → (A → List ℕ) → List A → List A → List A
put_members text seen [] = seen
put_members text seen (value ∷ values) = put_members text (put_member text value seen) values

-- the members as a set
abbrev pub sorted : {A : Type 0} → (A → List ℕ) → List A → List A
sorted text values = put_members text [] values

-- the members in the order of the text, and then sorted
abbrev pub members_sorted : {A : Type 0} → (A → List Lexeme) → (Shape → Read A) → Shape → Read (List A)
members_sorted print reader shape = set_of reader shape >>= λ values. give (sorted (λ value. text_of (print value)) values)

-- bits in the order of the text, and then in rising order
abbrev pub bits_in_order : Shape → Read (List Bit)
bits_in_order shape = set_of bit shape >>= λ all. give (in_order all)
