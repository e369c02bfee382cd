-- What the calls that read items promise each other.
use Rattle.std.specs.Prelude.{◌≡◌, List, map}
use Rattle.std.specs.List.{AllByRecursion}
use Rattle.std.specs.Borrow.{Bor}
use Rattle.gser_tree.specs.declared.tree.Tree.{Tree}
use Rattle.gser_tree.specs.Lexemes.{Lexeme}
use Rattle.gser_tree.specs.looking.Looking.{Behind}
use Rattle.gser_tree.specs.Tree.{shape_of}
use Rattle.gser_tree.specs.Writing.{text_of}
use Rattle.aci_item.specs.declared.sets.Printed.{Printed}

-- a component and the members behind it, as the program has them
abbrev pub behind : {V A : Type 0} → (V → A) → V × Bor (List Tree) → Behind A
behind view found = record { value = view found.0; rest = map shape_of found.1.now }

-- each member stands beside its printed text
abbrev pub ArePrinted : {V A : Type 0} → (V → A) → (A → List Lexeme) → List (Printed V) → Type 0
ArePrinted view print members = AllByRecursion (λ member. member.text ≡ text_of (print (view member.value))) members

-- the members alone
abbrev pub values_of : {V A : Type 0} → (V → A) → List (Printed V) → List A
values_of view members = map (λ member. view member.value) members
