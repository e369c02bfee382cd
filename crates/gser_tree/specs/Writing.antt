-- The one printed form of values, as lexemes (RFC 3641): `name value`, `name:value`, `{ a, b }`, and `{ }` where there
-- is no member.
use Rattle.std.specs.Prelude.{◌≡◌, ℕ, Bool, true, false, List, [], ◌∷◌, ◌++◌, Option, Some, None, codes, flat_map, decimal, if◌then◌else◌}
use Rattle.gser_tree.specs.declared.marks.Mark.TheVariants.{Open, Close, Comma, Colon}
use Rattle.gser_tree.specs.Lexemes.{Lexeme, Space, Marked, Word, Quoted, show}

-- the octets of lexemes
abbrev pub text_of : List Lexeme → List ℕ
text_of lexemes = flat_map show lexemes

-- an identifier, a number or an object identifier
abbrev pub print_word : List ℕ → List Lexeme
print_word text = Word text ∷ []

-- a string
abbrev pub print_string : List ℕ → List Lexeme
print_string text = Quoted text ∷ []

-- a number, in decimal
abbrev pub print_number : ℕ → List Lexeme
print_number value = Word (decimal value) ∷ []

-- a component of a sequence: an identifier, a space and the value
abbrev pub print_component : List ℕ → List Lexeme → List Lexeme
print_component name value = Word name ∷ Space ∷ value

-- a choice: an identifier, a colon and the value
abbrev pub print_choice : List ℕ → List Lexeme → List Lexeme
print_choice name value = Word name ∷ Marked Colon ∷ value

-- before a member
abbrev pub separator : Bool → List Lexeme
separator first = if first then Marked Open ∷ Space ∷ [] else Marked Comma ∷ Space ∷ []

-- behind all members
abbrev pub ending : Bool → List Lexeme
ending first = if first then Marked Open ∷ Space ∷ Marked Close ∷ [] else Space ∷ Marked Close ∷ []

-- members behind others, or behind none, and the end of the braces
abbrev pub print_members : Bool → List (List Lexeme) → List Lexeme
print_members first [] = ending first
print_members first (item ∷ items) = separator first ++ (item ++ print_members false items)

-- all members in braces
abbrev pub print_braces : List (List Lexeme) → List Lexeme
print_braces items = print_members true items

-- a component that may be absent, as a list of members
abbrev pub print_optional : List ℕ → Option (List Lexeme) → List (List Lexeme)
print_optional name None = []
print_optional name (Some value) = print_component name value ∷ []

-- a component of NULL, where it is present
abbrev pub print_flag : List ℕ → Bool → List (List Lexeme)
print_flag name present = if present then print_component name (print_word (codes "NULL")) ∷ [] else []

-- a set, where it has members
abbrev pub print_filled : List (List Lexeme) → Option (List Lexeme)
print_filled [] = None
print_filled (item ∷ items) = Some (print_braces (item ∷ items))

-- members without the end of the braces
abbrev pub listed : Bool → List (List Lexeme) → List Lexeme
listed first [] = []
listed first (item ∷ items) = separator first ++ (item ++ listed false items)

-- whether no member has come, behind these
abbrev pub is_first : Bool → List (List Lexeme) → Bool
is_first first [] = first
is_first first (item ∷ items) = false

-- calls of the program wrote members behind `old`; the flags say whether no member had come before, and has behind
abbrev pub PutsMembers : List ℕ → List ℕ → Bool → Bool → List (List Lexeme) → Type 0
PutsMembers old new first next items = (new ≡ old ++ text_of (listed first items)) × (next ≡ is_first first items)
