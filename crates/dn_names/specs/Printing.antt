-- The one printed form of a name (RFC 4514 section 2), and the key of a value that is a name.
use Rattle.std.specs.Prelude.{ℕ, Bool, true, false, ◌||◌, ◌==◌, List, [], ◌∷◌, ◌++◌, reverse, if◌then◌else◌}
use Rattle.schema_tables.specs.Attributes.{name_of}
use Rattle.dn_names.specs.declared.classes.Class.{Class}
use Rattle.dn_names.specs.declared.classes.Class.TheVariants.{Space, Hash, Mark, Plus, Comma, Backslash}
use Rattle.dn_names.specs.declared.printing.Shown.{Shown}
use Rattle.dn_names.specs.declared.printing.Shown.TheVariants.{Octets, Key}
use Rattle.dn_names.specs.Classes.{class_of}
use Rattle.dn_names.specs.name.Names.{TypeAndValue, RdnSequence}

-- a backslash stands before an octet of the class: a space at either end, # at the front, special characters
abbrev pub is_escaped : Bool → Bool → Class → Bool
is_escaped first last Space = first || last
is_escaped first last Hash = first
is_escaped first last Mark = true
is_escaped first last Plus = true
is_escaped first last Comma = true
is_escaped first last Backslash = true
is_escaped first last class = false

-- an octet of a value, the first or the last or neither; NUL as two hexadecimal digits
abbrev pub print_octet : Bool → Bool → ℕ → List ℕ
print_octet first last octet =
    if is_escaped first last (class_of octet) then 92 ∷ octet ∷ []
    else if octet == 0 then 92 ∷ 48 ∷ 48 ∷ [] else octet ∷ []

-- there are no octets
abbrev pub is_empty : List ℕ → Bool
is_empty [] = true
is_empty (x ∷ xs) = false

-- the octets of a value, or what is left of them behind the first
abbrev pub print_from : Bool → List ℕ → List ℕ
print_from first [] = []
print_from first (octet ∷ octets) = print_octet first (is_empty octets) octet ++ print_from false octets

-- a value
unfoldable pub print_value : List ℕ → List ℕ
print_value octets = print_from true octets

-- texts with a mark before each but the first
abbrev pub join_from : {A : Type 0} → ℕ → (A → List ℕ) → Bool → List A → List ℕ
join_from mark show first [] = []
join_from mark show first (x ∷ xs) = (if first then [] else mark ∷ []) ++ (show x ++ join_from mark show false xs)

-- a pair, its value shown in some way
abbrev pub print_pair : (TypeAndValue → List ℕ) → TypeAndValue → List ℕ
print_pair shown pair = name_of pair.kind ++ 61 ∷ print_value (shown pair)

-- an RDN, a plus sign between its pairs
abbrev pub print_rdn : (TypeAndValue → List ℕ) → List TypeAndValue → List ℕ
print_rdn shown rdn = join_from 43 (print_pair shown) true rdn

-- a name, the entry's own RDN first
unfoldable pub print_by : (TypeAndValue → List ℕ) → RdnSequence → List ℕ
print_by shown name = join_from 44 (print_rdn shown) true (reverse name)

-- what is shown of a value
abbrev pub shown_of : Shown → TypeAndValue → List ℕ
shown_of Octets pair = pair.value.octets
shown_of Key pair = pair.value.key

-- a name as text
unfoldable pub print_name : RdnSequence → List ℕ
print_name name = print_by (shown_of Octets) name

-- the key of a name: its printed form, with keys where the values stand
unfoldable pub name_key : RdnSequence → List ℕ
name_key name = print_by (shown_of Key) name
