-- Regular grammars over octets that are sorted into classes, and the texts that each of them names.
use Rattle.std.specs.Prelude.{◌≡◌, ℕ, Bool, true, ◌⊎◌, List, [], ◌∷◌, ◌++◌}
use Rattle.std.specs.List.{AllByRecursion, concat}

-- no text; the empty text; one octet of a class that passes; either; one after the other; any number
pub data Grammar (K : Type 0) : Type 0 where
  Never : Grammar K
  Nothing : Grammar K
  One : (K → Bool) → Grammar K
  Either : Grammar K → Grammar K → Grammar K
  Then : Grammar K → Grammar K → Grammar K
  Many : Grammar K → Grammar K

-- the octets are a text of the grammar
abbrev pub Matches : {K : Type 0} → (ℕ → K) → Grammar K → List ℕ → Type 0
Matches class Never text = ⊥
Matches class Nothing text = text ≡ []
Matches class (One test) text = (octet : ℕ) × (text ≡ octet ∷ []) × (test (class octet) ≡ true)
Matches class (Either left right) text = Matches class left text ⊎ Matches class right text
Matches class (Then first second) text = (front : List ℕ) × (rest : List ℕ) × (text ≡ front ++ rest) × Matches class first front × Matches class second rest
Matches class (Many part) text = (parts : List (List ℕ)) × (text ≡ concat parts) × AllByRecursion (Matches class part) parts

-- each octet that the grammar admits is of a class that passes
abbrev pub IsWithin : {K : Type 0} → (K → Bool) → Grammar K → Type 0
IsWithin passes Never = Unit {0}
IsWithin passes Nothing = Unit {0}
IsWithin {K} passes (One test) = (class : K) → test class ≡ true → passes class ≡ true
IsWithin passes (Either left right) = IsWithin passes left × IsWithin passes right
IsWithin passes (Then first second) = IsWithin passes first × IsWithin passes second
IsWithin passes (Many part) = IsWithin passes part
