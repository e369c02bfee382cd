-- A round robin over sets of places: whose turn it is, and how turns follow one another.
use Rattle.std.specs.Prelude.{◌≡◌, ◌⊎◌, ℕ, ◌+◌, ◌<◌, ◌≤◌, Bool, true, false, List, [], ◌∷◌, length, Contains, Option, Some, None}
use Rattle.std.specs.List.{AllByRecursion}

-- none of the places from this one on is in the set
abbrev pub AreOut : (ℕ → Bool) → ℕ → Type 0
AreOut places from = (other : ℕ) → from ≤ other → places other ≡ false

-- no place is in the set
abbrev pub IsEmpty : (ℕ → Bool) → Type 0
IsEmpty places = AreOut places 0

-- of the places in the set, the first that isn't below this one
pub record IsFirst (places : ℕ → Bool) (from place : ℕ) : Type 0 where
  pub within : places place ≡ true
  pub reached : from ≤ place
  pub first : (other : ℕ) → from ≤ other → other < place → places other ≡ false

-- it is the turn of the first place that isn't below the cursor; where there is none, of the first of all
abbrev pub HasTurn : (ℕ → Bool) → ℕ → ℕ → Type 0
HasTurn places cursor place = IsFirst places cursor place ⊎ (AreOut places cursor × IsFirst places 0 place)

-- what is given: the place whose turn it is, or None where the set is empty
abbrev pub Gives : (ℕ → Bool) → ℕ → Option ℕ → Type 0
Gives places cursor None = IsEmpty places
Gives places cursor (Some place) = HasTurn places cursor place

-- these places have their turns one after another, each in the set of its time; behind each the cursor is the place after it
abbrev pub HaveTurns : ℕ → List (ℕ → Bool) → List ℕ → Type 0
HaveTurns cursor [] [] = Unit {0}
HaveTurns cursor [] (place ∷ turns) = ⊥
HaveTurns cursor (places ∷ later) [] = ⊥
HaveTurns cursor (places ∷ later) (place ∷ turns) = HasTurn places cursor place × HaveTurns (place + 1) later turns

-- all places of the set are below this number
abbrev pub AreBelow : ℕ → (ℕ → Bool) → Type 0
AreBelow most places = AreOut places most

-- the place is in the set, of which all are below this number
abbrev pub StaysIn : ℕ → ℕ → (ℕ → Bool) → Type 0
StaysIn most place places = (places place ≡ true) × AreBelow most places

-- a place that stays in the set, whatever else comes or goes, has its turn within as many turns as there may be places
abbrev pub EachHasItsTurn : Type 0
EachHasItsTurn = (most cursor place : ℕ) (sets : List (ℕ → Bool)) (turns : List ℕ) → HaveTurns cursor sets turns
    → AllByRecursion (StaysIn most place) sets → most ≤ length sets → place < most → Contains turns place
