-- Which pairs of a written name are good, and which is the first that isn't.
use Rattle.std.specs.Prelude.{◌≡◌, ◌≢◌, ℕ, List, [], ◌∷◌, ◌++◌, take, slice_get, Some}
use Rattle.std.specs.List.{AllByRecursion, flat_map}
use Rattle.dn_names.specs.name.Names.{TypeAndValue}
use Rattle.dn_names.specs.Spelling.{WrittenPair}
use Rattle.dn_names.specs.Resolving.{pair_meaning}

-- a pair, and those before it in its RDN
pub record Placed : Type 0 where
  pub earlier : List WrittenPair
  pub pair : WrittenPair

-- the pairs of an RDN in the order of the text, the first of them after some others
abbrev pub placed_from : List WrittenPair → List WrittenPair → List Placed
placed_from earlier [] = []
placed_from earlier (pair ∷ pairs) = record { earlier = earlier; pair = pair } ∷ placed_from (earlier ++ pair ∷ []) pairs

-- the pairs of a name in the order of the text
abbrev pub placed_pairs : List (List WrittenPair) → List Placed
placed_pairs written = flat_map (placed_from []) written

-- no pair of these is of the type
abbrev pub LacksKind : ℕ → List WrittenPair → Type 0
LacksKind kind pairs = AllByRecursion (λ pair. (meaning : TypeAndValue) → pair_meaning pair ≡ Some meaning → meaning.kind ≢ kind) pairs

-- a pair means a type that may name with a value of it, and no earlier pair of its RDN is of that type
pub record IsGoodPlace (placed : Placed) : Type 0 where
  pub meaning : TypeAndValue
  pub means : pair_meaning placed.pair ≡ Some meaning
  pub alone : LacksKind meaning.kind placed.earlier

-- each pair before this one is good, and this one isn't
pub record IsFirstBad (pairs : List Placed) (index : ℕ) : Type 0 where
  pub before : AllByRecursion IsGoodPlace (take index pairs)
  pub placed : Placed
  pub there : slice_get pairs index ≡ Some placed
  pub bad : ¬ (IsGoodPlace placed)
