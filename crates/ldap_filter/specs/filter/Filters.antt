-- Search filters as values (RFC 4511 4.5.1.7), and how deep they are.
use Rattle.std.specs.Prelude.{ℕ, ◌+◌, max, List, [], ◌∷◌, Option}

-- a filter, and a list of filters
mutual
  pub data Filter : Type 0 where
    And : Filters → Filter
    Or : Filters → Filter
    Not : Filter → Filter
    Equal : List ℕ → List ℕ → Filter
    Parts : List ℕ → Option (List ℕ) → List (List ℕ) → Option (List ℕ) → Filter
    AtLeast : List ℕ → List ℕ → Filter
    AtMost : List ℕ → List ℕ → Filter
    Present : List ℕ → Filter
    Approx : List ℕ → List ℕ → Filter
    Extensible : List ℕ → Filter

  pub data Filters : Type 0 where
    Nil : Filters
    Cons : Filter → Filters → Filters

-- how deep a filter is: an item is 1 deep, and so is an empty and or or; every other filter is one deeper than its
-- deepest member
abbrev mutual
  pub depth : Filter → ℕ
  depth (And members) = depths members + 1
  depth (Or members) = depths members + 1
  depth (Not member) = depth member + 1
  depth (Equal kind value) = 1
  depth (Parts kind initial any final) = 1
  depth (AtLeast kind value) = 1
  depth (AtMost kind value) = 1
  depth (Present kind) = 1
  depth (Approx kind value) = 1
  depth (Extensible content) = 1

  pub depths : Filters → ℕ
  depths Nil = 0
  depths (Cons first rest) = max (depth first) (depths rest)

-- a list of filters
abbrev pub filters_of : List Filter → Filters
filters_of [] = Nil
filters_of (first ∷ rest) = Cons first (filters_of rest)
