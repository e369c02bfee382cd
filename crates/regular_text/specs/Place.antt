-- Where octets leave a grammar, and the longest front of them that is in it.
use Rattle.std.specs.Prelude.{ℕ, ◌≤◌, List, ◌++◌, length, take}

-- some text of the grammar begins with these octets
abbrev pub Begins : (List ℕ → Type 0) → List ℕ → Type 0
Begins language front = (more : List ℕ) × language (front ++ more)

-- the length of the longest front that some text of the grammar begins with
pub record IsPlace (language : List ℕ → Type 0) (text : List ℕ) (place : ℕ) : Type 0 where
  pub within : place ≤ length text
  pub begins : Begins language (take place text)
  pub longest : (count : ℕ) → count ≤ length text → Begins language (take count text) → count ≤ place

-- the length of the longest front that is itself a text of the grammar
pub record IsLongestFront (language : List ℕ → Type 0) (text : List ℕ) (size : ℕ) : Type 0 where
  pub within : size ≤ length text
  pub found : language (take size text)
  pub longest : (count : ℕ) → count ≤ length text → language (take count text) → count ≤ size

-- no front is a text of the grammar
abbrev pub HasNoFront : (List ℕ → Type 0) → List ℕ → Type 0
HasNoFront language text = (count : ℕ) → count ≤ length text → language (take count text) → ⊥
