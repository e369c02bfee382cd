-- The one written spelling of elements: each length in its shortest form (X.690 8.1.3).
use Rattle.std.specs.Prelude.{◌≡◌, ℕ, Bool, true, false, List, [], ◌∷◌, ◌++◌, length, Option, Some, None}
use Rattle.ber_elements.specs.write.Spelling.{header_octets}
use Rattle.ber_layout.specs.components.Flags.{flag_octets}

-- an element with the shortest length
unfoldable pub element_octets : ℕ → List ℕ → List ℕ
element_octets tag content = header_octets tag (length content) ++ content

-- an element where there is a value
abbrev pub optional_octets : {A : Type 0} → ℕ → (A → List ℕ) → Option A → List ℕ
optional_octets tag content None = []
optional_octets tag content (Some value) = element_octets tag (content value)

-- a BOOLEAN where it is TRUE
abbrev pub marked_octets : ℕ → Bool → List ℕ
marked_octets tag false = []
marked_octets tag true = element_octets tag (flag_octets true)

-- an element for each value
abbrev pub each_octets : {A : Type 0} → ℕ → (A → List ℕ) → List A → List ℕ
each_octets tag content [] = []
each_octets tag content (value ∷ values) = element_octets tag (content value) ++ each_octets tag content values

-- new is old with octets behind it
pub record Extends (old new : List ℕ) : Type 0 where
  pub added : List ℕ
  pub grows : new ≡ old ++ added
