-- Lemmas on one item that a test keeps or takes out.
use Rattle.std.proofs.Common.{◌≡◌, Bool, List, [], ◌∷◌, refl}
use Rattle.std.specs.List.{items_where_true}
use Rattle.std.specs.List.Retain.{IsFiltered}

-- one item, and what the test answers of it
pub IsFiltered-one : {P X : Type 0} (tests : P → X → Bool → P → Type 0) (before after : P) (item : X) (answer : Bool) (items : List X) → tests before item answer after → items ≡ items_where_true (answer ∷ []) (item ∷ [])
    → IsFiltered tests before (item ∷ []) items
IsFiltered-one tests before after item answer items tested is = (answer ∷ [], after, refl, (after, tested, refl), is)
