-- Tables of refusals: a list of rows, each a refusal or none, of which the first refusal decides.
use Rattle.std.specs.Prelude.{Bool, List, [], ◌∷◌, Option, Some, None, if◌then◌else◌}

-- the refusal, where it applies
abbrev pub when : {A : Type 0} → Bool → A → Option A
when applies refusal = if applies then Some refusal else None

-- the first refusal of a table
abbrev pub first_some : {A : Type 0} → List (Option A) → Option A
first_some [] = None
first_some (None ∷ rows) = first_some rows
first_some (Some refusal ∷ rows) = Some refusal
