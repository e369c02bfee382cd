-- Lists of numbers.
use Rattle.std.specs.Prelude.{ℕ, ◌==◌, Bool, List}
use Rattle.std.specs.List.{list_any}

-- the number is among the numbers
abbrev pub has : ℕ → List ℕ → Bool
has number numbers = list_any (λ other. number == other) numbers
