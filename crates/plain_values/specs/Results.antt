-- Steps of which each may be refused.
use Rattle.std.specs.Prelude.{Result, Ok, Err}

infixl 10 ◌>>=◌
-- the next step, where nothing was refused
abbrev pub ◌>>=◌ : {A B E : Type 0} → Result A E → (A → Result B E) → Result B E
Ok value >>= next = next value
Err fault >>= next = Err fault
