-- Steps of which each may be refused.
use Rattle.std.proofs.Common.{◌≡◌, Result, Ok, Err, refl}
use Rattle.plain_values.specs.Results.{◌>>=◌}

-- where two steps gave something, so did each
pub both_given :
    {A B E : Type 0} (found : Result A E) (next : A → Result B E) (value : B) → (found >>= next) ≡ Ok value
    → (given : A) × (found ≡ Ok given) × (next given ≡ Ok value)
both_given (Ok given) next value is = (given, refl, is)
both_given (Err fault) next value is = absurd cc
