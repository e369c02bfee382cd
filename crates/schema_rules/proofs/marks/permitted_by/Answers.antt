-- Nothing is marked at first.
use Rattle.std.proofs.Common.{◌≡◌, ℕ, zero, suc, false, get_or, replicate, refl}
use Rattle.schema_rules.proofs.marks.permitted_by.Goals as goal

none_marked : (count number : ℕ) → get_or (replicate count false) number false ≡ false
none_marked zero number = refl
none_marked (suc count) zero = refl
none_marked (suc count) (suc number) = none_marked count number

pub loop-value-init : goal.loop-value-init
loop-value-init c number = none_marked 256 number
