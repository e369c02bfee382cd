-- The last item of a list.
use Rattle.std.proofs.Common.{◌≡◌, List, [], ◌∷◌, ◌++◌, refl, ap}
use Rattle.client_core.specs.Picks.{at_last}

-- the items before the last one stay
pub at_last_push : {A : Type 0} (new : A) (becomes : A → List A) (front : List A) (last : A) → at_last new becomes (front ++ last ∷ []) ≡ front ++ becomes last
unfolding at_last
at_last_push new becomes [] last = refl
at_last_push new becomes (only ∷ []) last = refl
at_last_push new becomes (first ∷ second ∷ rest) last = ap (λ items. first ∷ items) (at_last_push new becomes (second ∷ rest) last)
