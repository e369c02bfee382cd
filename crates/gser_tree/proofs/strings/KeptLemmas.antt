-- A text that is written on begins with what it was.
use Rattle.std.proofs.Common.{◌≡◌, ℕ, ◌≤◌, List, [], ◌∷◌, ◌++◌, length, take, refl, sym, ap, ◌∙◌, subst, arith}
use Rattle.std.specs.Prelude.{IsUtf8, IsCharBoundary}
use Rattle.std.proofs.lemmas.List.{length-take}
use Rattle.std.proofs.lemmas.Str.{IsCharBoundary-from_take}
use Rattle.gser_tree.specs.Strings.{IsKept}

pub kept_append : (earlier later more : List ℕ) → IsKept earlier later → IsKept earlier (later ++ more)
kept_append [] later more h = refl
kept_append (x ∷ earlier) [] more h = absurd cc
kept_append (x ∷ earlier) (y ∷ later) more h =
    let first : y ≡ x = cc in
    let rest : take (length earlier) later ≡ earlier = cc in
    ap (λ z. z ∷ take (length earlier) (later ++ more)) first ∙ ap (λ r. x ∷ r) (kept_append earlier later more rest)

pub kept_more : (earlier later more new : List ℕ) → IsKept earlier later → new ≡ later ++ more → IsKept earlier new
kept_more earlier later more new h is = subst (IsKept earlier) (sym is) (kept_append earlier later more h)

pub kept_size : (earlier later : List ℕ) → IsKept earlier later → length earlier ≤ length later
kept_size earlier later h = omega (arith, ap length h, length-take (length earlier) later)

pub kept_on : (earlier middle later : List ℕ) → IsKept earlier middle → IsKept middle later → IsKept earlier later
kept_on [] middle later h k = refl
kept_on (x ∷ earlier) [] later h k = absurd cc
kept_on (x ∷ earlier) (y ∷ middle) [] h k = absurd cc
kept_on (x ∷ earlier) (y ∷ middle) (z ∷ later) h k =
    let first : y ≡ x = cc in
    let rest : take (length earlier) middle ≡ earlier = cc in
    let second : z ≡ y = cc in
    let tail : take (length middle) later ≡ middle = cc in
    ap (λ w. w ∷ take (length earlier) later) (second ∙ first) ∙ ap (λ r. x ∷ r) (kept_on earlier middle later rest tail)

-- a text may be cut where it was written on
pub kept_boundary : (earlier later : List ℕ) → IsUtf8 earlier → IsUtf8 later → IsKept earlier later → IsCharBoundary later (length earlier)
kept_boundary earlier later before after h =
    IsCharBoundary-from_take later (length earlier) after (kept_size earlier later h) (subst IsUtf8 (sym h) before)
