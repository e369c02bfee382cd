-- The spots of a text behind those that were found.
use Rattle.std.proofs.Common.{◌≡◌, ℕ, List, ◌∷◌, ◌++◌, ◌∙◌, ap, append_assoc}
use Rattle.std.specs.Prelude.{◌+◌}
use Rattle.text_stops.specs.declared.spots.Spot.{Spot}
use Rattle.text_stops.specs.declared.spots.Mode.{Mode}
use Rattle.text_stops.specs.Spots.{step, spots_from}

-- a step leaves the spots of what is left
pub goes_on : (spots new : List Spot) (mode next : Mode) (place octet : ℕ) (rest : List ℕ) → new ≡ spots ++ (step mode place octet).spots
    → next ≡ (step mode place octet).mode → new ++ spots_from next (place + 1) rest ≡ spots ++ spots_from mode place (octet ∷ rest)
goes_on spots new mode next place octet rest found goes =
    ap (λ n. n ++ spots_from next (place + 1) rest) found ∙ append_assoc spots (step mode place octet).spots (spots_from next (place + 1) rest)
    ∙ ap (λ m. spots ++ ((step mode place octet).spots ++ spots_from m (place + 1) rest)) goes
