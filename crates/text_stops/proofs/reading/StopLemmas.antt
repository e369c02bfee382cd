-- A spot decides: it stops the text, or reading goes on behind it.
use Rattle.std.proofs.Common.{◌≡◌, ℕ, List, ◌∷◌, ◌∙◌, ap, sym, refl}
use Rattle.std.specs.Prelude.{Option, Some, None, option_map}
use Rattle.std.specs.Option.{option_map_or}
use Rattle.text_stops.specs.declared.spots.Spot.{Spot}
use Rattle.text_stops.specs.declared.standing.Standing as code
use Rattle.text_stops.specs.Spots.{cut}
use Rattle.text_stops.specs.Standing.{Standing, standing_of, take, stop_from}

-- what comes next as the program holds it
pub stops_by : (text : List ℕ) (standing : Standing) (spot : Spot) (rest : List Spot) (next : Option code.Standing)
    → option_map standing_of next ≡ take spot.kind (cut text spot) standing.turn standing.levels
    → stop_from text standing (spot ∷ rest) ≡ option_map_or (λ found. stop_from text (standing_of found) rest) next (Some spot.place)
stops_by text standing spot rest next is = ap (λ found. option_map_or (λ after. stop_from text after rest) found (Some spot.place)) (sym is) ∙ by next
  where
    by : (found : Option code.Standing) → option_map_or (λ after. stop_from text after rest) (option_map standing_of found) (Some spot.place)
        ≡ option_map_or (λ after. stop_from text (standing_of after) rest) found (Some spot.place)
    by None = refl
    by (Some found) = refl
