-- A step leaves the spots of what is left.
use Rattle.std.proofs.Common.{◌≡◌, ◌∷◌, ◌++◌, ◌∙◌, ap, sym, drop, get_or, add-one}
use Rattle.std.specs.Prelude.{◌+◌}
use Rattle.std.proofs.Math.Seq.{drop-cons}
use Rattle.text_stops.specs.Spots.{spots_from}
use Rattle.text_stops.proofs.spots.SpotLemmas.{goes_on}
use Rattle.text_stops.proofs.spots.spots_of.Goals as goal

pub loop-place-preserved : goal.loop-place-preserved
loop-place-preserved c =
    let text = c.args.text.now in
    let place = c.loop-place.place in
    let rest : drop place text ≡ get_or text place 0 ∷ drop (place + 1) text = rw add-one (drop-cons text place 0 c.loop-place-test.true) in
    goes_on c.loop-place.spots.items c.step.new.spots.items c.loop-place.mode c.in_ok-mode.mode place (get_or text place 0) (drop (place + 1) text)
    c.in_ok-mode.ensures.spots c.in_ok-mode.ensures.mode
    ∙ ap (λ rest. c.loop-place.spots.items ++ spots_from c.loop-place.mode place rest) (sym rest)
    ∙ c.loop-place.invariant
