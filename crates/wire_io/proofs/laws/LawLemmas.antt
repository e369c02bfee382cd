-- Lemmas on the events of a script, one after another.
use Rattle.std.proofs.Common.{◌≡◌, ℕ, zero, suc, ◌<◌, ◌≤◌, List, [], ◌∷◌, ◌++◌, take, replicate, refl, ap, sym, ◌∙◌, arith}
use Rattle.script_text.specs.declared.event.ScriptEvent.{ScriptEvent}
use Rattle.wire_io.specs.declared.journal.Event.TheVariants.{Stop}
use Rattle.wire_io.specs.Laws.{first_events}
use Rattle.wire_io.specs.Pieces.{pieces}
use Rattle.wire_io.specs.Playing.{next_turn, front_turn, first_turn}
use Rattle.wire_io.proofs.laws.PiecesLemmas.{pieces-first}

-- after the last event comes Stop for ever
first_events-stop : (count most len : ℕ) → count ≤ most → first_events count len [] ≡ take count (replicate most Stop)
unfolding first_events next_turn front_turn
first_events-stop zero most len within = refl
first_events-stop (suc count) zero len within = absurd (omega arith)
first_events-stop (suc count) (suc most) len within = ap (λ events. Stop ∷ events) (first_events-stop count most len (omega arith))

-- the pieces come first
pub first_events-pieces : (count most len : ℕ) (events : List ScriptEvent) → 0 < len → count ≤ most → first_events count len events ≡ take count (pieces len events ++ replicate most Stop)
unfolding first_events next_turn front_turn pieces
first_events-pieces count most len [] some within = first_events-stop count most len within
first_events-pieces zero most len (event ∷ events) some within = refl
first_events-pieces (suc count) most len (event ∷ events) some within =
    let rest = first_events-pieces count most len (first_turn len event events).left some (omega arith) in
    ap (λ after. (first_turn len event events).event ∷ after) rest ∙ ap (λ front. take (suc count) (front ++ replicate most Stop)) (sym (pieces-first len event events some))
