-- Lemmas on the pieces in which a script's events come.
use Rattle.std.proofs.Common.{◌≡◌, ℕ, zero, suc, ◌-◌, ◌<◌, ◌≤◌, Bool, true, false, List, [], ◌∷◌, ◌++◌, length, take, drop, map, refl, ap, sym, ◌∙◌, subst, arith, append_assoc, length-drop, if◌then◌else◌}
use Rattle.script_text.specs.declared.event.ScriptEvent.{ScriptEvent}
use Rattle.script_text.specs.declared.event.ScriptEvent.TheVariants as script
use Rattle.wire_io.specs.declared.journal.Event.{Event}
use Rattle.wire_io.specs.declared.journal.Event.TheVariants.{Bytes, Ready}
use Rattle.wire_io.specs.Pieces.{cut, pieces_of, pieces, step_of, steps_of, Plays}
use Rattle.wire_io.specs.Playing.{Turn, conn_of, left_over, first_turn, front_turn, next_turn}

-- none are cut to none
cut-none : (most len : ℕ) → cut most len [] ≡ []
unfolding cut
cut-none zero len = refl
cut-none (suc most) len = refl

-- how many pieces there may be does not matter, once it is enough
cut-enough : (most more len : ℕ) (octets : List ℕ) → 0 < len → length octets ≤ most → length octets ≤ more → cut most len octets ≡ cut more len octets
unfolding cut
cut-enough zero more len [] some enough also = sym (cut-none more len)
cut-enough zero more len (octet ∷ octets) some enough also = absurd (omega arith)
cut-enough (suc most) zero len [] some enough also = refl
cut-enough (suc most) zero len (octet ∷ octets) some enough also = absurd (omega arith)
cut-enough (suc most) (suc more) len [] some enough also = refl
cut-enough (suc most) (suc more) len (octet ∷ octets) some enough also =
    let left : length (drop len (octet ∷ octets)) ≡ length (octet ∷ octets) - len = length-drop len (octet ∷ octets) in
    ap (λ rest. take len (octet ∷ octets) ∷ rest) (cut-enough most more len (drop len (octet ∷ octets)) some (omega (arith, left)) (omega (arith, left)))

-- the pieces after the first are those of what is left
pieces-left_over :
    (most len conn : ℕ) (rest : List ℕ) (events : List ScriptEvent) → 0 < len → length rest ≤ most - len
    → map (Bytes conn) (cut most len rest) ++ pieces len events ≡ pieces len (left_over conn rest events)
unfolding left_over pieces pieces_of cut
pieces-left_over most len conn [] events some enough = ap (λ front. map (Bytes conn) front ++ pieces len events) (cut-none most len)
pieces-left_over zero len conn (octet ∷ rest) events some enough = absurd (omega arith)
pieces-left_over (suc most) len conn (octet ∷ rest) events some enough =
    let left : length (drop len (octet ∷ rest)) ≡ length (octet ∷ rest) - len = length-drop len (octet ∷ rest) in
    ap (λ front. (Bytes conn (take len (octet ∷ rest)) ∷ map (Bytes conn) front) ++ pieces len events)
    (cut-enough most (length (octet ∷ rest)) len (drop len (octet ∷ rest)) some (omega (arith, left)) (omega (arith, left)))

-- the first piece, and those of the events left
pub pieces-first :
    (len : ℕ) (event : ScriptEvent) (events : List ScriptEvent) → 0 < len
    → pieces len (event ∷ events) ≡ (first_turn len event events).event ∷ pieces len (first_turn len event events).left
unfolding first_turn pieces pieces_of
pieces-first len (script.Opened conn) events some = refl
pieces-first len (script.Bytes conn octets) events some =
    ap (λ rest. Bytes conn (take len octets) ∷ rest) (pieces-left_over (length octets) len conn (drop len octets) events some (omega (arith, length-drop len octets)))
pieces-first len (script.Ended conn) events some = refl

-- the first event brings the script on
first_step : (len : ℕ) (event : ScriptEvent) (events : List ScriptEvent) → step_of (first_turn len event events).event ≡ (first_turn len event events).event ∷ []
unfolding step_of first_turn
first_step len (script.Opened conn) events = refl
first_step len (script.Bytes conn octets) events = refl
first_step len (script.Ended conn) events = refl

-- the events that bring a script on, of two lists
pub steps_of-append : (front back : List Event) → steps_of (front ++ back) ≡ steps_of front ++ steps_of back
unfolding steps_of
steps_of-append [] back = refl
steps_of-append (event ∷ front) back = ap (λ rest. step_of event ++ rest) (steps_of-append front back) ∙ sym (append_assoc (step_of event) (steps_of front) (steps_of back))

-- no event brings a script on by nothing
pub Plays-none : (len : ℕ) (events : List ScriptEvent) → Plays len events [] events
unfolding Plays steps_of
Plays-none len events = refl

-- events and then more events
pub Plays-trans :
    (len : ℕ) (before middle after : List ScriptEvent) (front back : List Event)
    → Plays len before front middle → Plays len middle back after → Plays len before (front ++ back) after
unfolding Plays
Plays-trans len before middle after front back first second =
    first ∙ ap (λ rest. steps_of front ++ rest) second ∙ sym (append_assoc (steps_of front) (steps_of back) (pieces len after))
    ∙ ap (λ steps. steps ++ pieces len after) (sym (steps_of-append front back))

-- the turn of a script by the first planned event
Plays-front : (len : ℕ) (event : ScriptEvent) (events : List ScriptEvent) → 0 < len → Plays len (event ∷ events) ((front_turn len (event ∷ events)).event ∷ []) (front_turn len (event ∷ events)).left
unfolding Plays front_turn steps_of
Plays-front len event events some =
    pieces-first len event events some ∙ ap (λ steps. (steps ++ []) ++ pieces len (first_turn len event events).left) (sym (first_step len event events))

Plays-first :
    (len : ℕ) (event : ScriptEvent) (events : List ScriptEvent) (held : Bool) (turn : Turn) → 0 < len
    → turn ≡ (if held then record { event = Ready (conn_of event); left = event ∷ events } else front_turn len (event ∷ events)) → Plays len (event ∷ events) (turn.event ∷ []) turn.left
unfolding Plays steps_of step_of
Plays-first len event events true turn some is = let P : Turn → Type 0 = λ made. Plays len (event ∷ events) (made.event ∷ []) made.left in subst P (sym is) refl
Plays-first len event events false turn some is =
    let P : Turn → Type 0 = λ made. Plays len (event ∷ events) (made.event ∷ []) made.left in subst P (sym is) (Plays-front len event events some)

-- the next turn of a script
pub Plays-turn :
    (on_hold : ℕ → Bool) (len : ℕ) (events : List ScriptEvent) → 0 < len
    → Plays len events ((next_turn on_hold len events).event ∷ []) (next_turn on_hold len events).left
unfolding next_turn front_turn Plays steps_of step_of
Plays-turn on_hold len [] some = refl
Plays-turn on_hold len (event ∷ events) some = Plays-first len event events (on_hold (conn_of event)) (next_turn on_hold len (event ∷ events)) some refl

-- a script without pieces has no events
pub pieces-empty : (len : ℕ) (events : List ScriptEvent) → 0 < len → pieces len events ≡ [] → events ≡ []
pieces-empty len [] some none = refl
pieces-empty len (event ∷ events) some none = let first = pieces-first len event events some in absurd (cc)
