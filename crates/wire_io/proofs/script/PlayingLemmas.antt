-- Lemmas on how the events of a script come.
use Rattle.std.proofs.Common.{◌≡◌, ℕ, ◌+◌, ◌-◌, ◌<◌, ◌≤◌, List, [], ◌∷◌, ◌++◌, length, drop, refl, ap, sym, ◌∙◌, arith, length-drop}
use Rattle.std.proofs.lemmas.List.{drop-drop, drop_all, drop_more}
use Rattle.script_text.specs.declared.event.ScriptEvent.{ScriptEvent}
use Rattle.script_text.specs.declared.event.ScriptEvent.TheVariants as script
use Rattle.script_text.specs.Recording.{first_octets, without_first}
use Rattle.wire_io.specs.Playing.{left_over, without_front, front_turn, first_turn}

-- octets of which some are left stay in front
left_over-filled : (conn : ℕ) (octets : List ℕ) (events : List ScriptEvent) → 0 < length octets → left_over conn octets events ≡ script.Bytes conn octets ∷ events
unfolding left_over
left_over-filled conn [] events some = absurd (omega arith)
left_over-filled conn (octet ∷ octets) events some = refl

-- octets that are given in part, a second time
pub left_over_part :
    (conn len given : ℕ) (octets : List ℕ) (events : List ScriptEvent) → len < length octets - given
    → left_over conn (drop len (drop given octets)) events ≡ script.Bytes conn (drop (given + len) octets) ∷ events
left_over_part conn len given octets events part =
    ap (λ rest. left_over conn rest events) (drop-drop len given octets)
    ∙ left_over-filled conn (drop (given + len) octets) events (omega (arith, length-drop (given + len) octets))

-- so many octets of the first event are given, and some are left
pub front_turn-part : (len given : ℕ) (events : List ScriptEvent) → len < length (first_octets events) - given
    → without_front (given + len) events ≡ (front_turn len (without_front given events)).left
unfolding front_turn first_turn
front_turn-part len given [] part = refl
front_turn-part len given (script.Opened conn ∷ events) part = absurd (omega arith)
front_turn-part len given (script.Bytes conn octets ∷ events) part = sym (left_over_part conn len given octets events part)
front_turn-part len given (script.Ended conn ∷ events) part = absurd (omega arith)

-- no octets stay in front of the events after them
left_over-none : (conn : ℕ) (octets : List ℕ) (events : List ScriptEvent) → octets ≡ [] → left_over conn octets events ≡ events
unfolding left_over
left_over-none conn octets events none = ap (λ rest. left_over conn rest events) none

-- all that is left of the first event is given
pub front_turn-whole : (len given : ℕ) (events : List ScriptEvent) → length (first_octets events) - given ≤ len
    → without_first (without_front given events) ≡ (front_turn len (without_front given events)).left
unfolding front_turn first_turn
front_turn-whole len given [] all = refl
front_turn-whole len given (script.Opened conn ∷ events) all = refl
front_turn-whole len given (script.Bytes conn octets ∷ events) all =
    sym (left_over-none conn (drop len (drop given octets)) events (drop-drop len given octets ∙ drop_all (given + len) octets (omega arith)))
front_turn-whole len given (script.Ended conn ∷ events) all = refl

-- what was given of the first event doesn't matter once it is passed
without_front-none : (events : List ScriptEvent) → without_front 0 events ≡ events
without_front-none [] = refl
without_front-none (script.Opened conn ∷ events) = refl
without_front-none (script.Bytes conn octets ∷ events) = refl
without_front-none (script.Ended conn ∷ events) = refl

without_first-given : (given : ℕ) (events : List ScriptEvent) → without_first (without_front given events) ≡ without_first events
without_first-given given [] = refl
without_first-given given (script.Opened conn ∷ events) = refl
without_first-given given (script.Bytes conn octets ∷ events) = refl
without_first-given given (script.Ended conn ∷ events) = refl

-- the first event of the list is passed
pub passed-listed : (place given : ℕ) (listed recorded : List ScriptEvent) → place < length listed
    → without_front 0 (drop (place + 1) listed ++ recorded) ≡ without_first (without_front given (drop place listed ++ recorded))
passed-listed place given listed recorded within =
    without_front-none (drop (place + 1) listed ++ recorded)
    ∙ sym (without_first-given given (drop place listed ++ recorded) ∙ ap (λ left. without_first (left ++ recorded)) (drop_more listed place (script.Ended 0) within))

-- the first event of the recording is passed
pub passed-recorded : (place given : ℕ) (listed recorded : List ScriptEvent) → length listed ≤ place
    → without_front 0 (drop place listed ++ without_first recorded) ≡ without_first (without_front given (drop place listed ++ recorded))
passed-recorded place given listed recorded past =
    let none : drop place listed ≡ [] = drop_all place listed past in
    without_front-none (drop place listed ++ without_first recorded) ∙ ap (λ left. left ++ without_first recorded) none
    ∙ sym (without_first-given given (drop place listed ++ recorded) ∙ ap (λ left. without_first (left ++ recorded)) none)
