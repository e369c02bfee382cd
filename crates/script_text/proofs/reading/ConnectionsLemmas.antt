-- Lemmas on the state of each connection after one more event.
use Rattle.std.proofs.Common.{◌≡◌, ℕ, ◌==◌, ◌||◌, not, sym, ◌∙◌, ap, refl, arith, Bool, true, false, List, [], ◌∷◌, ◌++◌, Option, Some, None, if◌then◌else◌}
use Rattle.std.specs.BTreeMap.{BTreeMap}
use Rattle.std.specs.List.{filter_map, cons_option}
use Rattle.std.proofs.lemmas.Bool.Decides.{nat_tests}
use Rattle.std.proofs.lemmas.Bool.{eqb-true, not-true, and_parts}
use Rattle.std.proofs.lemmas.List.{append-nil}
use Rattle.std.proofs.lemmas.List.Elements.{filter_map-append}
use Rattle.std.proofs.lemmas.List.Folds.{list_any-append}
use Rattle.script_text.specs.declared.event.ScriptEvent.{ScriptEvent}
use Rattle.script_text.specs.declared.event.ScriptEvent.TheVariants.{Opened, Bytes, Ended}
use Rattle.script_text.specs.Connections.{state_of, state_after, Tracks, Follows}
use Rattle.script_text.specs.script.Script.{has, opens, ends, opened_by, ended_by, may_follow}

-- `false` changes no disjunction
or-false : (b : Bool) → (b || false) ≡ b
or-false true = refl
or-false false = refl

-- one more number
pub has-push : (number other : ℕ) (numbers : List ℕ) → has number (numbers ++ other ∷ []) ≡ (has number numbers || number == other)
has-push number other numbers = list_any-append (λ m. number == m) numbers (other ∷ []) ∙ ap (λ b. has number numbers || b) (or-false (number == other))

-- an event that opens or ends nothing adds no number
pub filter_map-none : (part : ScriptEvent → Option ℕ) (events : List ScriptEvent) (event : ScriptEvent) → part event ≡ None → filter_map part (events ++ event ∷ []) ≡ filter_map part events
filter_map-none part events event none = filter_map-append part events (event ∷ []) ∙ ap (λ found. filter_map part events ++ cons_option found []) none ∙ append-nil (filter_map part events)

-- one that opens or ends a number adds it
pub filter_map-some : (part : ScriptEvent → Option ℕ) (events : List ScriptEvent) (event : ScriptEvent) (number : ℕ) → part event ≡ Some number → filter_map part (events ++ event ∷ []) ≡ filter_map part events ++ number ∷ []
filter_map-some part events event number some = filter_map-append part events (event ∷ []) ∙ ap (λ found. filter_map part events ++ cons_option found []) some

-- the state as three tests give it: whether the number was opened and ended, and is that of the event
opened_state : (opened ended same : Bool) → (same ≡ true → opened ≡ false) → (opened ≡ false → ended ≡ false)
    → (if same then Some true else (if opened then Some (not ended) else None)) ≡ (if opened || same then Some (not ended) else None)
opened_state true ended true fresh none = cc (fresh refl)
opened_state true ended false fresh none = refl
opened_state false true same fresh none = cc (none refl)
opened_state false false true fresh none = refl
opened_state false false false fresh none = refl

ended_state : (opened ended same : Bool) → (same ≡ true → opened ≡ true)
    → (if same then Some false else (if opened then Some (not ended) else None)) ≡ (if opened then Some (not (ended || same)) else None)
ended_state true true true was = refl
ended_state true false true was = refl
ended_state true true false was = refl
ended_state true false false was = refl
ended_state false ended true was = cc (was refl)
ended_state false ended false was = refl

-- the order of two numbers doesn't matter to a test whether they are equal
eq_comm : (m n : ℕ) → (m == n) ≡ (n == m)
eq_comm m n = grind (arith, nat_tests)

-- `Some` and `None` by two tests, each replaced by an equal one
state_same : (opened opened' ended ended' : Bool) → opened ≡ opened' → ended ≡ ended'
    → (if opened then Some (not ended) else None) ≡ (if opened' then Some (not ended') else None)
state_same opened opened' ended ended' p q = cc

-- of a disjunction that is false
or_left : (a b : Bool) → (a || b) ≡ false → a ≡ false
or_left true b none = none
or_left false b none = refl

or_both : (a b : Bool) {c : Bool} → a ≡ false → (b ≡ true → c ≡ true) → c ≡ false → (a || b) ≡ false
or_both true b none most closed = none
or_both false true none most closed = cc (most refl)
or_both false false none most closed = refl

-- the number that an event opens or ends is among the numbers after it
has-after : (part : ScriptEvent → Option ℕ) (events : List ScriptEvent) (event : ScriptEvent) (number other : ℕ) → part event ≡ Some number
    → has other (filter_map part (events ++ event ∷ [])) ≡ (has other (filter_map part events) || number == other)
has-after part events event number other some =
    ap (λ numbers. has other numbers) (filter_map-some part events event number some)
    ∙ has-push other number (filter_map part events)
    ∙ ap (λ same. has other (filter_map part events) || same) (eq_comm other number)

-- an event that opens or ends none leaves the numbers as they are
has-kept : (part : ScriptEvent → Option ℕ) (events : List ScriptEvent) (event : ScriptEvent) (other : ℕ) → part event ≡ None
    → has other (filter_map part (events ++ event ∷ [])) ≡ has other (filter_map part events)
has-kept part events event other none = ap (λ numbers. has other numbers) (filter_map-none part events event none)

-- at an equal number the same holds
at_same : (events : List ScriptEvent) (number other : ℕ) → (number == other) ≡ true → (answer : Bool) → has number (opened_by events) ≡ answer → has other (opened_by events) ≡ answer
at_same events number other same answer was = ap (λ n. has n (opened_by events)) (sym (eqb-true number other same)) ∙ was

-- the state of each connection after one more event that may follow
pub state_of-push : (events : List ScriptEvent) (event : ScriptEvent) (other : ℕ) → may_follow events event ≡ true → (has other (opened_by events) ≡ false → has other (ended_by events) ≡ false)
    → state_after event other (state_of events other) ≡ state_of (events ++ event ∷ []) other
state_of-push events (Opened number) other may none =
    opened_state (has other (opened_by events)) (has other (ended_by events)) (number == other) (λ same. at_same events number other same false (not-true (has number (opened_by events)) may)) none
    ∙ state_same _ _ _ _ (sym (has-after opens events (Opened number) number other refl)) (sym (has-kept ends events (Opened number) other refl))
state_of-push events (Bytes number octets) other may none =
    state_same _ _ _ _ (sym (has-kept opens events (Bytes number octets) other refl)) (sym (has-kept ends events (Bytes number octets) other refl))
state_of-push events (Ended number) other may none =
    ended_state (has other (opened_by events)) (has other (ended_by events)) (number == other) (λ same. at_same events number other same true (and_parts (has number (opened_by events)) (not (has number (ended_by events))) may).0)
    ∙ state_same _ _ _ _ (sym (has-kept opens events (Ended number) other refl)) (sym (has-after ends events (Ended number) number other refl))

-- no connection is ended that wasn't opened, after one more event that may follow
ended-push : (events : List ScriptEvent) (event : ScriptEvent) (other : ℕ) → may_follow events event ≡ true → (has other (opened_by events) ≡ false → has other (ended_by events) ≡ false)
    → has other (opened_by (events ++ event ∷ [])) ≡ false → has other (ended_by (events ++ event ∷ [])) ≡ false
ended-push events (Opened number) other may none closed =
    has-kept ends events (Opened number) other refl ∙ none (or_left (has other (opened_by events)) (number == other) (sym (has-after opens events (Opened number) number other refl) ∙ closed))
ended-push events (Bytes number octets) other may none closed =
    has-kept ends events (Bytes number octets) other refl ∙ none (sym (has-kept opens events (Bytes number octets) other refl) ∙ closed)
ended-push events (Ended number) other may none closed =
    let was = sym (has-kept opens events (Ended number) other refl) ∙ closed in
    let opened = (and_parts (has number (opened_by events)) (not (has number (ended_by events))) may).0 in
    has-after ends events (Ended number) number other refl
    ∙ or_both (has other (ended_by events)) (number == other) (none was) (λ same. at_same events number other same true opened) was

-- a map that followed the events follows one more
pub tracks_next : (connections after : BTreeMap ℕ Bool) (events : List ScriptEvent) (event : ScriptEvent) → Tracks connections events → may_follow events event ≡ true → Follows connections event after
    → Tracks after (events ++ event ∷ [])
tracks_next connections after events event tracks may follows = record {
  states = λ other. follows other ∙ ap (λ state. state_after event other state) (tracks.states other) ∙ state_of-push events event other may (tracks.ended other);
  ended = λ other closed. ended-push events event other may (tracks.ended other) closed;
}
