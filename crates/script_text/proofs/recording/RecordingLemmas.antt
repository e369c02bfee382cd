-- Lemmas on events kept as rows and octets.
use Rattle.std.proofs.Common.{◌≡◌, ℕ, suc, ◌+◌, ◌-◌, ◌<◌, ◌≤◌, ap, ◌∙◌, sym, subst, refl, arith, length, take, drop, get_or, sum_by, List, [], ◌∷◌, ◌++◌}
use Rattle.std.proofs.lemmas.List.{drop_more, drop_all, take_all, take-append-le, drop-append-le, drop-drop, length-drop}
use Rattle.std.proofs.lemmas.List.Sums.{sum_by-cons}
use Rattle.script_text.specs.declared.event.ScriptEvent.{ScriptEvent}
use Rattle.script_text.specs.declared.event.ScriptEvent.TheVariants as event
use Rattle.script_text.specs.declared.recording.Head.{Head}
use Rattle.script_text.specs.declared.recording.EventKind.{EventKind}
use Rattle.script_text.specs.declared.recording.EventKind.TheVariants.{Opened, Bytes, Ended}
use Rattle.script_text.specs.declared.recording.Row.{Row}
use Rattle.script_text.specs.Recording.{event_by, event_with, head_of, octets_in, events_from, IsPacked}

-- no octets are left where they are counted and there are none
nil-counted : (octets : List ℕ) → 0 ≡ length octets → octets ≡ []
nil-counted [] none = refl
nil-counted (octet ∷ octets) none = absurd (omega arith)

-- one more row
events-push : (rows : List Row) (octets piece : List ℕ) (row : Row) → sum_by (λ r. r.size) rows ≡ length octets
    → events_from (rows ++ row ∷ []) (octets ++ piece) ≡ events_from rows octets ++ event_with row.head (take row.size piece) ∷ []
unfolding events_from
events-push [] octets piece row counted = ap (λ all. event_with row.head (take row.size (all ++ piece)) ∷ []) (nil-counted octets counted)
events-push (first ∷ rows) octets piece row counted =
    let cut : sum_by (λ r. r.size) (first ∷ rows) ≡ first.size + sum_by (λ r. r.size) rows = sum_by-cons (λ r. r.size) first rows in
    let within : first.size ≤ length octets = omega arith in
    let left : sum_by (λ r. r.size) rows ≡ length (drop first.size octets) = omega (arith, length-drop first.size octets) in
    rw (take-append-le first.size octets piece within, drop-append-le first.size octets piece within)
    (ap (λ events. event_with first.head (take first.size octets) ∷ events) (events-push rows (drop first.size octets) piece row left))

-- the first row's event, and those after it
events-cons : (row : Row) (rows : List Row) (octets : List ℕ)
    → events_from (row ∷ rows) octets ≡ event_with row.head (take row.size octets) ∷ events_from rows (drop row.size octets)
unfolding events_from
events-cons row rows octets = refl

-- the row at the place is the first of those that are left
pub events-at : (place start : ℕ) (rows : List Row) (octets : List ℕ) (d : Row) → place < length rows
    → events_from (drop place rows) (drop start octets)
    ≡ event_with (get_or rows place d).head (take (get_or rows place d).size (drop start octets)) ∷ events_from (drop (place + 1) rows) (drop (start + (get_or rows place d).size) octets)
events-at place start rows octets d within =
    ap (λ left. events_from left (drop start octets)) (drop_more rows place d within)
    ∙ events-cons (get_or rows place d) (drop (place + 1) rows) (drop start octets)
    ∙ ap (λ left. event_with (get_or rows place d).head (take (get_or rows place d).size (drop start octets)) ∷ events_from (drop (place + 1) rows) left) (drop-drop (get_or rows place d).size start octets)

-- no row is left
pub events-none : (place : ℕ) (rows : List Row) (octets : List ℕ) → length rows ≤ place → events_from (drop place rows) octets ≡ []
unfolding events_from
events-none place rows octets past = rw (drop_all place rows past) refl

-- the events with one more
pub recorded-push : (place start : ℕ) (rows : List Row) (octets piece : List ℕ) (head : Head) → IsPacked place start rows octets
    → events_from (drop place (rows ++ record { head = head; size = length piece } ∷ [])) (drop start (octets ++ piece)) ≡ events_from (drop place rows) (drop start octets) ++ event_with head piece ∷ []
recorded-push place start rows octets piece head is =
    let all : start + sum_by (λ r. r.size) (drop place rows) ≡ length octets = is.packed in
    let left : sum_by (λ r. r.size) (drop place rows) ≡ length (drop start octets) = omega (arith, length-drop start octets) in
    let row : Row = record { head = head; size = length piece } in
    rw (drop-append-le place rows (row ∷ []) is.within, drop-append-le start octets piece (omega arith))
    (events-push (drop place rows) (drop start octets) piece row left ∙ ap (λ octets'. events_from (drop place rows) (drop start octets) ++ event_with head octets' ∷ []) (take_all (length piece) piece (omega arith)))

-- the same for the lists of before and after
pub recorded-pushed : (place start : ℕ) (rows rows' : List Row) (octets octets' piece : List ℕ) (head : Head) (before : List ScriptEvent) → IsPacked place start rows octets
    → events_from (drop place rows) (drop start octets) ≡ before → rows' ≡ rows ++ record { head = head; size = length piece } ∷ [] → octets' ≡ octets ++ piece
    → events_from (drop place rows') (drop start octets') ≡ before ++ event_with head piece ∷ []
recorded-pushed place start rows rows' octets octets' piece head before is was pushed extended =
    rw (pushed, extended) (recorded-push place start rows octets piece head is ∙ ap (λ events. events ++ event_with head piece ∷ []) was)

-- the first of the events that are left is that of the row at the place
pub recorded-at : (place start : ℕ) (rows rows' : List Row) (octets : List ℕ) (row : Row) (events : List ScriptEvent) → rows' ≡ rows → place < length rows' → row ≡ get_or rows' place row
    → events_from (drop place rows) (drop start octets) ≡ events
    → events ≡ event_with row.head (take row.size (drop start octets)) ∷ events_from (drop (place + 1) rows) (drop (start + row.size) octets)
recorded-at place start rows rows' octets row events same within at was =
    let here : row ≡ get_or rows place row = at ∙ ap (λ list. get_or list place row) same in
    let inside : place < length rows = subst (λ list. place < length list) same within in
    sym was ∙ events-at place start rows octets row inside
    ∙ ap (λ r. event_with r.head (take r.size (drop start octets)) ∷ events_from (drop (place + 1) rows) (drop (start + r.size) octets)) (sym here)

-- none is left
pub recorded-none : (place start : ℕ) (rows rows' : List Row) (octets : List ℕ) (events : List ScriptEvent) → rows' ≡ rows → length rows' ≤ place
    → events_from (drop place rows) (drop start octets) ≡ events → events ≡ []
recorded-none place start rows rows' octets events same past was =
    let outside : length rows ≤ place = subst (λ list. length list ≤ place) same past in
    sym was ∙ events-none place rows (drop start octets) outside

-- an event has the head that it is made with
head_of-event_by : (kind : EventKind) (conn : ℕ) (octets : List ℕ) → head_of (event_by kind conn octets) ≡ record { kind = kind; conn = conn }
head_of-event_by Opened conn octets = refl
head_of-event_by Bytes conn octets = refl
head_of-event_by Ended conn octets = refl

-- the head is that of its event
pub head_of-event_with : (head : Head) (octets : List ℕ) → head_of (event_with head octets) ≡ head
head_of-event_with head octets = head_of-event_by head.kind head.conn octets

-- an event is that of its head with its octets
pub event_with-head_of : (event : ScriptEvent) → event_with (head_of event) (octets_in event) ≡ event
event_with-head_of (event.Opened conn) = refl
event_with-head_of (event.Bytes conn octets) = refl
event_with-head_of (event.Ended conn) = refl

-- there are as many events as rows
events-length : (rows : List Row) (octets : List ℕ) → length (events_from rows octets) ≡ length rows
unfolding events_from
events-length [] octets = refl
events-length (row ∷ rows) octets = ap (λ count. suc count) (events-length rows (drop row.size octets))

-- so many are left
pub recorded-length : (place : ℕ) (rows : List Row) (octets : List ℕ) (events : List ScriptEvent) → events_from (drop place rows) octets ≡ events → length rows - place ≡ length events
recorded-length place rows octets events was = omega (arith, length-drop place rows, events-length (drop place rows) octets, ap length was)
