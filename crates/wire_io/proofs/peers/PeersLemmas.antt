-- Lemmas on what is kept of each connection while a journal grows.
use Rattle.std.proofs.Common.{◌≡◌, ℕ, Bool, true, false, List, [], ◌∷◌, ◌++◌, ◌||◌, nat_eq, ap, sym, ◌∙◌, subst, append-nil, if◌then◌else◌}
use Rattle.wire_io.specs.declared.journal.Event.{Event}
use Rattle.wire_io.specs.declared.journal.Item.{Item}
use Rattle.wire_io.specs.declared.journal.Item.TheVariants.{Heard, OpenedAt, Taken, Later, Gone, Held, Released, HungUp, StoreOpened, StoreCut, Stored}
use Rattle.wire_io.specs.Journal.{taken_at, taken_of, hangs_up, is_hung_up, hold_after, is_held}
use Rattle.wire_io.specs.Peers.{PeerState, state_in, state_after, IsQuiet}
use Rattle.wire_io.proofs.journal.JournalLemmas.{taken_of-push, is_hung_up-push, is_held-push, or-false, or-true}

-- a state by its parts
state : List ℕ → Bool → Bool → PeerState
state taken held hung_up = record { taken = taken; on_hold = held; hung_up = hung_up }

-- what the journal says of a connection after one more item, in the item's own words
state_in-push :
    (journal : List Item) (item : Item) (conn : ℕ)
    → state_in (journal ++ item ∷ []) conn ≡ state (taken_of conn journal ++ taken_at conn item) (hold_after conn (is_held conn journal) item) (is_hung_up conn journal || hangs_up conn item)
unfolding state
state_in-push journal item conn =
    ap (λ taken. record { taken = taken; on_hold = is_held conn (journal ++ item ∷ []); hung_up = is_hung_up conn (journal ++ item ∷ []) }) (taken_of-push conn journal item)
    ∙ ap (λ held. record { taken = taken_of conn journal ++ taken_at conn item; on_hold = held; hung_up = is_hung_up conn (journal ++ item ∷ []) }) (is_held-push conn journal item)
    ∙ ap (λ hung_up. record { taken = taken_of conn journal ++ taken_at conn item; on_hold = hold_after conn (is_held conn journal) item; hung_up = hung_up }) (is_hung_up-push conn journal item)

-- each kind of item, by whether it is of the connection
after-taken :
    (is : Bool) (octets taken : List ℕ) (held hung_up : Bool)
    → state (taken ++ (if is then octets else [])) held (hung_up || false) ≡ (if is then state (taken ++ octets) held hung_up else state taken held hung_up)
unfolding state
after-taken true octets taken held hung_up = ap (λ test. state (taken ++ octets) held test) (or-false hung_up)
after-taken false octets taken held hung_up = ap (λ test. state (taken ++ []) held test) (or-false hung_up) ∙ ap (λ front. state front held hung_up) (append-nil taken)

after-held :
    (is made : Bool) (taken : List ℕ) (held hung_up : Bool)
    → state (taken ++ []) (if is then made else held) (hung_up || false) ≡ (if is then state taken made hung_up else state taken held hung_up)
unfolding state
after-held true made taken held hung_up = ap (λ test. state (taken ++ []) made test) (or-false hung_up) ∙ ap (λ front. state front made hung_up) (append-nil taken)
after-held false made taken held hung_up = ap (λ test. state (taken ++ []) held test) (or-false hung_up) ∙ ap (λ front. state front held hung_up) (append-nil taken)

after-hung_up :
    (is : Bool) (taken : List ℕ) (held hung_up : Bool)
    → state (taken ++ []) (if is then false else held) (hung_up || is) ≡ (if is then state taken false true else state taken held hung_up)
unfolding state
after-hung_up true taken held hung_up = ap (λ test. state (taken ++ []) false test) (or-true hung_up) ∙ ap (λ front. state front false true) (append-nil taken)
after-hung_up false taken held hung_up = ap (λ test. state (taken ++ []) held test) (or-false hung_up) ∙ ap (λ front. state front held hung_up) (append-nil taken)

-- the item is of the connection: octets taken, a hold, a release or a hang-up
unfoldable pub IsOf : ℕ → Item → Type 0
IsOf conn (Taken other octets) = other ≡ conn
IsOf conn (Held other) = other ≡ conn
IsOf conn (Released other) = other ≡ conn
IsOf conn (HungUp other) = other ≡ conn
IsOf conn _ = ⊥

-- what the journal says of each connection after an item of one of them
pub state_in-of :
    (journal : List Item) (item : Item) (conn other : ℕ) → IsOf conn item
    → state_in (journal ++ item ∷ []) other ≡ (if nat_eq conn other then state_after item (state_in journal other) else state_in journal other)
unfolding IsOf state taken_at hold_after hangs_up
state_in-of journal (Taken number octets) conn other is =
    let P : ℕ → Type 0 = λ of. state_in (journal ++ Taken of octets ∷ []) other ≡ (if nat_eq conn other then state_after (Taken of octets) (state_in journal other) else state_in journal other) in
    subst P (sym is) (state_in-push journal (Taken conn octets) other ∙ after-taken (nat_eq conn other) octets (taken_of other journal) (is_held other journal) (is_hung_up other journal))
state_in-of journal (Held number) conn other is =
    let P : ℕ → Type 0 = λ of. state_in (journal ++ Held of ∷ []) other ≡ (if nat_eq conn other then state_after (Held of) (state_in journal other) else state_in journal other) in
    subst P (sym is) (state_in-push journal (Held conn) other ∙ after-held (nat_eq conn other) true (taken_of other journal) (is_held other journal) (is_hung_up other journal))
state_in-of journal (Released number) conn other is =
    let P : ℕ → Type 0 = λ of. state_in (journal ++ Released of ∷ []) other ≡ (if nat_eq conn other then state_after (Released of) (state_in journal other) else state_in journal other) in
    subst P (sym is) (state_in-push journal (Released conn) other ∙ after-held (nat_eq conn other) false (taken_of other journal) (is_held other journal) (is_hung_up other journal))
state_in-of journal (HungUp number) conn other is =
    let P : ℕ → Type 0 = λ of. state_in (journal ++ HungUp of ∷ []) other ≡ (if nat_eq conn other then state_after (HungUp of) (state_in journal other) else state_in journal other) in
    subst P (sym is) (state_in-push journal (HungUp conn) other ∙ after-hung_up (nat_eq conn other) (taken_of other journal) (is_held other journal) (is_hung_up other journal))
state_in-of journal (Heard event) conn other is = absurd is
state_in-of journal (OpenedAt address sessions done) conn other is = absurd is
state_in-of journal (Later number) conn other is = absurd is
state_in-of journal (Gone number) conn other is = absurd is
state_in-of journal (StoreOpened name done) conn other is = absurd is
state_in-of journal (StoreCut length) conn other is = absurd is
state_in-of journal (Stored octets) conn other is = absurd is

-- an item that is of no connection
state_quiet : (journal : List Item) (other : ℕ) → state (taken_of other journal ++ []) (is_held other journal) (is_hung_up other journal || false) ≡ state_in journal other
unfolding state
state_quiet journal other = ap (λ test. state (taken_of other journal ++ []) (is_held other journal) test) (or-false (is_hung_up other journal)) ∙ ap (λ front. state front (is_held other journal) (is_hung_up other journal)) (append-nil (taken_of other journal))

pub state_in-heard : (journal : List Item) (event : Event) (other : ℕ) → state_in (journal ++ Heard event ∷ []) other ≡ state_in journal other
unfolding taken_at hold_after hangs_up
state_in-heard journal event other = state_in-push journal (Heard event) other ∙ state_quiet journal other

pub state_in-quiet : (journal : List Item) (item : Item) (other : ℕ) → IsQuiet item → state_in (journal ++ item ∷ []) other ≡ state_in journal other
unfolding taken_at hold_after hangs_up
state_in-quiet journal (Heard event) other quiet = state_in-heard journal event other
state_in-quiet journal (OpenedAt address sessions done) other quiet = state_in-push journal (OpenedAt address sessions done) other ∙ state_quiet journal other
state_in-quiet journal (Later conn) other quiet = state_in-push journal (Later conn) other ∙ state_quiet journal other
state_in-quiet journal (Gone conn) other quiet = state_in-push journal (Gone conn) other ∙ state_quiet journal other
state_in-quiet journal (StoreOpened name done) other quiet = state_in-push journal (StoreOpened name done) other ∙ state_quiet journal other
state_in-quiet journal (StoreCut length) other quiet = state_in-push journal (StoreCut length) other ∙ state_quiet journal other
state_in-quiet journal (Stored octets) other quiet = state_in-push journal (Stored octets) other ∙ state_quiet journal other
state_in-quiet journal (Taken conn octets) other quiet = absurd quiet
state_in-quiet journal (Held conn) other quiet = absurd quiet
state_in-quiet journal (Released conn) other quiet = absurd quiet
state_in-quiet journal (HungUp conn) other quiet = absurd quiet
