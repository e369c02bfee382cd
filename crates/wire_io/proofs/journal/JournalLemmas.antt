-- Lemmas on a journal to which one item is added.
use Rattle.std.proofs.Common.{◌≡◌, ℕ, Bool, true, false, List, [], ◌∷◌, ◌++◌, ◌||◌, refl, ap, sym, ◌∙◌, append_assoc, append-nil}
use Rattle.wire_io.specs.declared.journal.Event.TheVariants.{Opened, Bytes, Ended, Ready, Idle, Stop}
use Rattle.wire_io.specs.declared.journal.Item.{Item}
use Rattle.wire_io.specs.declared.journal.Item.TheVariants.{Heard, OpenedAt, Taken, Later, Gone, Held, Released, HungUp, StoreOpened, StoreCut, Stored}
use Rattle.wire_io.specs.Journal.{opened_by, opens, was_opened, stops, was_stopped, taken_at, taken_of, stored_at, stored_of, hangs_up, is_hung_up, hold_after, hold_after_all, is_held}

-- a test of either of two, and then a third
or_assoc : (first second third : Bool) → (first || second) || third ≡ first || (second || third)
or_assoc true second third = refl
or_assoc false second third = refl

pub or-false : (test : Bool) → test || false ≡ test
or-false true = refl
or-false false = refl

pub or-true : (test : Bool) → test || true ≡ true
or-true true = refl
or-true false = refl

-- the octets taken with one more item
pub taken_of-push : (conn : ℕ) (journal : List Item) (item : Item) → taken_of conn (journal ++ item ∷ []) ≡ taken_of conn journal ++ taken_at conn item
unfolding taken_of
taken_of-push conn [] item = append-nil (taken_at conn item)
taken_of-push conn (first ∷ journal) item =
    ap (λ rest. taken_at conn first ++ rest) (taken_of-push conn journal item) ∙ sym (append_assoc (taken_at conn first) (taken_of conn journal) (taken_at conn item))

-- the octets stored with one more item
pub stored_of-push : (journal : List Item) (item : Item) → stored_of (journal ++ item ∷ []) ≡ stored_of journal ++ stored_at item
unfolding stored_of
stored_of-push [] item = append-nil (stored_at item)
stored_of-push (first ∷ journal) item =
    ap (λ rest. stored_at first ++ rest) (stored_of-push journal item) ∙ sym (append_assoc (stored_at first) (stored_of journal) (stored_at item))

-- hung up, with one more item
pub is_hung_up-push : (conn : ℕ) (journal : List Item) (item : Item) → is_hung_up conn (journal ++ item ∷ []) ≡ is_hung_up conn journal || hangs_up conn item
unfolding is_hung_up
is_hung_up-push conn [] item = or-false (hangs_up conn item)
is_hung_up-push conn (first ∷ journal) item =
    ap (λ rest. hangs_up conn first || rest) (is_hung_up-push conn journal item) ∙ sym (or_assoc (hangs_up conn first) (is_hung_up conn journal) (hangs_up conn item))

-- opened, with one more item
pub was_opened-push : (conn : ℕ) (journal : List Item) (item : Item) → was_opened conn (journal ++ item ∷ []) ≡ was_opened conn journal || opens conn item
unfolding was_opened
was_opened-push conn [] item = or-false (opens conn item)
was_opened-push conn (first ∷ journal) item =
    ap (λ rest. opens conn first || rest) (was_opened-push conn journal item) ∙ sym (or_assoc (opens conn first) (was_opened conn journal) (opens conn item))

-- stopped, with one more item
pub was_stopped-push : (journal : List Item) (item : Item) → was_stopped (journal ++ item ∷ []) ≡ was_stopped journal || stops item
unfolding was_stopped
was_stopped-push [] item = or-false (stops item)
was_stopped-push (first ∷ journal) item =
    ap (λ rest. stops first || rest) (was_stopped-push journal item) ∙ sym (or_assoc (stops first) (was_stopped journal) (stops item))

-- on hold, with one more item
pub hold_after_all-push :
    (conn : ℕ) (before : Bool) (journal : List Item) (item : Item)
    → hold_after_all conn before (journal ++ item ∷ []) ≡ hold_after conn (hold_after_all conn before journal) item
unfolding hold_after_all
hold_after_all-push conn before [] item = refl
hold_after_all-push conn before (first ∷ journal) item = hold_after_all-push conn (hold_after conn before first) journal item

pub is_held-push : (conn : ℕ) (journal : List Item) (item : Item) → is_held conn (journal ++ item ∷ []) ≡ hold_after conn (is_held conn journal) item
unfolding is_held
is_held-push conn journal item = hold_after_all-push conn false journal item

-- the numbers opened, with one more item
pub opened_by-opened : (journal : List Item) (conn : ℕ) → opened_by (journal ++ Heard (Opened conn) ∷ []) ≡ opened_by journal ++ conn ∷ []
unfolding opened_by
opened_by-opened [] conn = refl
opened_by-opened (Heard (Opened number) ∷ journal) conn = ap (λ rest. number ∷ rest) (opened_by-opened journal conn)
opened_by-opened (Heard (Bytes number octets) ∷ journal) conn = opened_by-opened journal conn
opened_by-opened (Heard (Ended number) ∷ journal) conn = opened_by-opened journal conn
opened_by-opened (Heard (Ready number) ∷ journal) conn = opened_by-opened journal conn
opened_by-opened (Heard Idle ∷ journal) conn = opened_by-opened journal conn
opened_by-opened (Heard Stop ∷ journal) conn = opened_by-opened journal conn
opened_by-opened (OpenedAt address sessions done ∷ journal) conn = opened_by-opened journal conn
opened_by-opened (Taken number octets ∷ journal) conn = opened_by-opened journal conn
opened_by-opened (Later number ∷ journal) conn = opened_by-opened journal conn
opened_by-opened (Gone number ∷ journal) conn = opened_by-opened journal conn
opened_by-opened (Held number ∷ journal) conn = opened_by-opened journal conn
opened_by-opened (Released number ∷ journal) conn = opened_by-opened journal conn
opened_by-opened (HungUp number ∷ journal) conn = opened_by-opened journal conn
opened_by-opened (StoreOpened name done ∷ journal) conn = opened_by-opened journal conn
opened_by-opened (StoreCut length ∷ journal) conn = opened_by-opened journal conn
opened_by-opened (Stored octets ∷ journal) conn = opened_by-opened journal conn

-- the item opens no connection
pub opened_by-other : (journal : List Item) (item : Item) → opened_by (item ∷ []) ≡ [] → opened_by (journal ++ item ∷ []) ≡ opened_by journal
unfolding opened_by
opened_by-other [] item none = none
opened_by-other (Heard (Opened number) ∷ journal) item none = ap (λ rest. number ∷ rest) (opened_by-other journal item none)
opened_by-other (Heard (Bytes number octets) ∷ journal) item none = opened_by-other journal item none
opened_by-other (Heard (Ended number) ∷ journal) item none = opened_by-other journal item none
opened_by-other (Heard (Ready number) ∷ journal) item none = opened_by-other journal item none
opened_by-other (Heard Idle ∷ journal) item none = opened_by-other journal item none
opened_by-other (Heard Stop ∷ journal) item none = opened_by-other journal item none
opened_by-other (OpenedAt address sessions done ∷ journal) item none = opened_by-other journal item none
opened_by-other (Taken number octets ∷ journal) item none = opened_by-other journal item none
opened_by-other (Later number ∷ journal) item none = opened_by-other journal item none
opened_by-other (Gone number ∷ journal) item none = opened_by-other journal item none
opened_by-other (Held number ∷ journal) item none = opened_by-other journal item none
opened_by-other (Released number ∷ journal) item none = opened_by-other journal item none
opened_by-other (HungUp number ∷ journal) item none = opened_by-other journal item none
opened_by-other (StoreOpened name done ∷ journal) item none = opened_by-other journal item none
opened_by-other (StoreCut length ∷ journal) item none = opened_by-other journal item none
opened_by-other (Stored octets ∷ journal) item none = opened_by-other journal item none
