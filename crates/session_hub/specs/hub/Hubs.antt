-- What a hub holds, and what each step leaves of it.
use Rattle.std.specs.Prelude.{◌≡◌, ◌<◌, ◌≤◌, ℕ, Bool, true, false, cond, ◌||◌, List, [], ◌∷◌, ◌++◌, length, take, drop, Option, Some, None, slice_get, slice_set}
use Rattle.std.specs.List.{AllByRecursion}
use Rattle.session_model.specs.Run.{Session, Bytes, is_held, most_held}
use Rattle.session_model.specs.Kept.{Kept, Held, heard, kept_of, is_kept, cut_of, changed}
use Rattle.session_hub.specs.Parties.{DirectoryEntries, Requester}
use Rattle.session_hub.specs.Terms.{Terms}
use Rattle.session_hub.specs.declared.bounds.Bounds.{Bounds}
use Rattle.session_hub.specs.declared.event.Event.{Event}
use Rattle.session_hub.specs.declared.event.Event.TheVariants as event
use Rattle.session_hub.specs.Answering.{rules}
use Rattle.session_hub.specs.ShortAnswers.{StepsShort}
use Rattle.session_hub.specs.Event.{step_by, new_cut}
use Rattle.session_hub.specs.connection.Limits.{most_unread}

-- the connections held, whether any connection was cut so far, the octets of the changes that aren't stored yet, and what is
-- bounded, which stays
pub record HubState : Type 0 where
  pub kept : List (Kept Requester)
  pub was_cut : Bool
  pub unstored : List ℕ
  pub bounds : Bounds

-- what a hub holds, with the entries of the directory
abbrev pub held : DirectoryEntries → HubState → Held DirectoryEntries Requester
held entries hub = record { tree = entries; kept = hub.kept; was_cut = hub.was_cut; unstored = hub.unstored }

-- a hub that holds nothing, with these bounds
abbrev pub no_hub : Bounds → HubState
no_hub bounds = record { kept = []; was_cut = false; unstored = []; bounds = bounds }

-- an event was heard: what is held is what the event's step leaves, cut where the hub tells it; and each reply to a message
-- that the step answers is short, so that it is read again
pub record Hears (terms : Terms) (came : Event) (old new : Held DirectoryEntries Requester) : Type 0 where
  pub same : new ≡ heard (rules terms) (step_by came old.kept new.kept) old
  pub short : StepsShort terms (step_by came old.kept new.kept) old

-- the same, whatever the entries are, which stay
abbrev pub HearsAnywhere : Event → HubState → HubState → Type 0
HearsAnywhere came old new = (entries : DirectoryEntries) → Hears old.bounds.terms came (held entries old) (held entries new)

-- a piece was heard by the connection of a number, if it is held and open; whether it was cut is told; and each reply is short
pub record HearsAt (terms : Terms) (number : ℕ) (piece : List ℕ) (before : DirectoryEntries) (old : List (Kept Requester)) (unstored : List ℕ)
    (after : DirectoryEntries) (new : List (Kept Requester)) (unstored_after : List ℕ) (was_cut : Bool) : Type 0 where
  pub same : (cut_before : Bool) →
      let cut = new_cut (kept_of number old) (cut_of number new) in
      record { tree = after; kept = new; was_cut = cut_before || was_cut; unstored = unstored_after }
      ≡ heard (rules terms) (Bytes number piece cut) (record { tree = before; kept = old; was_cut = cut_before; unstored = unstored })
  pub short : (cut_before : Bool) →
      let cut = new_cut (kept_of number old) (cut_of number new) in
      StepsShort terms (Bytes number piece cut) (record { tree = before; kept = old; was_cut = cut_before; unstored = unstored })

-- the event opens a connection that is then held
abbrev pub OpensOne : Event → List (Kept Requester) → Type 0
OpensOne (event.Opened number) kept = (is_kept (kept_of number kept) ≡ false) × (length kept < most_held)
OpensOne (event.Bytes number octets) kept = ⊥
OpensOne (event.Ended number) kept = ⊥

-- each connection held has at most so many unread octets
abbrev pub IsBounded : List (Kept Requester) → Type 0
IsBounded kept = AllByRecursion (λ connection. length connection.rest ≤ most_unread) kept

-- no two connections held have one number
abbrev pub AreDistinct : List (Kept Requester) → Type 0
AreDistinct [] = Unit {0}
AreDistinct (connection ∷ connections) = (kept_of connection.number connections ≡ None) × AreDistinct connections

-- what is always true of the connections held
pub record AreHeld (kept : List (Kept Requester)) : Type 0 where
  pub bounded : IsBounded kept
  pub distinct : AreDistinct kept

-- of a session, the reply beyond what was taken, where it is held
abbrev pub left_of : Session Requester → ℕ → List ℕ
left_of session taken = cond (is_held session.state) (drop taken session.reply) []

-- the unread octets of a connection, if it is held
abbrev pub unread_of : Option (Kept Requester) → List ℕ
unread_of None = []
unread_of (Some connection) = connection.rest

-- the connection of the number is at this place
pub record IsAt (number at : ℕ) (kept : List (Kept Requester)) : Type 0 where
  pub within : at < length kept
  pub found : slice_get kept at ≡ kept_of number kept
  pub changes : (change : Kept Requester → Kept Requester) (connection : Kept Requester) → kept_of number kept ≡ Some connection → changed number change kept ≡ slice_set kept at (change connection)

-- a connection that isn't held, or is closing
abbrev pub IsShut : Option (Kept Requester) → Type 0
IsShut None = Unit {0}
IsShut (Some connection) = connection.closing ≡ true

-- the connection of the number is at this place, and isn't closing
pub record IsOpenAt (number at : ℕ) (kept : List (Kept Requester)) : Type 0 where
  pub place : IsAt number at kept
  pub still : (connection : Kept Requester) → kept_of number kept ≡ Some connection → connection.closing ≡ false

-- none of the first connections has the number
pub record NoneBefore (number at : ℕ) (kept : List (Kept Requester)) : Type 0 where
  pub found : kept_of number kept ≡ kept_of number (drop at kept)
  pub changes : (change : Kept Requester → Kept Requester) → changed number change kept ≡ take at kept ++ changed number change (drop at kept)
