-- When a link's journal serves its connections: nothing is sent but replies, and none while a change isn't stored; nothing is
-- left unsent but to a connection on hold that takes no more now, and each connection is hung up in its own block, a block
-- being an event and what is done until the next.
use Rattle.std.specs.Prelude.{◌≡◌, ◌≢◌, ℕ, true, false, List, [], ◌∷◌, ◌++◌, drop, length}
use Rattle.wire_io.specs.declared.journal.Item.{Item}
use Rattle.wire_io.specs.declared.journal.Item.TheVariants as item
use Rattle.wire_io.specs.Journal.{taken_of, stored_of, is_hung_up, is_held}
use Rattle.session_model.specs.Rules.{Rules}
use Rattle.session_model.specs.Run.{Session, Sessions, State, Open, Closing, TurnedAway, Away, Unopened, Step, run}
use Rattle.session_model.specs.Run as session
use Rattle.session_model.specs.Journaled.{StepsOf, CutOnce, WasLater, AtEachMoment, AtEachItem}

-- what of a session's reply the journal's link hasn't taken
abbrev pub unsent : {W : Type 0} → List Item → ℕ → Session W → List ℕ
unsent journal number session = drop (length (taken_of number journal)) session.reply

-- what was taken of the connection is a front of its reply
abbrev pub IsFront : {W : Type 0} → List Item → ℕ → Session W → Type 0
IsFront journal number session = session.reply ≡ taken_of number journal ++ unsent journal number session

-- a connection with octets left unsent was answered Later in this block, and is on hold; one with none is not
abbrev pub Waits : List Item → ℕ → List ℕ → Type 0
Waits journal number [] = is_held number journal ≡ false
Waits journal number (octet ∷ octets) = WasLater number journal × (is_held number journal ≡ true)

-- how a connection stands at the end of a block, by where it is
abbrev pub Stands : {W : Type 0} → State → List Item → ℕ → Session W → Type 0
Stands Open journal number session = Waits journal number (unsent journal number session)
Stands Closing journal number session = (unsent journal number session ≢ []) × Waits journal number (unsent journal number session)
Stands Unopened journal number session = is_held number journal ≡ false
Stands TurnedAway journal number session = ⊥
Stands Away journal number session = (is_hung_up number journal ≡ true) × (is_held number journal ≡ false)

-- when a connection may be hung up: it was turned away, or it is closing and its reply was taken,
-- or it was found lost and not hung up yet
abbrev pub MayHangUp : {W : Type 0} → State → List Item → ℕ → Session W → Type 0
MayHangUp Open journal number session = ⊥
MayHangUp Closing journal number session = unsent journal number session ≡ []
MayHangUp Unopened journal number session = ⊥
MayHangUp TurnedAway journal number session = Unit {0}
MayHangUp Away journal number session = is_hung_up number journal ≡ false

-- a connection that the link is asked to write to, or to put on hold, has a place in the server
abbrev pub IsServed : {T W : Type 0} → Sessions T W → ℕ → Type 0
IsServed sessions number = session.is_held (sessions.of number).state ≡ true

-- octets of a reply are taken where every change is stored that was made so far, and where the connection has a place
pub record MayBeTaken {T W : Type 0} (sessions : Sessions T W) (journal : List Item) (number : ℕ) : Type 0 where
  pub stored : stored_of journal ≡ sessions.changes
  pub served : IsServed sessions number

-- what the journal's link stored is a front of the changes
pub record IsStoredFront {T W : Type 0} (sessions : Sessions T W) (journal : List Item) : Type 0 where
  pub rest : List ℕ
  pub joins : sessions.changes ≡ stored_of journal ++ rest

-- octets that are stored are the next of the changes
pub record MayBeStored {T W : Type 0} (sessions : Sessions T W) (journal : List Item) (octets : List ℕ) : Type 0 where
  pub rest : List ℕ
  pub next : sessions.changes ≡ (stored_of journal ++ octets) ++ rest

module _ {T W : Type 0} (rules : Rules T W) (tree : T) where
  -- all that was taken was a reply, in its order
  unfoldable pub AreFronts : List Step → List Item → Type 0
  AreFronts steps journal = (number : ℕ) → IsFront journal number ((run rules tree steps).of number)

  -- each connection stands as it has to between two blocks
  unfoldable pub IsSettled : List Step → List Item → Type 0
  IsSettled steps journal = (number : ℕ) → let session = (run rules tree steps).of number in Stands session.state journal number session

  -- an event is heard where all is settled, octets are taken where all changes are stored, a connection is written to and held
  -- where it has a place and hung up where it may be, what is stored is the next of the changes, and nothing is opened or cut
  unfoldable pub Rightly : List Step → List Item → Item → Type 0
  Rightly steps journal (item.Heard event) = IsSettled steps journal
  Rightly steps journal (item.HungUp number) = let session = (run rules tree steps).of number in MayHangUp session.state journal number session
  Rightly steps journal (item.OpenedAt address count ok) = ⊥
  Rightly steps journal (item.Taken number octets) = MayBeTaken (run rules tree steps) journal number
  Rightly steps journal (item.Later number) = IsServed (run rules tree steps) number
  Rightly steps journal (item.Gone number) = IsServed (run rules tree steps) number
  Rightly steps journal (item.Held number) = IsServed (run rules tree steps) number
  Rightly steps journal (item.Released number) = Unit {0}
  Rightly steps journal (item.StoreOpened name ok) = ⊥
  Rightly steps journal (item.StoreCut length) = ⊥
  Rightly steps journal (item.Stored octets) = MayBeStored (run rules tree steps) journal octets

  -- the journal serves by these steps, but that its last block may be unfinished
  pub record Sound (steps : List Step) (journal : List Item) : Type 0 where
    pub are : StepsOf journal steps
    pub once : CutOnce steps
    pub fronts : AtEachMoment AreFronts steps journal
    pub rightly : AtEachItem Rightly steps journal

  -- the journal serves by these steps
  pub record Served (steps : List Step) (journal : List Item) : Type 0 where
    pub sound : Sound steps journal
    pub settled : IsSettled steps journal

  -- the journal serves by these steps but for its last block, and their tree is the one left
  pub record Leads (left : T) (journal : List Item) : Type 0 where
    pub steps : List Step
    pub sound : Sound steps journal
    pub tree_left : left ≡ (run rules tree steps).tree
