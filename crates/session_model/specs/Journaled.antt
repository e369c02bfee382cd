-- The steps that a link's journal tells, and what each of its moments and items may be asked.
use Rattle.std.specs.Prelude.{◌≡◌, ◌≤◌, ◌<◌, ◌+◌, ℕ, ◌==◌, Bool, true, false, ◌&&◌, if◌then◌else◌, List, [], ◌∷◌, ◌++◌, map, None, Some}
use Rattle.wire_io.specs.declared.journal.Event.{Event}
use Rattle.wire_io.specs.declared.journal.Event.TheVariants as event
use Rattle.wire_io.specs.declared.journal.Item.{Item}
use Rattle.wire_io.specs.declared.journal.Item.TheVariants as item
use Rattle.wire_io.specs.Journal.{heard}
use Rattle.session_model.specs.Run.{Step, Opened, Bytes, Ended, Gone, HungUp}

-- the step that an event is, alone in a list; none of them is cut
abbrev pub step_of_event : Event → List Step
step_of_event (event.Opened number) = Opened number ∷ []
step_of_event (event.Bytes number octets) = Bytes number octets None ∷ []
step_of_event (event.Ended number) = Ended number ∷ []
step_of_event (event.Ready number) = []
step_of_event event.Idle = []
step_of_event event.Stop = []

-- the step that an item is: an event, a connection found lost, or one hung up
abbrev pub step_of_item : Item → List Step
step_of_item (item.Heard event) = step_of_event event
step_of_item (item.OpenedAt address sessions ok) = []
step_of_item (item.Taken number octets) = []
step_of_item (item.Later number) = []
step_of_item (item.Gone number) = Gone number ∷ []
step_of_item (item.Held number) = []
step_of_item (item.Released number) = []
step_of_item (item.HungUp number) = HungUp number ∷ []
step_of_item (item.StoreOpened name ok) = []
step_of_item (item.StoreCut length) = []
step_of_item (item.Stored octets) = []

-- the steps of a journal, in order
unfoldable pub steps_of : List Item → List Step
steps_of [] = []
steps_of (first ∷ journal) = step_of_item first ++ steps_of journal

-- the steps of a list of events, in order
unfoldable pub steps_of_events : List Event → List Step
steps_of_events [] = []
steps_of_events (first ∷ events) = step_of_event first ++ steps_of_events events

-- a step without its cut
abbrev pub uncut : Step → Step
uncut (Opened number) = Opened number
uncut (Bytes number piece cut) = Bytes number piece None
uncut (Ended number) = Ended number
uncut (Gone number) = Gone number
uncut (HungUp number) = HungUp number

-- no step is cut
abbrev pub HasNoCut : List Step → Type 0
HasNoCut steps = map uncut steps ≡ steps

-- how often a step cuts a connection
abbrev pub cuts_at : ℕ → Step → ℕ
cuts_at number (Opened other) = 0
cuts_at number (Bytes other piece None) = 0
cuts_at number (Bytes other piece (Some count)) = if other == number then 1 else 0
cuts_at number (Ended other) = 0
cuts_at number (Gone other) = 0
cuts_at number (HungUp other) = 0

-- how often steps do
unfoldable pub cuts_of : ℕ → List Step → ℕ
cuts_of number [] = 0
cuts_of number (first ∷ steps) = cuts_at number first + cuts_of number steps

-- some connection is cut, by its number
pub record HasCut (steps : List Step) : Type 0 where
  pub number : ℕ
  pub cut : 0 < cuts_of number steps

-- each connection is cut once at most
unfoldable pub CutOnce : List Step → Type 0
CutOnce steps = (number : ℕ) → cuts_of number steps ≤ 1

-- but for their cuts the steps are those of the journal
abbrev pub StepsOf : List Item → List Step → Type 0
StepsOf journal steps = map uncut steps ≡ steps_of journal

-- whether a step is an event
abbrev pub is_event : Step → Bool
is_event (Opened number) = true
is_event (Bytes number piece cut) = true
is_event (Ended number) = true
is_event (Gone number) = false
is_event (HungUp number) = false

-- whether an item is no refusal to take octets
abbrev pub is_no_refusal : Item → Bool
is_no_refusal (item.Later number) = false
is_no_refusal (item.Gone number) = false
is_no_refusal _ = true

-- each write was answered by taking octets
unfoldable pub all_taken : List Item → Bool
all_taken [] = true
all_taken (first ∷ journal) = is_no_refusal first && all_taken journal

-- a write to the connection was answered Later, and no event was heard since
pub record WasLater (number : ℕ) (journal : List Item) : Type 0 where
  pub before : List Item
  pub since : List Item
  pub is : journal ≡ before ++ item.Later number ∷ since
  pub same_block : heard since ≡ []

-- at each moment of a journal, before its first item and after each, the claim holds of what came so far and of the
-- steps so far
unfoldable pub AtEachMoment : (List Step → List Item → Type 0) → List Step → List Item → Type 0
AtEachMoment claim steps journal =
    (early late : List Step) (front back : List Item) → steps ≡ early ++ late → journal ≡ front ++ back → StepsOf front early → claim early front

-- the claim holds of each item of a journal, and of the steps and the items before it
unfoldable pub AtEachItem : (List Step → List Item → Item → Type 0) → List Step → List Item → Type 0
AtEachItem claim steps journal =
    (early late : List Step) (front back : List Item) (current : Item) →
    steps ≡ early ++ late → journal ≡ front ++ current ∷ back → StepsOf front early → claim early front current
