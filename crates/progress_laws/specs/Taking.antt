-- Connections that take what they are offered, and what they then have whenever all is settled.
use Rattle.std.specs.Prelude.{◌≡◌, ◌≢◌, ℕ, ◌==◌, Bool, false, List, ◌∷◌, ◌++◌, filter}
use Rattle.session_model.specs.wire_io.declared.journal.Item.{Item}
use Rattle.session_model.specs.wire_io.declared.journal.Item.TheVariants as item
use Rattle.session_model.specs.wire_io.Journal.{taken_of, is_held, was_opened}
use Rattle.session_model.specs.Run.{Session, Closing}
use Rattle.session_model.specs.Journaled.{WasLater}

-- a write to the connection was answered Gone, and it was not opened since
pub record WasLost (number : ℕ) (journal : List Item) : Type 0 where
  pub before : List Item
  pub since : List Item
  pub is : journal ≡ before ++ item.Gone number ∷ since
  pub same_opening : was_opened number since ≡ false

-- the connection took all octets that it was offered: in this block no write was answered Later, and since it was opened none
-- was answered Gone
pub record TookAll (number : ℕ) (journal : List Item) : Type 0 where
  pub not_later : WasLater number journal → ⊥
  pub not_lost : WasLost number journal → ⊥

-- the item refuses octets for the connection, for now or for good
abbrev pub refuses : ℕ → Item → Bool
refuses number (item.Later other) = other == number
refuses number (item.Gone other) = other == number
refuses number _ = false

-- all refusals of the connection's octets
abbrev pub refusals : ℕ → List Item → List Item
refusals number journal = filter (refuses number) journal

-- all octets of its reply were taken, it is not on hold, and it is not left to be hung up
pub record HasAllReplies {W : Type 0} (number : ℕ) (journal : List Item) (session : Session W) : Type 0 where
  pub taken : taken_of number journal ≡ session.reply
  pub heard_on : is_held number journal ≡ false
  pub not_closing : session.state ≢ Closing
