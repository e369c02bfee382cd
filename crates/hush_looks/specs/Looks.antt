-- What a look at a place tells, and when a place shows a connection nothing new: its tree is the same, and the same one asks or
-- nobody.
use Rattle.std.specs.Prelude.{◌≡◌, ◌⊎◌, ℕ, List, Option, None, option_and_then}
use Rattle.dir_tree.specs.dn_names.name.Names.{RdnSequence}
use Rattle.session_hub.specs.session_model.Run.{Sessions}
use Rattle.session_hub.specs.session_model.Kept.{Kept, kept_of}
use Rattle.session_hub.specs.session_model.Keeping.{Keeps}
use Rattle.session_hub.specs.session_model.Places.{asker_of, asker_in}
use Rattle.session_hub.specs.Parties.{DirectoryEntries, Requester}
use Rattle.session_hub.specs.hub.Hubs.{HubState, held}
use Rattle.hush_laws.specs.declared.part.Part.{Part}
use Rattle.hush_laws.specs.TwinParts.{failing_twins}

-- the first part of being twins that fails of two trees, for who asks on the connection of a number, by what is kept of it
abbrev pub failing_look : ℕ → RdnSequence → DirectoryEntries → DirectoryEntries → List (Kept Requester) → Option Part
failing_look number top before now kept = option_and_then (λ who. failing_twins top before now who) (asker_in (kept_of number kept))

-- the same where these sessions stand, for who asks on the connection, if it is open
abbrev pub failing_standing : RdnSequence → DirectoryEntries → ℕ → Sessions DirectoryEntries Requester → Option Part
failing_standing top before number sessions = option_and_then (λ who. failing_twins top before sessions.tree who) (asker_of (sessions.of number))

-- a part is that of whatever sessions the hub holds, over these entries
unfoldable pub LooksAt : RdnSequence → DirectoryEntries → DirectoryEntries → HubState → ℕ → Option Part → Type 0
LooksAt top before now hub number part =
    (sessions : Sessions DirectoryEntries Requester) (taken : ℕ → ℕ) → Keeps sessions taken (held now hub) → part ≡ failing_standing top before number sessions

-- the same one asks, or nobody
abbrev pub AsksStill : {W : Type 0} → Option W → Option W → Type 0
AsksStill before after = (after ≡ before) ⊎ (after ≡ None)

-- what others leave of the sessions shows a connection nothing new
pub record StaysShown {T W : Type 0} (number : ℕ) (sessions after : Sessions T W) : Type 0 where
  pub tree : after.tree ≡ sessions.tree
  pub asks : AsksStill (asker_of (sessions.of number)) (asker_of (after.of number))
