-- What others do in a subtree is hushed for a connection where, at each place of a run at which it is open, the tree is a twin
-- of the first one for its requester, it has asked for no change and bound itself to no name in the subtree, and it was not
-- turned away when it opened. What breaks that first, and where.
use Rattle.std.specs.Prelude.{◌≡◌, ℕ, Bool, true, false, List, [], ◌∷◌, if◌then◌else◌, Option, Some, None, IfSome, option_map, option_and_then}
use Rattle.std.specs.Option.{option_or, option_map_or}
use Rattle.std.specs.List.{AllByRecursion}
use Rattle.dir_tree.specs.dn_names.name.Names.{RdnSequence}
use Rattle.op_read.specs.twin_laws.Twins.{is_below_suffix, AreTwins}
use Rattle.session_hub.specs.session_model.ldap_msg.reading.Messages.{message_of}
use Rattle.session_hub.specs.session_model.Run.{Step}
use Rattle.session_hub.specs.session_model.Places.{Place, places, places_of_replay}
use Rattle.session_hub.specs.Parties.{DirectoryEntries, Requester}
use Rattle.session_hub.specs.Answering.{rules}
use Rattle.session_hub.specs.Twins.{reads_outside}
use Rattle.session_hub.specs.declared.bounds.Terms.{Terms}
use Rattle.hush_laws.specs.declared.part.Part.{Part}
use Rattle.hush_laws.specs.declared.part.Part.TheVariants.{Suffix, TurnedAway}
use Rattle.hush_laws.specs.declared.fault.Fault.{Fault}
use Rattle.hush_laws.specs.TwinParts.{failing_twins}
use Rattle.hush_laws.specs.Requests.{failing_request}

-- a place of a run of this server
abbrev pub ServedPlace : Type 0
ServedPlace = Place DirectoryEntries Requester

-- the connection was turned away, if so
abbrev pub failing_opening : Bool → Option Part
failing_opening turned = if turned then Some TurnedAway else None

-- the first part that a place breaks: by its tree, for who asks on the connection, where it is open; by the message that was
-- answered just before; or by the connection's opening
abbrev pub broken_part : RdnSequence → DirectoryEntries → ServedPlace → Option Part
broken_part top before place =
    option_or (option_and_then (λ who. failing_twins top before place.tree who) place.asks)
    (option_or (option_and_then (failing_request top) place.message) (failing_opening place.turned))

-- the same, with how many events had been heard
abbrev pub fault_at : RdnSequence → DirectoryEntries → ServedPlace → Option Fault
fault_at top before place = option_map (λ part. record { heard = place.heard; part = part }) (broken_part top before place)

-- the fault of the first place that has one
abbrev pub first_fault : (ServedPlace → Option Fault) → List ServedPlace → Option Fault
first_fault fault [] = None
first_fault fault (place ∷ places) = option_or (fault place) (first_fault fault places)

-- what breaks the hush first; that the name is not below the suffix comes before all places
abbrev pub hush : DirectoryEntries → List ServedPlace → RdnSequence → Option Fault
hush before places top =
    if is_below_suffix top before then first_fault (fault_at top before) places else Some (record { heard = 0; part = Suffix })

-- so of a connection in a run of all steps
unfoldable pub hush_of_run : Terms → DirectoryEntries → List Step → ℕ → RdnSequence → Option Fault
hush_of_run terms before steps number top = hush before (places (rules terms) number before steps) top

-- and where all events are replayed, each connection that closes being hung up at once
unfoldable pub hush_of_replay : Terms → DirectoryEntries → List Step → ℕ → RdnSequence → Option Fault
hush_of_replay terms before events number top = hush before (places_of_replay (rules terms) number before events) top

-- octets are no message, or ask for no change and are no bind with a name at or below this one
abbrev pub IsReadOutside : RdnSequence → List ℕ → Type 0
IsReadOutside top octets = option_map_or (λ message. reads_outside top message.request) (message_of octets) true ≡ true

-- a place breaks nothing: its tree is a twin of the tree before for who asks, if the connection is open; the message that was
-- answered just before is so; and the connection was not turned away
pub record IsHushedAt (top : RdnSequence) (before : DirectoryEntries) (place : ServedPlace) : Type 0 where
  pub twins : IfSome place.asks (λ who. AreTwins who place.tree before top)
  pub message : IfSome place.message (IsReadOutside top)
  pub room : place.turned ≡ false

-- the name is below the suffix, and no place breaks anything
pub record IsHushed (before : DirectoryEntries) (places : List ServedPlace) (top : RdnSequence) : Type 0 where
  pub below : is_below_suffix top before ≡ true
  pub each : AllByRecursion (IsHushedAt top before) places
