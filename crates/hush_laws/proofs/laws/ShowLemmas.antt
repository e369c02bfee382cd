-- What is hushed does not show.
use Rattle.std.proofs.Common.{◌≡◌, ℕ, Bool, true, not, ◌&&◌, List, [], ◌∷◌, Option, Some, None, refl, ap}
use Rattle.std.specs.Prelude.{IfSome, is_none}
use Rattle.std.specs.Option.{option_map_or}
use Rattle.std.specs.List.{AllByRecursion}
use Rattle.std.proofs.lemmas.Bool.{and_from}
use Rattle.dir_tree.proofs.base_laws_proofs.Theorems.{all_map}
use Rattle.dir_tree.specs.dn_names.name.Names.{RdnSequence}
use Rattle.aci_item.specs.Rules.{IsGoodTree}
use Rattle.op_read.specs.twin_laws.Twins.{is_below_suffix, AreTwins}
use Rattle.session_hub.specs.session_model.ldap_msg.reading.Messages.{message_of}
use Rattle.session_hub.specs.session_model.Run.{Step, start}
use Rattle.session_hub.specs.session_model.AnsweredMessages.{AnsweredMessage}
use Rattle.session_hub.specs.session_model.Purging.{finds_room, answered_of_connection, finds_room_in_replay, answered_in_replay}
use Rattle.session_hub.specs.session_model.Places.{places, places_of_replay, passes, IsPassing}
use Rattle.session_hub.proofs.session_model_proofs.Theorems.{run-meets, replay-meets}
use Rattle.session_hub.specs.Parties.{DirectoryEntries, Requester}
use Rattle.session_hub.specs.declared.bounds.Terms.{Terms}
use Rattle.session_hub.specs.Answering.{rules}
use Rattle.session_hub.specs.Twins.{reads_outside, IsOverTwins}
use Rattle.hush_laws.specs.TwinParts.{failing_twins}
use Rattle.hush_laws.specs.Hush.{ServedPlace, hush_of_run, hush_of_replay, IsReadOutside, IsHushedAt}
use Rattle.hush_laws.proofs.laws.TwinLemmas.{twins-from_none, none-from_twins}
use Rattle.hush_laws.proofs.laws.HushLemmas.{hushed-from_none}

is_none-None : {A : Type 0} (one : Option A) → is_none one ≡ true → one ≡ None
is_none-None None is = refl
is_none-None (Some x) is = absurd cc

module _ (top : RdnSequence) (before : DirectoryEntries) where
  -- the tests that each place passes: of the tree and who asks, and of the message
  abbrev allows : DirectoryEntries → Requester → Bool
  allows tree who = is_none (failing_twins top before tree who)

  abbrev reads : List ℕ → Bool
  reads octets = option_map_or (λ message. reads_outside top message.request) (message_of octets) true

  asked-passes : (asks : Option Requester) (tree : DirectoryEntries) → IfSome asks (λ who. AreTwins who tree before top) → option_map_or (λ who. allows tree who) asks true ≡ true
  asked-passes None tree twins = refl
  asked-passes (Some who) tree twins = ap is_none (none-from_twins top before tree who twins)

  told-passes : (message : Option (List ℕ)) → IfSome message (IsReadOutside top) → option_map_or reads message true ≡ true
  told-passes None outside = refl
  told-passes (Some octets) outside = outside

  place-passes : (place : ServedPlace) → IsHushedAt top before place → passes allows reads place ≡ true
  place-passes place hushed =
      and_from (option_map_or (λ who. allows place.tree who) place.asks true && option_map_or reads place.message true) (not place.turned)
      (and_from (option_map_or (λ who. allows place.tree who) place.asks true) (option_map_or reads place.message true)
      (asked-passes place.asks place.tree hushed.twins) (told-passes place.message hushed.message))
      (ap not hushed.room)

  all-pass : (places : List ServedPlace) → AllByRecursion (IsHushedAt top before) places → AllByRecursion (λ place. passes allows reads place ≡ true) places
  all-pass places all = all_map (IsHushedAt top before) (λ place. passes allows reads place ≡ true) place-passes places all

  -- messages that pass them over good trees are answered over twins
  all-twins : is_below_suffix top before ≡ true → (asked : List (AnsweredMessage DirectoryEntries Requester)) → AllByRecursion (IsPassing allows reads) asked
      → AllByRecursion (λ message. IsGoodTree message.tree) asked → AllByRecursion (IsOverTwins before top) asked
  all-twins below [] passing good = tt
  all-twins below (message ∷ asked) passing good = (
    record {
      twins = twins-from_none top before message.tree message.who good.0.good.tree below (is_none-None (failing_twins top before message.tree message.who) passing.0.allowed);
      outside = passing.0.readable;
    },
    all-twins below asked passing.1 good.1,
  )

module _ (terms : Terms) (entries : DirectoryEntries) (steps : List Step) (number : ℕ) (top : RdnSequence) where
  pub run-hushed : AllByRecursion (λ place. IsGoodTree place.tree) (places (rules terms) number entries steps)
      → AllByRecursion (λ message. IsGoodTree message.tree) (answered_of_connection (rules terms) number (start (rules terms) entries) steps)
      → hush_of_run terms entries steps number top ≡ None
      → (finds_room (rules terms) number (start (rules terms) entries) steps ≡ true)
      × AllByRecursion (IsOverTwins entries top) (answered_of_connection (rules terms) number (start (rules terms) entries) steps)
  unfolding hush_of_run
  run-hushed good messages none =
      let hushed = hushed-from_none top entries (places (rules terms) number entries steps) good none in
      let meets = run-meets (rules terms) (allows top entries) (reads top entries) number entries steps
      (all-pass top entries (places (rules terms) number entries steps) hushed.each) in
      (meets.0, all-twins top entries hushed.below (answered_of_connection (rules terms) number (start (rules terms) entries) steps) meets.1 messages)

  pub replay-hushed : AllByRecursion (λ place. IsGoodTree place.tree) (places_of_replay (rules terms) number entries steps)
      → AllByRecursion (λ message. IsGoodTree message.tree) (answered_in_replay (rules terms) number (start (rules terms) entries) steps)
      → hush_of_replay terms entries steps number top ≡ None
      → (finds_room_in_replay (rules terms) number (start (rules terms) entries) steps ≡ true)
      × AllByRecursion (IsOverTwins entries top) (answered_in_replay (rules terms) number (start (rules terms) entries) steps)
  unfolding hush_of_replay
  replay-hushed good messages none =
      let hushed = hushed-from_none top entries (places_of_replay (rules terms) number entries steps) good none in
      let meets = replay-meets (rules terms) (allows top entries) (reads top entries) number entries steps
      (all-pass top entries (places_of_replay (rules terms) number entries steps) hushed.each) in
      (meets.0, all-twins top entries hushed.below (answered_in_replay (rules terms) number (start (rules terms) entries) steps) meets.1 messages)
