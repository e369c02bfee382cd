-- A hub that hears octets of a connection.
use Rattle.std.proofs.Common.{◌≡◌, ℕ, Bool, false, ◌||◌, List, set, get_or, refl, sym, ap, ◌∙◌, subst}
use Rattle.std.proofs.Math.Bool.{or-false}
use Rattle.session_model.specs.Kept.{Kept, heard, kept_of, cut_of, is_cut}
use Rattle.session_model.specs.Run.{Bytes}
use Rattle.session_hub.specs.Parties.{DirectoryEntries, Requester}
use Rattle.session_hub.specs.Terms.{Terms}
use Rattle.session_hub.specs.declared.event.Event.{Event}
use Rattle.session_hub.specs.declared.event.Event.TheVariants as event
use Rattle.session_hub.specs.declared.bounds.Bounds.{Bounds}
use Rattle.session_hub.specs.Answering.{rules}
use Rattle.session_hub.specs.Event.{new_cut}
use Rattle.session_hub.specs.FirstAnswers.{HasKeptAnswer, IsIdle, IsBehindFirst, AnswersFirst, HearsFirst}
use Rattle.session_hub.specs.ShortAnswers.{StepsShort}
use Rattle.session_hub.specs.Rooms.{StaysWithin, AnswersWithin, HearsWithin, queued_beside, room_of}
use Rattle.session_hub.specs.connection.Connections.{HearsPiece}
use Rattle.session_hub.specs.hub.Hubs.{HubState, held, Hears, HearsAt, IsShut, IsOpenAt}
use Rattle.session_hub.proofs.places.PlaceLemmas.{kept_at_is}
use Rattle.session_hub.proofs.places.IdleLemmas.{first_open}
use Rattle.session_hub.proofs.connection.RoomLemmas.{answers_open}
use Rattle.session_hub.proofs.connection.HearLemmas.{hears_shut, hears_open}

-- the event is these octets of the connection of this number
abbrev pub IsPiece : ℕ → List ℕ → Event → Type 0
IsPiece number piece (event.Opened opened) = ⊥
IsPiece number piece (event.Bytes from octets) = (from ≡ number) × (octets.now ≡ piece)
IsPiece number piece (event.Ended ended) = ⊥

-- what the connections heard is what the hub heard
hears_piece : (terms : Terms) (number : ℕ) (piece : List ℕ) (came : Event) (t u : DirectoryEntries) (old new : HubState) (was_cut : Bool) →
    IsPiece number piece came → HearsAt terms number piece t old.kept old.unstored u new.kept new.unstored was_cut → new.was_cut ≡ (old.was_cut || was_cut) → Hears terms came (held t old) (held u new)
hears_piece terms number piece (event.Opened opened) t u old new was_cut is at told = absurd is
hears_piece terms number piece (event.Bytes from octets) t u old new was_cut is at told =
    record {
      same = ap (λ b. record { tree = u; kept = new.kept; was_cut = b; unstored = new.unstored }) told ∙ at.same old.was_cut
          ∙ ap (λ n. heard (rules terms) (Bytes n piece (new_cut (kept_of n old.kept) (cut_of n new.kept))) (held t old)) (sym is.0)
          ∙ ap (λ xs. heard (rules terms) (Bytes from xs (new_cut (kept_of from old.kept) (cut_of from new.kept))) (held t old)) (sym is.1);
      short = subst (λ xs. StepsShort terms (Bytes from xs (new_cut (kept_of from old.kept) (cut_of from new.kept))) (held t old)) (sym is.1)
          (subst (λ n. StepsShort terms (Bytes n piece (new_cut (kept_of n old.kept) (cut_of n new.kept))) (held t old)) (sym is.0) (at.short old.was_cut));
    }
hears_piece terms number piece (event.Ended ended) t u old new was_cut is at told = absurd is

-- nothing is heard from a connection that isn't held, or is closing
pub hub_shut : (terms : Terms) (number : ℕ) (piece : List ℕ) (came : Event) (t : DirectoryEntries) (hub : HubState) → IsPiece number piece came → IsShut (kept_of number hub.kept) → Hears terms came (held t hub) (held t hub)
hub_shut terms number piece came t hub is shut = hears_piece terms number piece came t t hub hub false is (hears_shut terms number piece t hub.kept hub.unstored shut) (sym (or-false hub.was_cut))

-- one that is open hears its octets
pub hub_open : (terms : Terms) (number at : ℕ) (piece : List ℕ) (came : Event) (t u : DirectoryEntries) (hub old : HubState) (bounds : Bounds) (k now : Kept Requester) (changes : List ℕ) (was_cut : Bool) → hub ≡ old → IsPiece number piece came →
    IsOpenAt number at hub.kept → k ≡ get_or hub.kept at k → HearsPiece terms piece t k hub.unstored u now changes → was_cut ≡ is_cut now.cut →
    Hears terms came (held t old) (held u (record { kept = set hub.kept at now; was_cut = hub.was_cut || was_cut; unstored = changes; bounds = bounds }))
hub_open terms number at piece came t u hub old bounds k now changes was_cut same is place there hears told =
    let new : HubState = record { kept = set hub.kept at now; was_cut = hub.was_cut || was_cut; unstored = changes; bounds = bounds } in
    subst (λ (h : HubState). Hears terms came (held t h) (held u new)) same
    (hears_piece terms number piece came t u hub new was_cut is
    (hears_open terms number at piece t u hub.kept k now hub.unstored changes was_cut place.place there (place.still k (kept_at_is number at hub.kept k place.place there)) hears told) refl)

-- within what the queues of the others leave
pub within_open : (terms : Terms) (room number at : ℕ) (piece : List ℕ) (came : Event) (t : DirectoryEntries) (ks : List (Kept Requester)) (bounds : Bounds) (k now : Kept Requester) → IsPiece number piece came → IsOpenAt number at ks → k ≡ get_or ks at k →
    now.number ≡ k.number → terms ≡ bounds.terms → room ≡ room_of bounds.queues (queued_beside number ks) → StaysWithin terms room piece t k now → HearsWithin came bounds t ks (set ks at now)
within_open terms room number at piece (event.Opened opened) t ks bounds k now is place there numbered same limit stays = absurd is
within_open terms room number at piece (event.Bytes from octets) t ks bounds k now is place there numbered same limit stays =
    subst (λ n. AnswersWithin bounds.terms (room_of bounds.queues (queued_beside n ks)) n octets.now t ks (set ks at now)) (sym is.0)
    (subst (λ xs. AnswersWithin bounds.terms (room_of bounds.queues (queued_beside number ks)) number xs t ks (set ks at now)) (sym is.1)
    (subst (λ r. AnswersWithin bounds.terms r number piece t ks (set ks at now)) limit
    (subst (λ x. AnswersWithin x room number piece t ks (set ks at now)) same
    (answers_open terms room number at piece t ks k now place.place there numbered stays))))
within_open terms room number at piece (event.Ended ended) t ks bounds k now is place there numbered same limit stays = absurd is

-- and not cut before a first answer that has room
pub firsts_open : (number at : ℕ) (piece : List ℕ) (came : Event) (ks : List (Kept Requester)) (k now : Kept Requester) → IsPiece number piece came → IsOpenAt number at ks → k ≡ get_or ks at k → now.number ≡ k.number →
    (IsIdle k → HasKeptAnswer k.rest piece → IsBehindFirst now.cut) → HearsFirst came ks (set ks at now)
firsts_open number at piece (event.Opened opened) ks k now is place there numbered hears = absurd is
firsts_open number at piece (event.Bytes from octets) ks k now is place there numbered hears =
    subst (λ n. AnswersFirst n octets.now ks (set ks at now)) (sym is.0)
    (subst (λ xs. AnswersFirst number xs ks (set ks at now)) (sym is.1) (first_open number at piece ks k now place.place there numbered hears))
firsts_open number at piece (event.Ended ended) ks k now is place there numbered hears = absurd is
