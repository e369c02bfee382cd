-- Where nobody is due the journal serves, and where each write took octets it is that of its events replayed.
use Rattle.std.proofs.Common.{◌≡◌, ℕ, Bool, true, false, List, [], ◌∷◌, ◌++◌, filter, refl, ap, ap₂, sym, ◌∙◌}
use Rattle.std.proofs.lemmas.List.Elements.{filter-append}
use Rattle.wire_io.specs.declared.journal.Event.{Event}
use Rattle.wire_io.specs.declared.journal.Event.TheVariants as event
use Rattle.wire_io.specs.declared.journal.Item.{Item}
use Rattle.wire_io.specs.declared.journal.Item.TheVariants as item
use Rattle.wire_io.specs.Journal.{heard, taken_of, is_held}
use Rattle.session_model.specs.Rules.{Rules}
use Rattle.session_model.specs.Run.{Session, Sessions, Step, run}
use Rattle.session_model.specs.Run as session
use Rattle.session_model.specs.Kept.{Held}
use Rattle.session_model.specs.Journaled.{steps_of, steps_of_events, step_of_event, StepsOf, HasNoCut, is_event, all_taken}
use Rattle.session_model.specs.Serving.{Served, Leads}
use Rattle.session_model.specs.Replaying.{IsReplay, is_away}
use Rattle.session_model.specs.Working.{Works}
use Rattle.session_model.proofs.laws.StandLemmas.{stands_unleaving, stands_sent, stands_unheld, all_sent}
use Rattle.session_model.proofs.laws.TrackLemmas.{front_now, settled_now}
use Rattle.session_model.proofs.laws.LeavingLemmas.{unleaving_same}

-- steps without a cut are those of the journal
pub own_steps : (journal : List Item) (steps : List Step) → StepsOf journal steps → HasNoCut steps → steps ≡ steps_of journal
own_steps journal steps are none = sym none ∙ are

-- the events among a journal's steps are those of the events heard
event_kept : (e : Event) → filter is_event (step_of_event e) ≡ step_of_event e
event_kept (event.Opened c) = refl
event_kept (event.Bytes c x) = refl
event_kept (event.Ended c) = refl
event_kept (event.Ready c) = refl
event_kept event.Idle = refl
event_kept event.Stop = refl

pub events_of : (journal : List Item) → filter is_event (steps_of journal) ≡ steps_of_events (heard journal)
unfolding steps_of steps_of_events heard
events_of [] = refl
events_of (item.Heard e ∷ j) = filter-append is_event (step_of_event e) (steps_of j) ∙ ap₂ (λ xs ys. xs ++ ys) (event_kept e) (events_of j)
events_of (item.OpenedAt a s ok ∷ j) = events_of j
events_of (item.Taken c x ∷ j) = events_of j
events_of (item.Later c ∷ j) = events_of j
events_of (item.Gone c ∷ j) = events_of j
events_of (item.Held c ∷ j) = events_of j
events_of (item.Released c ∷ j) = events_of j
events_of (item.HungUp c ∷ j) = events_of j
events_of (item.StoreOpened n ok ∷ j) = events_of j
events_of (item.StoreCut l ∷ j) = events_of j
events_of (item.Stored x ∷ j) = events_of j

module _ {T W : Type 0} (r : Rules T W) (t : T) where
  pub works_leads : (due : List ℕ) (h : Held T W) (on_hold : List ℕ) (journal : List Item) → Works r t due h on_hold journal → Leads r t h.tree journal
  works_leads due h on_hold journal works =
      record { steps = works.steps; sound = works.tracks.sound; tree_left = works.tracks.keeps.tree ∙ ap (λ (x : Sessions T W). x.tree) (sym works.tracks.is) }

  pub works_served : (h : Held T W) (on_hold : List ℕ) (journal : List Item) → (works : Works r t [] h on_hold journal) → Served r t works.steps journal
  works_served h on_hold journal works =
      record { sound = works.tracks.sound; settled = settled_now r t works.steps works.now journal works.tracks.is (λ d. works.stands d refl) }

  -- where each write took octets, nobody is on hold
  pub works_free : (h : Held T W) (on_hold : List ℕ) (journal : List Item) → Works r t [] h on_hold journal → all_taken journal ≡ true → (d : ℕ) → is_held d journal ≡ false
  works_free h on_hold journal works all d = stands_unheld (works.now.of d).state journal d (works.now.of d) all (works.stands d refl)

  pub works_replayed : (h : Held T W) (on_hold : List ℕ) (journal : List Item) → (works : Works r t [] h on_hold journal) → all_taken journal ≡ true → IsReplay r t works.steps journal
  works_replayed h on_hold journal works all =
      let u = works.now in
      let replay = works.replay all in
      record {
        same = works.tracks.is ∙ sym (replay.same ∙ unleaving_same u (λ d. stands_unleaving (u.of d).state journal d (u.of d) all (works.stands d refl)));
        taken = λ d. all_of d (session.is_held (u.of d).state) refl ∙ ap (λ (x : Sessions T W). (x.of d).reply) (sym works.tracks.is);
        hung_up = λ d. works.hung d ∙ ap (λ (x : Sessions T W). is_away (x.of d).state) (sym works.tracks.is);
      }
    where
      all_of : (d : ℕ) (b : Bool) → session.is_held (works.now.of d).state ≡ b → taken_of d journal ≡ (works.now.of d).reply
      all_of d true there =
          all_sent journal d (works.now.of d) (front_now r t works.steps works.now h on_hold journal works.tracks d)
          (stands_sent (works.now.of d).state journal d (works.now.of d) all (works.stands d refl) there)
      all_of d false unheld = (works.replay all).taken d unheld
