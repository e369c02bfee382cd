-- Whoever took all it was offered has all its replies whenever all is settled.
use Rattle.std.proofs.Common.{◌≡◌, ◌≢◌, ℕ, ◌==◌, true, false, List, [], ◌∷◌, ◌++◌, filter, refl, ap, sym, ◌∙◌, append-nil, arith}
use Rattle.std.proofs.lemmas.List.Elements.{filter-append}
use Rattle.std.proofs.lemmas.Bool.Decides.{nat_tests}
use Rattle.session_model.specs.wire_io.declared.journal.Item.{Item}
use Rattle.session_model.specs.wire_io.declared.journal.Item.TheVariants as item
use Rattle.session_model.specs.wire_io.Journal.{taken_of, is_held}
use Rattle.session_model.specs.Rules.{Rules}
use Rattle.session_model.specs.Run.{Session, State, Open, Closing, TurnedAway, Away, Unopened, Step, run, start}
use Rattle.session_model.specs.Journaled.{WasLater, AtEachMoment}
use Rattle.session_model.specs.Serving.{IsFront, AreFronts, IsSettled, unsent, Waits, Stands, Served}
use Rattle.progress_laws.specs.Taking.{WasLost, TookAll, refuses, refusals, HasAllReplies}
use Rattle.progress_laws.proofs.laws.MomentLemmas.{at_the_end}
use Rattle.progress_laws.proofs.laws.LeavingLemmas.{Has, HasAt, has_kept, none_sent}

-- one that wasn't answered Later has nothing unsent, and isn't on hold
waits_none : (j : List Item) (c : ℕ) (xs : List ℕ) → (WasLater c j → ⊥) → Waits j c xs → (xs ≡ []) × (is_held c j ≡ false)
waits_none j c [] never waits = (refl, waits)
waits_none j c (x ∷ xs) never waits = absurd (never waits.0)

-- all was taken of a session that isn't held
module _ {W : Type 0} where
  all_sent : (j : List Item) (c : ℕ) (s : Session W) → IsFront j c s → unsent j c s ≡ [] → taken_of c j ≡ s.reply
  all_sent j c s front none = sym (front ∙ ap (λ xs. taken_of c j ++ xs) none ∙ append-nil (taken_of c j))

  has_all : (st : State) (j : List Item) (c : ℕ) (s : Session W) → s.state ≡ st → IsFront j c s → Has st j c s → Stands st j c s →
      (st ≢ Away → WasLater c j → ⊥) → (st ≡ Away → WasLost c j → ⊥) → HasAllReplies c j s
  has_all Open j c s is front has stands never unlost =
      let none = waits_none j c (unsent j c s) (never (λ e. cc)) stands in
      record { taken = all_sent j c s front none.0; heard_on = none.1; not_closing = λ e. cc }
  has_all Closing j c s is front has stands never unlost =
      absurd (stands.0 (waits_none j c (unsent j c s) (never (λ e. cc)) stands.1).0)
  has_all Unopened j c s is front has stands never unlost = record { taken = none_sent j c s front has; heard_on = stands; not_closing = λ e. cc }
  has_all TurnedAway j c s is front has stands never unlost = absurd stands
  has_all Away j c s is front has stands never unlost = record { taken = has (unlost refl); heard_on = stands.1; not_closing = λ e. cc }

-- a refusal is one of all refusals
refused : (c : ℕ) (j before since : List Item) (i : Item) → refuses c i ≡ true → j ≡ before ++ i ∷ since → refusals c j ≡ [] → ⊥
refused c j before since i is whole none = some (filter (refuses c) before) (filter (refuses c) since) (sym none ∙ ap (filter (refuses c)) whole ∙ filter-append (refuses c) before (i ∷ since) ∙ rw is refl)
  where
    some : (xs ys : List Item) → [] ≡ xs ++ i ∷ ys → ⊥
    some [] ys e = cc
    some (x ∷ xs) ys e = cc

itself : (c : ℕ) → (c == c) ≡ true
itself c = grind (arith, nat_tests)

took_all : (c : ℕ) (j : List Item) → refusals c j ≡ [] → TookAll c j
took_all c j none = record {
  not_later = λ later. refused c j later.before later.since (item.Later c) (itself c) later.is none;
  not_lost = λ lost. refused c j lost.before lost.since (item.Gone c) (itself c) lost.is none;
}

module _ {T W : Type 0} (r : Rules T W) (t : T) where
  pub all_replies : (steps : List Step) (j : List Item) (c : ℕ) → Served r t steps j → (((run r t steps).of c).state ≢ Away → WasLater c j → ⊥) →
      (((run r t steps).of c).state ≡ Away → WasLost c j → ⊥) → HasAllReplies c j ((run r t steps).of c)
  unfolding AtEachMoment AreFronts IsSettled start
  all_replies steps j c served never unlost =
      has_all ((run r t steps).of c).state j c ((run r t steps).of c) refl
      (served.sound.fronts steps [] j [] (sym (append-nil steps)) (sym (append-nil j)) served.sound.are c)
      (at_the_end r t (HasAt r c) (has_kept r t c) steps j served.sound refl) (served.settled c) never unlost

  pub took-replies : (steps : List Step) (j : List Item) (c : ℕ) → Served r t steps j → TookAll c j → HasAllReplies c j ((run r t steps).of c)
  took-replies steps j c served took = all_replies steps j c served (λ there. took.not_later) (λ away. took.not_lost)

  pub unrefused-replies : (steps : List Step) (j : List Item) (c : ℕ) → Served r t steps j → refusals c j ≡ [] → HasAllReplies c j ((run r t steps).of c)
  unrefused-replies steps j c served none = took-replies steps j c served (took_all c j none)
