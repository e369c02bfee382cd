-- A journal that serves over a tree serves over another, where each message that its steps answer is answered alike.
use Rattle.std.proofs.Common.{◌≡◌, ℕ, true, List, [], ◌∷◌, ◌++◌, refl, ap, sym, ◌∙◌, subst, append_assoc, append-nil}
use Rattle.std.specs.List.{AllByRecursion}
use Rattle.wire_io.specs.declared.journal.Item.{Item}
use Rattle.wire_io.specs.declared.journal.Item.TheVariants as item
use Rattle.session_model.specs.Rules.{Rules}
use Rattle.session_model.specs.Run.{Session, Sessions, Step, step, start, run, run_from}
use Rattle.session_model.specs.Run as session
use Rattle.session_model.specs.Journaled.{AtEachMoment, AtEachItem}
use Rattle.session_model.specs.Serving.{Stands, MayHangUp, IsServed, IsFront, AreFronts, IsSettled, Rightly, Sound, Served}
use Rattle.session_model.specs.AnsweredMessages.{IsAnsweredAlike, answered_of_step, answered_of_run}
use Rattle.session_model.proofs.laws.AlikeLemmas.{all_append}
use Rattle.session_model.proofs.laws.RunLemmas.{run-alike}

module _ {T W : Type 0} (r : Rules T W) (one other : T) where
  -- the messages of steps are those of the first and then those of the others
  answered_of_run-append : (u : Sessions T W) (early late : List Step) → answered_of_run r u (early ++ late) ≡ answered_of_run r u early ++ answered_of_run r (run_from r u early) late
  unfolding answered_of_run run_from
  answered_of_run-append u [] late = refl
  answered_of_run-append u (s ∷ early) late =
      ap (λ xs. answered_of_step r u s ++ xs) (answered_of_run-append (step r u s) early late)
      ∙ sym (append_assoc (answered_of_step r u s) (answered_of_run r (step r u s) early) (answered_of_run r (run_from r (step r u s) early) late))

  -- at each front of the steps the sessions are the same, and the changes
  record AreSame (early : List Step) : Type 0 where
    pub changes : (run r one early).changes ≡ (run r other early).changes
    pub each : (number : ℕ) → (run r one early).of number ≡ (run r other early).of number

  same_early : (steps : List Step) → AllByRecursion (IsAnsweredAlike r other) (answered_of_run r (start r one) steps)
      → (early late : List Step) → steps ≡ early ++ late → AreSame early
  same_early steps all early late joins =
      let split : answered_of_run r (start r one) steps ≡ answered_of_run r (start r one) early ++ answered_of_run r (run_from r (start r one) early) late =
      ap (answered_of_run r (start r one)) joins ∙ answered_of_run-append (start r one) early late in
      let parts = all_append (IsAnsweredAlike r other) (answered_of_run r (start r one) early) (answered_of_run r (run_from r (start r one) early) late)
      (subst (AllByRecursion (IsAnsweredAlike r other)) split all) in
      let same = (run-alike r other one early parts.0).same in
      record { changes = ap (λ (x : Sessions T W). x.changes) (sym same); each = λ number. ap (λ (x : Sessions T W). x.of number) (sym same) }

  fronts-alike : (early : List Step) (front : List Item) → AreSame early → AreFronts r one early front → AreFronts r other early front
  unfolding AreFronts
  fronts-alike early front same fronts number = subst (λ s. IsFront front number s) (same.each number) (fronts number)

  settled-alike : (early : List Step) (front : List Item) → AreSame early → IsSettled r one early front → IsSettled r other early front
  unfolding IsSettled
  settled-alike early front same settled number = subst (λ (s : Session W). Stands s.state front number s) (same.each number) (settled number)

  served-place : (early : List Step) (number : ℕ) → AreSame early → IsServed (run r one early) number → IsServed (run r other early) number
  served-place early number same right = subst (λ (s : Session W). session.is_held s.state ≡ true) (same.each number) right

  rightly-alike : (early : List Step) (front : List Item) (current : Item) → AreSame early → Rightly r one early front current → Rightly r other early front current
  unfolding Rightly
  rightly-alike early front (item.Heard event) same right = settled-alike early front same right
  rightly-alike early front (item.HungUp number) same right = subst (λ (s : Session W). MayHangUp s.state front number s) (same.each number) right
  rightly-alike early front (item.OpenedAt address count ok) same right = absurd right
  rightly-alike early front (item.StoreOpened name ok) same right = absurd right
  rightly-alike early front (item.StoreCut length) same right = absurd right
  rightly-alike early front (item.Taken number octets) same right = record { stored = right.stored ∙ same.changes; served = served-place early number same right.served }
  rightly-alike early front (item.Later number) same right = served-place early number same right
  rightly-alike early front (item.Gone number) same right = served-place early number same right
  rightly-alike early front (item.Held number) same right = served-place early number same right
  rightly-alike early front (item.Released number) same right = right
  rightly-alike early front (item.Stored octets) same right = record { rest = right.rest; next = sym same.changes ∙ right.next }

  pub sound-alike : (steps : List Step) (journal : List Item) → AllByRecursion (IsAnsweredAlike r other) (answered_of_run r (start r one) steps)
      → Sound r one steps journal → Sound r other steps journal
  unfolding AtEachMoment AtEachItem
  sound-alike steps journal all sound = record {
    are = sound.are;
    once = sound.once;
    fronts = λ early late front back joins whole are. fronts-alike early front (same_early steps all early late joins) (sound.fronts early late front back joins whole are);
    rightly = λ early late front back current joins whole are.
        rightly-alike early front current (same_early steps all early late joins) (sound.rightly early late front back current joins whole are);
  }

  pub served-alike : (steps : List Step) (journal : List Item) → AllByRecursion (IsAnsweredAlike r other) (answered_of_run r (start r one) steps)
      → Served r one steps journal → Served r other steps journal
  served-alike steps journal all served = record {
    sound = sound-alike steps journal all served.sound;
    settled = settled-alike steps journal (same_early steps all steps [] (sym (append-nil steps))) served.settled;
  }
