-- What a journal that is right says of what was stored: it is a front of the changes at each moment, and all of them where
-- octets are taken. And what is stored of a block.
use Rattle.std.proofs.Common.{◌≡◌, ℕ, List, [], ◌∷◌, ◌++◌, length, map, Option, refl, ap, ap₂, sym, ◌∙◌, subst, subst₂, inl, inr, ◌⊎◌, append_assoc, append-nil}
use Rattle.std.proofs.lemmas.List.{map-append}
use Rattle.wire_io.specs.declared.journal.Item.{Item}
use Rattle.wire_io.specs.declared.journal.Item.TheVariants as item
use Rattle.wire_io.specs.Journal.{heard as heard_events, stored_of, stored_at, opens}
use Rattle.wire_io.proofs.Theorems.{stored_of-push}
use Rattle.ldap_msg.specs.Streams.{is_broken}
use Rattle.session_model.specs.Rules.{Rules, said}
use Rattle.session_model.specs.Run.{Sessions, State, Open, Closing, TurnedAway, Away, Unopened, Step, Opened, Bytes, Ended, Gone, HungUp, step, hears, run, run_from, start, new_messages}
use Rattle.session_model.specs.Kept.{Held, heard}
use Rattle.session_model.specs.Keeping.{Keeps}
use Rattle.session_model.specs.Journaled.{StepsOf, steps_of, step_of_item, uncut, AtEachItem}
use Rattle.session_model.specs.Serving.{Sound, Rightly, IsStoredFront, MayBeStored}
use Rattle.session_model.specs.Working.{Works}
use Rattle.session_model.proofs.laws.JournalLemmas.{Still, steps_of-one, still-stored, all_taken-front, was_later-more}
use Rattle.session_model.proofs.laws.BytesLemmas.{changes-bytes}
use Rattle.session_model.proofs.laws.StepLemmas.{run_from-append}
use Rattle.session_model.proofs.laws.StandLemmas.{Keeps-as, front_as, stands_more}
use Rattle.session_model.proofs.laws.TrackLemmas.{RightlyNow, tracks_stay, front_now}

-- a list that a map made of two parts is itself of two
map_parts : {A B : Type 0} (f : A → B) (xs : List A) (ys zs : List B) → map f xs ≡ ys ++ zs →
    (front : List A) × (back : List A) × (xs ≡ front ++ back) × (map f front ≡ ys) × (map f back ≡ zs)
map_parts f xs [] zs is = ([], xs, refl, refl, is)
map_parts f [] (y ∷ ys) zs is = absurd (cc)
map_parts f (x ∷ xs) (y ∷ ys) zs is =
    let first : f x ≡ y = cc in
    let rest : map f xs ≡ ys ++ zs = cc in
    let parts = map_parts f xs ys zs rest in
    (x ∷ parts.0, parts.1, ap (λ vs. x ∷ vs) parts.2, ap₂ (λ v vs. v ∷ vs) first parts.3, parts.4)

no_steps : (xs : List Step) → map uncut xs ≡ [] → xs ≡ []
no_steps [] is = refl
no_steps (x ∷ xs) is = absurd (cc)

-- an item stores nothing, or is of octets that were stored
stores_or_not : (i : Item) → (stored_at i ≡ []) ⊎ ((x : List ℕ) × (i ≡ item.Stored x))
unfolding stored_at
stores_or_not (item.Heard event) = inl refl
stores_or_not (item.OpenedAt address sessions ok) = inl refl
stores_or_not (item.Taken number octets) = inl refl
stores_or_not (item.Later number) = inl refl
stores_or_not (item.Gone number) = inl refl
stores_or_not (item.Held number) = inl refl
stores_or_not (item.Released number) = inl refl
stores_or_not (item.HungUp number) = inl refl
stores_or_not (item.StoreOpened name ok) = inl refl
stores_or_not (item.StoreCut length) = inl refl
stores_or_not (item.Stored octets) = inr (octets, refl)

module _ {T W : Type 0} (r : Rules T W) where
  -- steps add to the changes and take none away
  hears-changes : (st : State) (u : Sessions T W) (c : ℕ) (piece : List ℕ) (cut : Option ℕ) → (more : List ℕ) × ((hears r st u c piece cut).changes ≡ u.changes ++ more)
  hears-changes Open u c piece cut = ((said r cut u.tree (u.of c).who (new_messages (u.of c).stream piece) (is_broken ((u.of c).stream ++ piece))).changes, refl)
  hears-changes Closing u c piece cut = ([], sym (append-nil u.changes))
  hears-changes Unopened u c piece cut = ([], sym (append-nil u.changes))
  hears-changes TurnedAway u c piece cut = ([], sym (append-nil u.changes))
  hears-changes Away u c piece cut = ([], sym (append-nil u.changes))

  step-changes : (u : Sessions T W) (s : Step) → (more : List ℕ) × ((step r u s).changes ≡ u.changes ++ more)
  unfolding step
  step-changes u (Opened c) = ([], sym (append-nil u.changes))
  step-changes u (Bytes c piece cut) = hears-changes (u.of c).state u c piece cut
  step-changes u (Ended c) = ([], sym (append-nil u.changes))
  step-changes u (Gone c) = ([], sym (append-nil u.changes))
  step-changes u (HungUp c) = ([], sym (append-nil u.changes))

  run_from-changes : (u : Sessions T W) (ss : List Step) → (more : List ℕ) × ((run_from r u ss).changes ≡ u.changes ++ more)
  unfolding run_from
  run_from-changes u [] = ([], sym (append-nil u.changes))
  run_from-changes u (s ∷ ss) =
      let first = step-changes u s in
      let rest = run_from-changes (step r u s) ss in
      (first.0 ++ rest.0, rest.1 ∙ ap (λ xs. xs ++ rest.0) first.1 ∙ append_assoc u.changes first.0 rest.0)

  -- what a server holds tells at each step what isn't stored
  pub changes-step : (u : Sessions T W) (taken : ℕ → ℕ) (h : Held T W) (s : Step) (stored : List ℕ) → Keeps u taken h → u.changes ≡ stored ++ h.unstored →
      (step r u s).changes ≡ stored ++ (heard r s h).unstored
  unfolding step heard
  changes-step u taken h (Opened c) stored keeps is = is
  changes-step u taken h (Bytes c piece cut) stored keeps is = changes-bytes r u taken h c piece cut stored keeps is
  changes-step u taken h (Ended c) stored keeps is = is
  changes-step u taken h (Gone c) stored keeps is = is
  changes-step u taken h (HungUp c) stored keeps is = is

module _ {T W : Type 0} (r : Rules T W) (t : T) where
  -- before octets are taken all changes are stored
  pub stored_before : (steps : List Step) (journal : List Item) → Sound r t steps journal → (early late : List Step) (front back : List Item) (number : ℕ) (octets : List ℕ) →
      steps ≡ early ++ late → journal ≡ front ++ item.Taken number octets ∷ back → StepsOf front early → stored_of front ≡ (run r t early).changes
  unfolding AtEachItem Rightly
  stored_before steps journal sound early late front back number octets joins whole are =
      (sound.rightly early late front back (item.Taken number octets) joins whole are).stored

  steps_pushed : (early more : List Step) (front : List Item) (i : Item) → StepsOf front early → map uncut more ≡ step_of_item i → StepsOf (front ++ i ∷ []) (early ++ more)
  steps_pushed early more front i are more_are =
      map-append uncut early more ∙ ap₂ (λ xs ys. xs ++ ys) are more_are ∙ sym (steps_of-one front i)

  -- one item more
  front_more : (early more : List Step) (front : List Item) (i : Item) → map uncut more ≡ step_of_item i → Rightly r t early front i →
      IsStoredFront (run r t early) front → IsStoredFront (run r t (early ++ more)) (front ++ i ∷ [])
  unfolding Rightly stored_at
  front_more early more front i are right before =
      elim (stores_or_not i) [
        | inl none ↦
            let grown = run_from-changes r (run r t early) more in
            record {
              rest = before.rest ++ grown.0;
              joins = ap (λ (x : Sessions T W). x.changes) (run_from-append r (start r t) early more) ∙ grown.1 ∙ ap (λ xs. xs ++ grown.0) before.joins
                  ∙ append_assoc (stored_of front) before.rest grown.0
                  ∙ ap (λ xs. xs ++ (before.rest ++ grown.0)) (sym (stored_of-push front i ∙ ap (λ xs. stored_of front ++ xs) none ∙ append-nil (stored_of front)));
            }
        | inr is ↦ subst (λ x. IsStoredFront (run r t (early ++ more)) (front ++ x ∷ [])) (sym is.1)
            (stored_next is.0 (subst (λ x. map uncut more ≡ step_of_item x) is.1 are) (subst (λ x. Rightly r t early front x) is.1 right))
      ]
    where
      stored_next : (x : List ℕ) → map uncut more ≡ [] → Rightly r t early front (item.Stored x) → IsStoredFront (run r t (early ++ more)) (front ++ item.Stored x ∷ [])
      stored_next x none right =
          record {
            rest = right.rest;
            joins = ap (λ xs. (run r t xs).changes) (ap (λ xs. early ++ xs) (no_steps more none) ∙ append-nil early) ∙ right.next
                ∙ ap (λ xs. xs ++ right.rest) (sym (stored_of-push front (item.Stored x)));
          }

  -- and so all items of a front
  front_all : (steps : List Step) (journal : List Item) → AtEachItem (Rightly r t) steps journal → (early more late : List Step) (front now back : List Item) →
      steps ≡ (early ++ more) ++ late → journal ≡ (front ++ now) ++ back → StepsOf front early → map uncut more ≡ steps_of now →
      IsStoredFront (run r t early) front → IsStoredFront (run r t (early ++ more)) (front ++ now)
  unfolding steps_of AtEachItem
  front_all steps journal each early more late front [] back joins whole are more_are before =
      subst₂ (λ xs ys. IsStoredFront (run r t xs) ys) (sym (ap (λ xs. early ++ xs) (no_steps more more_are) ∙ append-nil early)) (sym (append-nil front)) before
  front_all steps journal each early more late front (i ∷ now) back joins whole are more_are before =
      let parts = map_parts uncut more (step_of_item i) (steps_of now) more_are in
      let one = parts.0 in
      let others = parts.1 in
      let split : early ++ more ≡ (early ++ one) ++ others = ap (λ xs. early ++ xs) parts.2 ∙ sym (append_assoc early one others) in
      let pushed : front ++ i ∷ now ≡ (front ++ i ∷ []) ++ now = sym (append_assoc front (i ∷ []) now) in
      let right : Rightly r t early front i =
      each early (more ++ late) front (now ++ back) i (joins ∙ append_assoc early more late) (whole ∙ append_assoc front (i ∷ now) back) are in
      subst₂ (λ xs ys. IsStoredFront (run r t xs) ys) (sym split) (sym pushed)
      (front_all steps journal each (early ++ one) others late (front ++ i ∷ []) now back
      (joins ∙ ap (λ xs. xs ++ late) split) (whole ∙ ap (λ xs. xs ++ back) pushed)
      (steps_pushed early one front i are parts.3) parts.4 (front_more early one front i parts.3 right before))

  -- at each moment of a journal that is right what was stored is a front of the changes
  pub stored_front : (steps : List Step) (journal : List Item) → Sound r t steps journal → (early late : List Step) (front back : List Item) →
      steps ≡ early ++ late → journal ≡ front ++ back → StepsOf front early → IsStoredFront (run r t early) front
  unfolding run_from start stored_of steps_of
  stored_front steps journal sound early late front back joins whole are =
      front_all steps journal sound.rightly [] early late [] front back joins whole refl are (record { rest = []; joins = refl })

  -- of what isn't stored yet the next is, which leaves all else
  pub works_stored_front : (due : List ℕ) (h : Held T W) (on_hold : List ℕ) (journal : List Item) (now later : List ℕ) → h.unstored ≡ now ++ later → Works r t due h on_hold journal →
      Works r t due (record h { unstored = later }) on_hold (journal ++ item.Stored now ∷ [])
  unfolding opens heard_events stored_at Rightly RightlyNow
  works_stored_front due h on_hold journal now later is works =
      let u = works.now in
      let i = item.Stored now in
      let after = journal ++ i ∷ [] in
      let still : (d : ℕ) → Still d journal after = λ d. still-stored d journal now in
      let changes : u.changes ≡ (stored_of journal ++ now) ++ later =
      works.tracks.unstored ∙ ap (λ xs. stored_of journal ++ xs) is ∙ sym (append_assoc (stored_of journal) now later) in
      record {
        steps = works.steps;
        now = u;
        tracks = tracks_stay r t works.steps u h (record h { unstored = later }) on_hold on_hold journal i works.tracks (record {
          none = refl;
          keeps = record {
            tree = works.tracks.keeps.tree;
            numbers = works.tracks.keeps.numbers;
            each = (Keeps-as u _ _ h (λ d. ap length (sym (still d).taken)) works.tracks.keeps).each;
            within = (Keeps-as u _ _ h (λ d. ap length (sym (still d).taken)) works.tracks.keeps).within;
            unopened = works.tracks.keeps.unopened;
          };
          unstored = changes ∙ ap (λ xs. xs ++ later) (sym (stored_of-push journal i));
          holds = λ d. (still d).on_hold ∙ works.tracks.holds d;
          opens_none = λ d. refl;
          no_cut = refl;
          fronts = λ d. front_as journal after d (u.of d) (still d).taken (front_now r t works.steps u h on_hold journal works.tracks d);
          right = λ steps same. subst (λ (x : Sessions T W). MayBeStored x journal now) (sym same) (record { rest = later; next = changes });
        });
        hung = λ d. (still d).hung ∙ works.hung d;
        unturned = works.unturned;
        placed = works.placed;
        stands = λ d apart. stands_more (u.of d).state journal after d (u.of d) (still d) (was_later-more d journal i refl) (works.stands d apart);
        replay = λ all. (let before = works.replay (all_taken-front journal i all) in record { same = before.same; taken = λ d unheld. (still d).taken ∙ before.taken d unheld });
      }

  -- all that isn't stored yet is
  pub works_stored : (due : List ℕ) (h : Held T W) (on_hold : List ℕ) (journal : List Item) → Works r t due h on_hold journal →
      Works r t due (record h { unstored = [] }) on_hold (journal ++ item.Stored h.unstored ∷ [])
  works_stored due h on_hold journal works = works_stored_front due h on_hold journal h.unstored [] (sym (append-nil h.unstored)) works
