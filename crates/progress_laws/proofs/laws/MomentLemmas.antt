-- The moments of a journal: each front of it has steps of its own, what holds at its beginning and is kept by each right item
-- holds at each moment, and what was done before an event serves.
use Rattle.std.proofs.Common.{◌≡◌, ◌+◌, ℕ, List, [], ◌∷◌, ◌++◌, map, refl, ap, ap₂, sym, ◌∙◌, subst, subst₂, append_assoc, append-nil, arith, add_assoc, zero-add}
use Rattle.std.proofs.lemmas.List.{map-append}
use Rattle.session_model.specs.wire_io.declared.journal.Event.{Event}
use Rattle.session_model.specs.wire_io.declared.journal.Item.{Item}
use Rattle.session_model.specs.wire_io.declared.journal.Item.TheVariants as item
use Rattle.session_model.specs.Rules.{Rules}
use Rattle.session_model.specs.Run.{Sessions, Step, step, run, run_from, start}
use Rattle.session_model.specs.Journaled.{StepsOf, steps_of, step_of_item, uncut, cuts_of, cuts_at, CutOnce, AtEachMoment, AtEachItem}
use Rattle.session_model.specs.Serving.{Sound, Served, Rightly, AreFronts}

-- a list that a map made of two parts is itself of two
map_parts : {A B : Type 0} (f : A → B) (xs : List A) (ys zs : List B) → map f xs ≡ ys ++ zs →
    (front : List A) × (back : List A) × (xs ≡ front ++ back) × (map f front ≡ ys) × (map f back ≡ zs)
map_parts f xs [] zs is = ([], xs, refl, refl, is)
map_parts f [] (y ∷ ys) zs is = absurd (cc)
map_parts f (x ∷ xs) (y ∷ ys) zs is =
    let first : f x ≡ y = cc in
    let rest : map f xs ≡ ys ++ zs = cc in
    let parts = map_parts f xs ys zs rest in
    (x ∷ parts.0, parts.1, ap (λ vs. x ∷ vs) parts.2, ap₂ (λ v vs. v ∷ vs) first parts.3, parts.4)

pub no_steps : (xs : List Step) → map uncut xs ≡ [] → xs ≡ []
no_steps [] is = refl
no_steps (x ∷ xs) is = absurd (cc)

steps_of-append : (j k : List Item) → steps_of (j ++ k) ≡ steps_of j ++ steps_of k
unfolding steps_of
steps_of-append [] k = refl
steps_of-append (i ∷ j) k = ap (λ xs. step_of_item i ++ xs) (steps_of-append j k) ∙ sym (append_assoc (step_of_item i) (steps_of j) (steps_of k))

-- the steps of an item more
steps_pushed : (early more : List Step) (front : List Item) (i : Item) → StepsOf front early → map uncut more ≡ step_of_item i → StepsOf (front ++ i ∷ []) (early ++ more)
unfolding steps_of
steps_pushed early more front i are more_are =
    map-append uncut early more ∙ ap₂ (λ xs ys. xs ++ ys) are (more_are ∙ sym (append-nil (step_of_item i))) ∙ sym (steps_of-append front (i ∷ []))

cuts_of-append : (number : ℕ) (early late : List Step) → cuts_of number (early ++ late) ≡ cuts_of number early + cuts_of number late
unfolding cuts_of
cuts_of-append number [] late = sym (zero-add (cuts_of number late))
cuts_of-append number (s ∷ early) late =
    ap (λ n. cuts_at number s + n) (cuts_of-append number early late) ∙ sym (add_assoc (cuts_at number s) (cuts_of number early) (cuts_of number late))

once_early : (steps early late : List Step) → steps ≡ early ++ late → CutOnce steps → CutOnce early
unfolding CutOnce
once_early steps early late joins once number =
    let whole : cuts_of number steps ≡ cuts_of number early + cuts_of number late = ap (cuts_of number) joins ∙ cuts_of-append number early late in
    let most = once number in
    omega arith

module _ {T W : Type 0} (r : Rules T W) where
  pub run_from-append : (u : Sessions T W) (early late : List Step) → run_from r u (early ++ late) ≡ run_from r (run_from r u early) late
  unfolding run_from
  run_from-append u [] late = refl
  run_from-append u (s ∷ early) late = run_from-append (step r u s) early late

module _ {T W : Type 0} (r : Rules T W) (t : T) where
  -- each front of a journal has steps of its own
  pub front_steps : (steps : List Step) (journal front back : List Item) → Sound r t steps journal → journal ≡ front ++ back →
      (early : List Step) × (late : List Step) × (steps ≡ early ++ late) × StepsOf front early
  front_steps steps journal front back sound whole =
      let parts = map_parts uncut steps (steps_of front) (steps_of back) (sound.are ∙ ap steps_of whole ∙ steps_of-append front back) in
      (parts.0, parts.1, parts.2, parts.3)

  -- what a right item keeps of the sessions and of the journal so far
  abbrev pub KeptBy : (Sessions T W → List Item → Type 0) → Type 0
  KeptBy claim =
      (early more : List Step) (front : List Item) (i : Item) → map uncut more ≡ step_of_item i → AreFronts r t early front → Rightly r t early front i →
      claim (run r t early) front → claim (run_from r (run r t early) more) (front ++ i ∷ [])

  walk : (claim : Sessions T W → List Item → Type 0) → KeptBy claim → (steps : List Step) (journal : List Item) → Sound r t steps journal →
      (early more late : List Step) (front now back : List Item) → steps ≡ (early ++ more) ++ late → journal ≡ (front ++ now) ++ back →
      StepsOf front early → map uncut more ≡ steps_of now → claim (run r t early) front → claim (run r t (early ++ more)) (front ++ now)
  unfolding steps_of AtEachItem AtEachMoment
  walk claim kept steps journal sound early more late front [] back joins whole are more_are before =
      subst₂ (λ xs ys. claim (run r t xs) ys) (sym (ap (λ xs. early ++ xs) (no_steps more more_are) ∙ append-nil early)) (sym (append-nil front)) before
  walk claim kept steps journal sound early more late front (i ∷ now) back joins whole are more_are before =
      let parts = map_parts uncut more (step_of_item i) (steps_of now) more_are in
      let one = parts.0 in
      let others = parts.1 in
      let split : early ++ more ≡ (early ++ one) ++ others = ap (λ xs. early ++ xs) parts.2 ∙ sym (append_assoc early one others) in
      let pushed : front ++ i ∷ now ≡ (front ++ i ∷ []) ++ now = sym (append_assoc front (i ∷ []) now) in
      let steps_left : steps ≡ early ++ (more ++ late) = joins ∙ append_assoc early more late in
      let items_left : journal ≡ front ++ (i ∷ (now ++ back)) = whole ∙ append_assoc front (i ∷ now) back in
      let right : Rightly r t early front i = sound.rightly early (more ++ late) front (now ++ back) i steps_left items_left are in
      let fronts : AreFronts r t early front = sound.fronts early (more ++ late) front (i ∷ (now ++ back)) steps_left items_left are in
      let after : claim (run r t (early ++ one)) (front ++ i ∷ []) =
      subst (λ x. claim x (front ++ i ∷ [])) (sym (run_from-append r (start r t) early one)) (kept early one front i parts.3 fronts right before) in
      subst₂ (λ xs ys. claim (run r t xs) ys) (sym split) (sym pushed)
      (walk claim kept steps journal sound (early ++ one) others late (front ++ i ∷ []) now back
      (joins ∙ ap (λ xs. xs ++ late) split) (whole ∙ ap (λ xs. xs ++ back) pushed)
      (steps_pushed early one front i are parts.3) parts.4 after)

  -- what holds at the beginning and is kept by each right item holds at the end
  pub at_the_end : (claim : Sessions T W → List Item → Type 0) → KeptBy claim → (steps : List Step) (journal : List Item) → Sound r t steps journal →
      claim (start r t) [] → claim (run r t steps) journal
  unfolding run_from steps_of
  at_the_end claim kept steps journal sound before =
      walk claim kept steps journal sound [] steps [] [] journal [] (sym (append-nil steps)) (sym (append-nil journal)) refl sound.are before

  -- what was done before an event serves
  pub served_before : (steps early late : List Step) (journal front back : List Item) (event : Event) → Sound r t steps journal → steps ≡ early ++ late →
      journal ≡ front ++ item.Heard event ∷ back → StepsOf front early → Served r t early front
  unfolding AtEachMoment AtEachItem Rightly
  served_before steps early late journal front back event sound joins whole are =
      let more : (first rest : List Step) → early ≡ first ++ rest → steps ≡ first ++ (rest ++ late) =
      λ first rest split. joins ∙ ap (λ xs. xs ++ late) split ∙ append_assoc first rest late in
      let before : (first rest : List Item) → front ≡ first ++ rest → journal ≡ first ++ (rest ++ item.Heard event ∷ back) =
      λ first rest split. whole ∙ ap (λ xs. xs ++ item.Heard event ∷ back) split ∙ append_assoc first rest (item.Heard event ∷ back) in
      record {
        sound = record {
          are = are;
          once = once_early steps early late joins sound.once;
          fronts = λ first rest items others a b. sound.fronts first (rest ++ late) items (others ++ item.Heard event ∷ back) (more first rest a) (before items others b);
          rightly = λ first rest items others current a b.
              sound.rightly first (rest ++ late) items (others ++ item.Heard event ∷ back) current (more first rest a) (before items (current ∷ others) b);
        };
        settled = sound.rightly early late front back (item.Heard event) joins whole are;
      }
