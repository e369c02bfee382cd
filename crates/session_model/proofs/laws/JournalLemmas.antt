-- Journals with one more item.
use Rattle.std.proofs.Common.{◌≡◌, ◌≢◌, ℕ, Bool, true, false, ◌&&◌, ◌||◌, List, [], ◌∷◌, ◌++◌, refl, ap, ap₂, sym, ◌∙◌, append_assoc, append-nil, arith, true≢false}
use Rattle.std.proofs.lemmas.Bool.Decides.{nat_tests}
use Rattle.std.proofs.lemmas.Bool.{and_parts}
use Rattle.wire_io.specs.declared.journal.Event.{Event}
use Rattle.wire_io.specs.declared.journal.Item.{Item}
use Rattle.wire_io.specs.declared.journal.Item.TheVariants as item
use Rattle.wire_io.specs.Journal.{heard, taken_of, taken_at, stored_of, stored_at, is_hung_up, hangs_up, is_held, hold_after, was_opened, opens}
use Rattle.wire_io.proofs.Theorems.{heard-append, taken_of-push, stored_of-push, is_held-push}
use Rattle.session_model.specs.Journaled.{steps_of, step_of_item, all_taken, is_no_refusal, WasLater}

pub steps_of-append : (j k : List Item) → steps_of (j ++ k) ≡ steps_of j ++ steps_of k
unfolding steps_of
steps_of-append [] k = refl
steps_of-append (i ∷ j) k = ap (λ xs. step_of_item i ++ xs) (steps_of-append j k) ∙ sym (append_assoc (step_of_item i) (steps_of j) (steps_of k))

pub steps_of-one : (j : List Item) (i : Item) → steps_of (j ++ i ∷ []) ≡ steps_of j ++ step_of_item i
unfolding steps_of
steps_of-one j i = steps_of-append j (i ∷ []) ∙ ap (λ xs. steps_of j ++ xs) (append-nil (step_of_item i))

taken_of-append : (c : ℕ) (j k : List Item) → taken_of c (j ++ k) ≡ taken_of c j ++ taken_of c k
unfolding taken_of
taken_of-append c [] k = refl
taken_of-append c (i ∷ j) k = ap (λ xs. taken_at c i ++ xs) (taken_of-append c j k) ∙ sym (append_assoc (taken_at c i) (taken_of c j) (taken_of c k))

pub is_hung_up-one : (c : ℕ) (j : List Item) (i : Item) → is_hung_up c (j ++ i ∷ []) ≡ (is_hung_up c j || hangs_up c i)
unfolding is_hung_up
is_hung_up-one c [] i = grind arith
is_hung_up-one c (x ∷ j) i = grind (arith, is_hung_up-one c j i)

pub was_opened-append : (c : ℕ) (j k : List Item) → was_opened c (j ++ k) ≡ (was_opened c j || was_opened c k)
unfolding was_opened
was_opened-append c [] k = refl
was_opened-append c (x ∷ j) k = grind (arith, was_opened-append c j k)

pub was_opened-one : (c : ℕ) (j : List Item) (i : Item) → was_opened c (j ++ i ∷ []) ≡ (was_opened c j || opens c i)
unfolding was_opened
was_opened-one c j i = was_opened-append c j (i ∷ []) ∙ grind arith

pub all_taken-both : (j k : List Item) → all_taken (j ++ k) ≡ (all_taken j && all_taken k)
unfolding all_taken
all_taken-both [] k = refl
all_taken-both (i ∷ j) k = grind (arith, all_taken-both j k)

pub all_taken-one : (j : List Item) (i : Item) → all_taken (j ++ i ∷ []) ≡ (all_taken j && is_no_refusal i)
unfolding all_taken
all_taken-one j i = all_taken-both j (i ∷ []) ∙ grind arith

pub all_taken-front : (j : List Item) (i : Item) → all_taken (j ++ i ∷ []) ≡ true → all_taken j ≡ true
all_taken-front j i h = (and_parts (all_taken j) (is_no_refusal i) (sym (all_taken-one j i) ∙ h)).0

-- where each write took octets, none was answered Later
pub never_later : (c : ℕ) (j : List Item) → all_taken j ≡ true → WasLater c j → ⊥
unfolding all_taken
never_later c j all later =
    let is = ap all_taken later.is ∙ all_taken-both later.before (item.Later c ∷ later.since) in
    absurd (true≢false (sym all ∙ is ∙ none (all_taken later.before)))
  where
    none : (b : Bool) → (b && false) ≡ false
    none true = refl
    none false = refl

-- what was refused in this block was, whatever follows in it; and what is refused now
pub was_later-more : (c : ℕ) (j : List Item) (i : Item) → heard (i ∷ []) ≡ [] → WasLater c j → WasLater c (j ++ i ∷ [])
was_later-more c j i none later =
    record {
      before = later.before;
      since = later.since ++ i ∷ [];
      is = ap (λ xs. xs ++ i ∷ []) later.is ∙ append_assoc later.before (item.Later c ∷ later.since) (i ∷ []);
      same_block = heard-append later.since (i ∷ []) ∙ ap₂ (λ xs ys. xs ++ ys) later.same_block none;
    }

pub was_later-now : (c : ℕ) (j : List Item) → WasLater c (j ++ item.Later c ∷ [])
unfolding heard
was_later-now c j = record { before = j; since = []; is = refl; same_block = refl }

-- for a connection two journals say the same, but for what was refused
pub record Still (d : ℕ) (before after : List Item) : Type 0 where
  pub taken : taken_of d after ≡ taken_of d before
  pub hung : is_hung_up d after ≡ is_hung_up d before
  pub on_hold : is_held d after ≡ is_held d before

-- an item is no event, stores nothing, and says nothing of any connection but one
pub record IsAbout (c : ℕ) (i : Item) : Type 0 where
  pub taken : (d : ℕ) → d ≢ c → taken_at d i ≡ []
  pub hangs : (d : ℕ) → d ≢ c → hangs_up d i ≡ false
  pub holds : (d : ℕ) (b : Bool) → d ≢ c → hold_after d b i ≡ b
  pub opens_none : (d : ℕ) → opens d i ≡ false
  pub stores : stored_at i ≡ []
  pub events : heard (i ∷ []) ≡ []

pub taken_of-still : (d : ℕ) (j : List Item) (i : Item) → taken_at d i ≡ [] → taken_of d (j ++ i ∷ []) ≡ taken_of d j
taken_of-still d j i none = taken_of-push d j i ∙ ap (λ xs. taken_of d j ++ xs) none ∙ append-nil (taken_of d j)

-- an item that stores nothing leaves what isn't stored
pub unstored-still : (changes unstored : List ℕ) (j : List Item) (i : Item) → stored_at i ≡ [] → changes ≡ stored_of j ++ unstored → changes ≡ stored_of (j ++ i ∷ []) ++ unstored
unstored-still changes unstored j i none is = is ∙ ap (λ xs. xs ++ unstored) (sym (stored_of-push j i ∙ ap (λ xs. stored_of j ++ xs) none ∙ append-nil (stored_of j)))

pub is_hung_up-still : (d : ℕ) (j : List Item) (i : Item) → hangs_up d i ≡ false → is_hung_up d (j ++ i ∷ []) ≡ is_hung_up d j
is_hung_up-still d j i none = is_hung_up-one d j i ∙ rw none (grind arith)

pub still-about : (c d : ℕ) (j : List Item) (i : Item) → IsAbout c i → d ≢ c → Still d j (j ++ i ∷ [])
still-about c d j i about differs =
    record {
      taken = taken_of-still d j i (about.taken d differs);
      hung = is_hung_up-still d j i (about.hangs d differs);
      on_hold = is_held-push d j i ∙ about.holds d (is_held d j) differs;
    }

pub still-heard : (d : ℕ) (j : List Item) (e : Event) → Still d j (j ++ item.Heard e ∷ [])
unfolding taken_at hangs_up hold_after
still-heard d j e =
    record { taken = taken_of-still d j (item.Heard e) refl; hung = is_hung_up-still d j (item.Heard e) refl; on_hold = is_held-push d j (item.Heard e) }

pub still-later : (c d : ℕ) (j : List Item) → Still d j (j ++ item.Later c ∷ [])
unfolding taken_at hangs_up hold_after
still-later c d j =
    record { taken = taken_of-still d j (item.Later c) refl; hung = is_hung_up-still d j (item.Later c) refl; on_hold = is_held-push d j (item.Later c) }

pub still-gone : (c d : ℕ) (j : List Item) → Still d j (j ++ item.Gone c ∷ [])
unfolding taken_at hangs_up hold_after
still-gone c d j =
    record { taken = taken_of-still d j (item.Gone c) refl; hung = is_hung_up-still d j (item.Gone c) refl; on_hold = is_held-push d j (item.Gone c) }

pub about-taken : (c : ℕ) (x : List ℕ) → IsAbout c (item.Taken c x)
unfolding taken_at stored_at hangs_up hold_after opens heard
about-taken c x =
    record { taken = λ d differs. grind (arith, nat_tests); hangs = λ d differs. refl; holds = λ d b differs. refl; opens_none = λ d. refl; stores = refl; events = refl }

pub about-later : (c : ℕ) → IsAbout c (item.Later c)
unfolding taken_at stored_at hangs_up hold_after opens heard
about-later c = record { taken = λ d differs. refl; hangs = λ d differs. refl; holds = λ d b differs. refl; opens_none = λ d. refl; stores = refl; events = refl }

pub about-gone : (c : ℕ) → IsAbout c (item.Gone c)
unfolding taken_at stored_at hangs_up hold_after opens heard
about-gone c = record { taken = λ d differs. refl; hangs = λ d differs. refl; holds = λ d b differs. refl; opens_none = λ d. refl; stores = refl; events = refl }

pub about-held : (c : ℕ) → IsAbout c (item.Held c)
unfolding taken_at stored_at hangs_up hold_after opens heard
about-held c =
    record { taken = λ d differs. refl; hangs = λ d differs. refl; holds = λ d b differs. grind (arith, nat_tests); opens_none = λ d. refl; stores = refl; events = refl }

pub about-released : (c : ℕ) → IsAbout c (item.Released c)
unfolding taken_at stored_at hangs_up hold_after opens heard
about-released c =
    record { taken = λ d differs. refl; hangs = λ d differs. refl; holds = λ d b differs. grind (arith, nat_tests); opens_none = λ d. refl; stores = refl; events = refl }

pub about-hung_up : (c : ℕ) → IsAbout c (item.HungUp c)
unfolding taken_at stored_at hangs_up hold_after opens heard
about-hung_up c =
    record {
      taken = λ d differs. refl;
      hangs = λ d differs. grind (arith, nat_tests);
      holds = λ d b differs. grind (arith, nat_tests);
      opens_none = λ d. refl;
      stores = refl;
      events = refl;
    }

pub still-stored : (d : ℕ) (j : List Item) (x : List ℕ) → Still d j (j ++ item.Stored x ∷ [])
unfolding taken_at hangs_up hold_after
still-stored d j x =
    record { taken = taken_of-still d j (item.Stored x) refl; hung = is_hung_up-still d j (item.Stored x) refl; on_hold = is_held-push d j (item.Stored x) }

-- what an item says of its own connection
pub taken_of-taken : (c : ℕ) (j : List Item) (x : List ℕ) → taken_of c (j ++ item.Taken c x ∷ []) ≡ taken_of c j ++ x
unfolding taken_at
taken_of-taken c j x = taken_of-push c j (item.Taken c x) ∙ grind (arith, nat_tests)

pub is_hung_up-taken : (c d : ℕ) (j : List Item) (x : List ℕ) → is_hung_up d (j ++ item.Taken c x ∷ []) ≡ is_hung_up d j
unfolding hangs_up
is_hung_up-taken c d j x = is_hung_up-still d j (item.Taken c x) refl

pub is_held-taken : (c d : ℕ) (j : List Item) (x : List ℕ) → is_held d (j ++ item.Taken c x ∷ []) ≡ is_held d j
unfolding hold_after
is_held-taken c d j x = is_held-push d j (item.Taken c x)

pub taken_of-held : (c d : ℕ) (j : List Item) → taken_of d (j ++ item.Held c ∷ []) ≡ taken_of d j
unfolding taken_at
taken_of-held c d j = taken_of-still d j (item.Held c) refl

pub is_hung_up-held : (c d : ℕ) (j : List Item) → is_hung_up d (j ++ item.Held c ∷ []) ≡ is_hung_up d j
unfolding hangs_up
is_hung_up-held c d j = is_hung_up-still d j (item.Held c) refl

pub is_held-held : (c : ℕ) (j : List Item) → is_held c (j ++ item.Held c ∷ []) ≡ true
unfolding hold_after
is_held-held c j = is_held-push c j (item.Held c) ∙ grind (arith, nat_tests)

pub taken_of-released : (c d : ℕ) (j : List Item) → taken_of d (j ++ item.Released c ∷ []) ≡ taken_of d j
unfolding taken_at
taken_of-released c d j = taken_of-still d j (item.Released c) refl

pub is_hung_up-released : (c d : ℕ) (j : List Item) → is_hung_up d (j ++ item.Released c ∷ []) ≡ is_hung_up d j
unfolding hangs_up
is_hung_up-released c d j = is_hung_up-still d j (item.Released c) refl

pub is_held-released : (c : ℕ) (j : List Item) → is_held c (j ++ item.Released c ∷ []) ≡ false
unfolding hold_after
is_held-released c j = is_held-push c j (item.Released c) ∙ grind (arith, nat_tests)

pub taken_of-hung_up : (c d : ℕ) (j : List Item) → taken_of d (j ++ item.HungUp c ∷ []) ≡ taken_of d j
unfolding taken_at
taken_of-hung_up c d j = taken_of-still d j (item.HungUp c) refl

pub is_hung_up-hung_up : (c : ℕ) (j : List Item) → is_hung_up c (j ++ item.HungUp c ∷ []) ≡ true
unfolding hangs_up
is_hung_up-hung_up c j = is_hung_up-one c j (item.HungUp c) ∙ grind (arith, nat_tests)

pub is_held-hung_up : (c : ℕ) (j : List Item) → is_held c (j ++ item.HungUp c ∷ []) ≡ false
unfolding hold_after
is_held-hung_up c j = is_held-push c j (item.HungUp c) ∙ grind (arith, nat_tests)
