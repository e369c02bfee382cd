-- How a connection stands, after an item that says nothing of it, and by where it is.
use Rattle.std.proofs.Common.{◌≡◌, ◌≢◌, ◌≤◌, ◌+◌, ℕ, true, false, cond, List, [], ◌∷◌, ◌++◌, length, drop, take, refl, ap, sym, ◌∙◌, subst, arith, inl, inr, true≢false, append-nil, append_assoc, drop-drop, length-append, take-append-drop}
use Rattle.std.proofs.lemmas.List.{length-take-le}
use Rattle.std.proofs.lemmas.Bool.Decides.{eqb_tells}
use Rattle.std.proofs.Math.Seq.{drop-append_seam}
use Rattle.wire_io.specs.declared.journal.Item.{Item}
use Rattle.wire_io.specs.Journal.{taken_of, is_hung_up, is_held}
use Rattle.session_model.specs.Run.{Session, Sessions, State, Open, Closing, TurnedAway, Away, Unopened}
use Rattle.session_model.specs.Run as session
use Rattle.session_model.specs.Kept.{Held}
use Rattle.session_model.specs.Keeping.{Keeps, shown}
use Rattle.session_model.specs.Journaled.{WasLater, all_taken}
use Rattle.session_model.specs.Serving.{IsFront, unsent, Waits, Stands, MayHangUp}
use Rattle.session_model.specs.Replaying.{is_away, is_leaving}
use Rattle.session_model.specs.Working.{is_turned}
use Rattle.session_model.proofs.laws.KeptLemmas.{queue_in, closing_in}
use Rattle.session_model.proofs.laws.JournalLemmas.{Still, never_later}

-- what holds of one number and of each other holds of all
pub at_numbers : (c : ℕ) (P : ℕ → Type 0) → P c → ((d : ℕ) → d ≢ c → P d) → (d : ℕ) → P d
at_numbers c P here others d = elim (eqb_tells d c) [ inl e ↦ subst P (sym e.1) here | inr e ↦ others d e.1 ]

-- so much taken, counted in another way
pub Keeps-as : {T W : Type 0} (u : Sessions T W) (f g : ℕ → ℕ) (h : Held T W) → ((c : ℕ) → f c ≡ g c) → Keeps u f h → Keeps u g h
Keeps-as u f g h same keeps =
    record {
      tree = keeps.tree;
      numbers = keeps.numbers;
      each = λ c. rw (← same c) (keeps.each c);
      within = λ c. rw (← same c) (keeps.within c);
      unopened = keeps.unopened;
    }

-- what is unsent, by what was taken
pub unsent_as : {W : Type 0} (before after : List Item) (c : ℕ) (s : Session W) → taken_of c after ≡ taken_of c before → unsent after c s ≡ unsent before c s
unsent_as before after c s e = ap (λ xs. drop (length xs) s.reply) e

pub front_as : {W : Type 0} (before after : List Item) (c : ℕ) (s : Session W) → taken_of c after ≡ taken_of c before → IsFront before c s → IsFront after c s
front_as before after c s e front = subst (λ xs. s.reply ≡ xs ++ drop (length xs) s.reply) (sym e) front

-- where nothing is unsent, all was taken
pub all_sent : {W : Type 0} (journal : List Item) (c : ℕ) (s : Session W) → IsFront journal c s → unsent journal c s ≡ [] → taken_of c journal ≡ s.reply
all_sent journal c s front none = sym (front ∙ ap (λ xs. taken_of c journal ++ xs) none ∙ append-nil (taken_of c journal))

-- more of a reply leaves what was taken a front of it
pub front_more : {W : Type 0} (before after : List Item) (c : ℕ) (s s' : Session W) (more : List ℕ) → taken_of c after ≡ taken_of c before →
    IsFront before c s → s'.reply ≡ s.reply ++ more → IsFront after c s'
front_more before after c s s' more same front reply =
    let taken = taken_of c before in
    let rest = unsent before c s in
    let whole : s'.reply ≡ taken ++ (rest ++ more) = reply ∙ ap (λ xs. xs ++ more) front ∙ append_assoc taken rest more in
    rw same (whole ∙ ap (λ xs. taken ++ xs) (sym (drop-append_seam taken (rest ++ more)) ∙ ap (drop (length taken)) (sym whole)))

-- a connection of which an item says nothing waits and stands as before; one that isn't on hold does whatever comes
waits_more : (before after : List Item) (d : ℕ) (xs : List ℕ) → Still d before after → (WasLater d before → WasLater d after) → Waits before d xs → Waits after d xs
waits_more before after d [] still later waits = still.on_hold ∙ waits
waits_more before after d (x ∷ xs) still later waits = (later waits.0, still.on_hold ∙ waits.1)

pub stands_more : {W : Type 0} (st : State) (before after : List Item) (d : ℕ) (s : Session W) → Still d before after → (WasLater d before → WasLater d after) →
    Stands st before d s → Stands st after d s
stands_more Open before after d s still later stands =
    subst (λ xs. Waits after d xs) (sym (unsent_as before after d s still.taken)) (waits_more before after d (unsent before d s) still later stands)
stands_more Closing before after d s still later stands =
    subst (λ xs. (xs ≢ []) × Waits after d xs) (sym (unsent_as before after d s still.taken)) (stands.0, waits_more before after d (unsent before d s) still later stands.1)
stands_more Unopened before after d s still later stands = still.on_hold ∙ stands
stands_more TurnedAway before after d s still later stands = stands
stands_more Away before after d s still later stands = (still.hung ∙ stands.0, still.on_hold ∙ stands.1)

waits_free : (before after : List Item) (d : ℕ) (xs : List ℕ) → Still d before after → is_held d before ≡ false → Waits before d xs → Waits after d xs
waits_free before after d [] still free waits = still.on_hold ∙ waits
waits_free before after d (x ∷ xs) still free waits = absurd (true≢false (sym waits.1 ∙ free))

pub stands_free : {W : Type 0} (st : State) (before after : List Item) (d : ℕ) (s : Session W) → Still d before after → is_held d before ≡ false →
    Stands st before d s → Stands st after d s
stands_free Open before after d s still free stands =
    subst (λ xs. Waits after d xs) (sym (unsent_as before after d s still.taken)) (waits_free before after d (unsent before d s) still free stands)
stands_free Closing before after d s still free stands =
    subst (λ xs. (xs ≢ []) × Waits after d xs) (sym (unsent_as before after d s still.taken)) (stands.0, waits_free before after d (unsent before d s) still free stands.1)
stands_free Unopened before after d s still free stands = still.on_hold ∙ stands
stands_free TurnedAway before after d s still free stands = stands
stands_free Away before after d s still free stands = (still.hung ∙ stands.0, still.on_hold ∙ stands.1)

-- one that is on hold with octets unsent stands
pub stands_held : {W : Type 0} (st : State) (journal : List Item) (d : ℕ) (s : Session W) → session.is_held st ≡ true → unsent journal d s ≢ [] → WasLater d journal → is_held d journal ≡ true →
    Stands st journal d s
stands_held Open journal d s there some later held = waits_held (unsent journal d s) some
  where
    waits_held : (xs : List ℕ) → xs ≢ [] → Waits journal d xs
    waits_held [] some = absurd (some refl)
    waits_held (x ∷ xs) some = (later, held)
stands_held Closing journal d s there some later held = (some, waits_held (unsent journal d s) some)
  where
    waits_held : (xs : List ℕ) → xs ≢ [] → Waits journal d xs
    waits_held [] some = absurd (some refl)
    waits_held (x ∷ xs) some = (later, held)
stands_held Unopened journal d s there some later held = cc
stands_held TurnedAway journal d s there some later held = cc
stands_held Away journal d s there some later held = cc

-- one that isn't on hold, to which nothing is left to be sent and that isn't closing, stands
pub stands_done : {W : Type 0} (st : State) (journal : List Item) (d : ℕ) (s : Session W) → s.state ≡ st → is_leaving st ≡ false → (session.is_held st ≡ true → unsent journal d s ≡ []) →
    is_held d journal ≡ false → is_hung_up d journal ≡ is_away s.state → Stands st journal d s
stands_done Open journal d s e still none free hung = subst (λ xs. Waits journal d xs) (sym (none refl)) free
stands_done Closing journal d s e still none free hung = cc
stands_done Unopened journal d s e still none free hung = free
stands_done TurnedAway journal d s e still none free hung = cc
stands_done Away journal d s e still none free hung = (hung ∙ ap is_away e, free)

-- where each write took octets, one that stands has nothing unsent and isn't to be hung up, and isn't on hold
waits_none : (journal : List Item) (d : ℕ) (xs : List ℕ) → all_taken journal ≡ true → Waits journal d xs → (xs ≡ []) × (is_held d journal ≡ false)
waits_none journal d [] all waits = (refl, waits)
waits_none journal d (x ∷ xs) all waits = absurd (never_later d journal all waits.0)

pub stands_unleaving : {W : Type 0} (st : State) (journal : List Item) (d : ℕ) (s : Session W) → all_taken journal ≡ true → Stands st journal d s → is_leaving st ≡ false
stands_unleaving Open journal d s all stands = refl
stands_unleaving Closing journal d s all stands = absurd (stands.0 (waits_none journal d (unsent journal d s) all stands.1).0)
stands_unleaving Unopened journal d s all stands = refl
stands_unleaving TurnedAway journal d s all stands = absurd stands
stands_unleaving Away journal d s all stands = refl

pub stands_sent : {W : Type 0} (st : State) (journal : List Item) (d : ℕ) (s : Session W) → all_taken journal ≡ true → Stands st journal d s → session.is_held st ≡ true → unsent journal d s ≡ []
stands_sent Open journal d s all stands there = (waits_none journal d (unsent journal d s) all stands).0
stands_sent Closing journal d s all stands there = (waits_none journal d (unsent journal d s) all stands.1).0
stands_sent Unopened journal d s all stands there = cc
stands_sent TurnedAway journal d s all stands there = cc
stands_sent Away journal d s all stands there = cc

pub stands_unheld : {W : Type 0} (st : State) (journal : List Item) (d : ℕ) (s : Session W) → all_taken journal ≡ true → Stands st journal d s → is_held d journal ≡ false
stands_unheld Open journal d s all stands = (waits_none journal d (unsent journal d s) all stands).1
stands_unheld Closing journal d s all stands = (waits_none journal d (unsent journal d s) all stands.1).1
stands_unheld Unopened journal d s all stands = stands
stands_unheld TurnedAway journal d s all stands = absurd stands
stands_unheld Away journal d s all stands = stands.1

-- the queue of what is shown is the reply beyond what was taken, where the session is held, and else empty
pub shown_queue : {W : Type 0} (st : State) (c taken : ℕ) (s : Session W) → queue_in (shown st c taken s) ≡ cond (session.is_held st) (drop taken s.reply) []
shown_queue Open c taken s = refl
shown_queue Closing c taken s = refl
shown_queue Unopened c taken s = refl
shown_queue TurnedAway c taken s = refl
shown_queue Away c taken s = refl

-- what is shown is closing where the session is to be hung up, but for one turned away
pub shown_closing : {W : Type 0} (st : State) (c taken : ℕ) (s : Session W) → is_turned st ≡ false → is_leaving st ≡ closing_in (shown st c taken s)
shown_closing Open c taken s e = refl
shown_closing Closing c taken s e = refl
shown_closing Unopened c taken s e = refl
shown_closing TurnedAway c taken s e = cc
shown_closing Away c taken s e = refl

-- a connection to be hung up may be, where nothing is unsent
pub may_hang_up : {W : Type 0} (st : State) (journal : List Item) (c : ℕ) (s : Session W) → is_leaving st ≡ true → unsent journal c s ≡ [] → MayHangUp st journal c s
may_hang_up Open journal c s leaving none = cc
may_hang_up Closing journal c s leaving none = none
may_hang_up Unopened journal c s leaving none = cc
may_hang_up TurnedAway journal c s leaving none = tt
may_hang_up Away journal c s leaving none = cc

-- one that leaves is held, but for one turned away
pub leaving_held : (st : State) → is_turned st ≡ false → is_leaving st ≡ true → session.is_held st ≡ true
leaving_held Open turned leaving = refl
leaving_held Closing turned leaving = refl
leaving_held Unopened turned leaving = cc
leaving_held TurnedAway turned leaving = cc
leaving_held Away turned leaving = cc

pub not_unopened : (st : State) → session.is_held st ≡ true → st ≡ Unopened → ⊥
not_unopened st there is = true≢false (sym there ∙ ap session.is_held is)

pub held_not_away : (st : State) → session.is_held st ≡ true → is_away st ≡ false
held_not_away Open h = refl
held_not_away Closing h = refl
held_not_away Unopened h = refl
held_not_away TurnedAway h = refl
held_not_away Away h = cc

-- the front of a queue, taken
pub taken_front : (reply taken q : List ℕ) (n : ℕ) → reply ≡ taken ++ drop (length taken) reply → q ≡ drop (length taken) reply → n ≤ length q →
    reply ≡ (taken ++ take n q) ++ drop (length (taken ++ take n q)) reply
taken_front reply taken q n front is fits =
    let long : length (take n q) ≡ n = length-take-le n q fits in
    let sum : length (taken ++ take n q) ≡ length taken + n = length-append taken (take n q) ∙ ap (λ m. length taken + m) long in
    front ∙ ap (λ xs. taken ++ xs) (sym is ∙ sym (take-append-drop n q) ∙ ap (λ xs. take n q ++ xs) (ap (drop n) is ∙ drop-drop n (length taken) reply ∙ ap (λ m. drop m reply) (sym sum)))
    ∙ sym (append_assoc taken (take n q) (drop (length (taken ++ take n q)) reply))

pub taken_fits : (reply taken q : List ℕ) (n : ℕ) → reply ≡ taken ++ drop (length taken) reply → q ≡ drop (length taken) reply → n ≤ length q →
    length taken + n ≤ length reply
taken_fits reply taken q n front is fits =
    let sum : length reply ≡ length taken + length q = ap length (front ∙ ap (λ xs. taken ++ xs) (sym is)) ∙ length-append taken q in omega arith
