-- Two pieces in a row leave what they leave as one.
use Rattle.std.proofs.Common.{◌≡◌, ℕ, Bool, true, false, cond, not, ◌&&◌, ◌||◌, List, [], ◌∷◌, ◌++◌, None, refl, ap, ap₂, sym, ◌∙◌, append_assoc, append-nil, inl, inr, subst}
use Rattle.ldap_msg.specs.declared.kinds.Frame.TheVariants.{Bad}
use Rattle.ldap_msg.specs.Streams.{frame_at, whole, rest_of, is_broken, IsBroken, IsBrokenLength}
use Rattle.ldap_msg.proofs.Theorems.{frame_complete, broken_sound, whole_append, rest_append, broken_rest, whole_bad, broken_bad}
use Rattle.session_model.specs.Rules.{Rules, Answered, talk, after_octets, said, ending, notice_if}
use Rattle.session_model.specs.Run.{Session, Sessions, State, Open, Closing, TurnedAway, Away, Unopened, Bytes, step, hears, new_messages}
use Rattle.session_model.specs.Joined.{and_then, LeavesAlike}
use Rattle.session_model.proofs.laws.BytesLemmas.{new_messages-are}
use Rattle.session_model.proofs.laws.StepLemmas.{with_session-same, with_session-other}

-- by what was said first
pub then_closed : {T W : Type 0} (a b : Answered T W) → a.closes ≡ true → and_then a b ≡ a
then_closed a b e = rw e refl

then_open : {T W : Type 0} (a b : Answered T W) → a.closes ≡ false → and_then a b ≡ after_octets a.replies a.changes b
then_open a b e = rw e refl

-- what is said after what was said after the first
then_then : {T W : Type 0} (a b c : Answered T W) → and_then a (and_then b c) ≡ and_then (and_then a b) c
then_then a b c = by_first a.closes refl b.closes refl
  where
    by_first : (x : Bool) → a.closes ≡ x → (y : Bool) → b.closes ≡ y → and_then a (and_then b c) ≡ and_then (and_then a b) c
    by_first true e y f = then_closed a (and_then b c) e ∙ sym (ap (λ z. and_then z c) (then_closed a b e) ∙ then_closed a c e)
    by_first false e true f =
        then_open a (and_then b c) e ∙ ap (after_octets a.replies a.changes) (then_closed b c f)
        ∙ sym (ap (λ z. and_then z c) (then_open a b e) ∙ then_closed (after_octets a.replies a.changes b) c f)
    by_first false e false f =
        then_open a (and_then b c) e ∙ ap (after_octets a.replies a.changes) (then_open b c f)
        ∙ ap₂ (λ xs ys. record { replies = xs; changes = ys; tree = c.tree; who = c.who; closes = c.closes })
        (sym (append_assoc a.replies b.replies c.replies)) (sym (append_assoc a.changes b.changes c.changes))
        ∙ sym (ap (λ z. and_then z c) (then_open a b e) ∙ then_open (after_octets a.replies a.changes b) c f)

-- the messages of two pieces are those of the first and then those of the second
pub new_messages-join : (s p q : List ℕ) → new_messages s (p ++ q) ≡ new_messages s p ++ new_messages (s ++ p) q
new_messages-join s p q =
    new_messages-are s (p ++ q) ∙ ap whole (sym (append_assoc (rest_of s) p q)) ∙ whole_append (rest_of s ++ p) q
    ∙ ap₂ (λ xs ys. xs ++ ys) (sym (new_messages-are s p)) (ap (λ xs. whole (xs ++ q)) (sym (rest_append s p)) ∙ sym (new_messages-are (s ++ p) q))

-- a broken stream stays so, and no message follows
broken_length : (xs q : List ℕ) → IsBrokenLength xs → IsBrokenLength (xs ++ q)
broken_length [] q h = absurd h
broken_length (x ∷ xs) q (inl h) = inl h
broken_length (x ∷ xs) q (inr much) =
    inr (record { spelled = much.spelled; after = much.after ++ q; len = much.len; joins = ap (λ ys. ys ++ q) much.joins ∙ append_assoc much.spelled much.after q; spells = much.spells; above = much.above })

broken_again : (s q : List ℕ) → IsBroken s → IsBroken (s ++ q)
broken_again [] q h = absurd h
broken_again (x ∷ xs) q (inl h) = inl h
broken_again (x ∷ xs) q (inr h) = inr (broken_length xs q h)

pub bad_again : (s q : List ℕ) → is_broken s ≡ true → frame_at (rest_of s ++ q) ≡ Bad
bad_again s q broken = sym (frame_complete (rest_of s ++ q) Bad (broken_again (rest_of s) q (broken_sound s broken)))

no_more : (s q : List ℕ) → is_broken s ≡ true → new_messages s q ≡ []
no_more s q broken = new_messages-are s q ∙ whole_bad (rest_of s ++ q) (bad_again s q broken)

pub stays_broken : (s q : List ℕ) → is_broken s ≡ true → is_broken (s ++ q) ≡ true
stays_broken s q broken =
    broken_rest (s ++ q) ∙ ap is_broken (rest_append s q) ∙ sym (broken_rest (rest_of s ++ q)) ∙ broken_bad (rest_of s ++ q) (bad_again s q broken)

-- the notice comes at the end of all that is said, once
ends_closed : {T W : Type 0} (a b : Answered T W) → a.closes ≡ true → (x y : Bool) → ending None y (and_then a b) ≡ and_then (ending None x a) (ending None y b)
ends_closed {T} {W} a b e x y =
    let same : ending None y a ≡ ending None x a = rw e refl in
    let shut : (ending None x a).closes ≡ true = rw e refl in
    ap (ending None y) (then_closed a b e) ∙ same ∙ sym (then_closed (ending None x a) (ending None y b) shut)

-- what says nothing and leaves all as it was
pub record IsSilent {T W : Type 0} (a b : Answered T W) : Type 0 where
  pub replies : b.replies ≡ []
  pub changes : b.changes ≡ []
  pub tree : b.tree ≡ a.tree
  pub who : b.who ≡ a.who
  pub closes : b.closes ≡ false

ends_broken : {T W : Type 0} (a b : Answered T W) → a.closes ≡ false → IsSilent a b → ending None true (after_octets a.replies a.changes b) ≡ ending None true a
ends_broken a b e silent = rw (silent.replies, silent.changes, silent.tree, silent.who, silent.closes, e, append-nil a.replies, append-nil a.changes) refl

ends_open : {T W : Type 0} (a b : Answered T W) → a.closes ≡ false → (x y : Bool) → (x ≡ true → (y ≡ true) × IsSilent a b) →
    ending None y (and_then a b) ≡ and_then (ending None x a) (ending None y b)
ends_open a b e true y broken =
    let shut : (ending None true a).closes ≡ true = rw e refl in
    ap (ending None y) (then_open a b e) ∙ ap (λ z. ending None z (after_octets a.replies a.changes b)) (broken refl).0 ∙ ends_broken a b e (broken refl).1
    ∙ sym (then_closed (ending None true a) (ending None y b) shut)
ends_open a b e false y broken =
    let still : (ending None false a).closes ≡ false = rw e refl in
    let said_so : (ending None false a).replies ≡ a.replies = rw e (append-nil a.replies) in
    ap (ending None y) (then_open a b e)
    ∙ ap (λ xs. record { replies = xs; changes = a.changes ++ b.changes; tree = b.tree; who = b.who; closes = b.closes || (not b.closes && y) }) (append_assoc a.replies b.replies (notice_if (not b.closes && y)))
    ∙ sym (then_open (ending None false a) (ending None y b) still ∙ ap (λ xs. after_octets xs a.changes (ending None y b)) said_so)

ends_then : {T W : Type 0} (a b : Answered T W) (x y : Bool) → (x ≡ true → (y ≡ true) × IsSilent a b) → ending None y (and_then a b) ≡ and_then (ending None x a) (ending None y b)
ends_then a b x y broken = by_first a.closes refl
  where
    by_first : (closes : Bool) → a.closes ≡ closes → ending None y (and_then a b) ≡ and_then (ending None x a) (ending None y b)
    by_first true e = ends_closed a b e x y
    by_first false e = ends_open a b e x y broken

-- an open session after a piece
abbrev after_piece : {T W : Type 0} → Session W → List ℕ → Answered T W → Session W
after_piece s p a = record { stream = s.stream ++ p; who = a.who; reply = s.reply ++ a.replies; state = cond a.closes Closing Open; cut = None }

open_isnt_closing : Closing ≡ Open → ⊥
open_isnt_closing h = cc

-- others are answered by where the first messages led
then_talk : {T W : Type 0} (r : Rules T W) (ys : List (List ℕ)) (a b : Answered T W) →
    and_then (and_then a b) (talk r b.tree b.who ys) ≡ (let d = and_then a b in and_then d (talk r d.tree d.who ys))
then_talk r ys a b = by_first a.closes refl
  where
    by_first : (closes : Bool) → a.closes ≡ closes → and_then (and_then a b) (talk r b.tree b.who ys) ≡ (let d = and_then a b in and_then d (talk r d.tree d.who ys))
    by_first true e =
        ap (λ z. and_then z (talk r b.tree b.who ys)) (then_closed a b e) ∙ then_closed a (talk r b.tree b.who ys) e
        ∙ sym (ap (λ d. and_then d (talk r d.tree d.who ys)) (then_closed a b e) ∙ then_closed a (talk r a.tree a.who ys) e)
    by_first false e =
        ap (λ z. and_then z (talk r b.tree b.who ys)) (then_open a b e) ∙ sym (ap (λ d. and_then d (talk r d.tree d.who ys)) (then_open a b e))

module _ {T W : Type 0} (r : Rules T W) where
  -- messages answered in turn, and then others
  pub talk-append : (t : T) (w : W) (xs ys : List (List ℕ)) → talk r t w (xs ++ ys) ≡ (let a = talk r t w xs in and_then a (talk r a.tree a.who ys))
  unfolding talk
  talk-append t w [] ys = refl
  talk-append t w (x ∷ xs) ys =
      let a = r.answer t w x in
      let b = talk r a.tree a.who xs in
      ap (and_then a) (talk-append a.tree a.who xs ys) ∙ then_then a b (talk r b.tree b.who ys) ∙ then_talk r ys a b

  -- what is said to a piece, and then to another
  said-join : (t : T) (w : W) (s p q : List ℕ) →
      let a = said r None t w (new_messages s p) (is_broken (s ++ p)) in
      said r None t w (new_messages s (p ++ q)) (is_broken (s ++ (p ++ q))) ≡ and_then a (said r None a.tree a.who (new_messages (s ++ p) q) (is_broken ((s ++ p) ++ q)))
  unfolding talk
  said-join t w s p q =
      let first = talk r t w (new_messages s p) in
      let next = talk r first.tree first.who (new_messages (s ++ p) q) in
      ap₂ (λ ms xs. said r None t w ms (is_broken xs)) (new_messages-join s p q) (sym (append_assoc s p q))
      ∙ ap (ending None (is_broken ((s ++ p) ++ q))) (talk-append t w (new_messages s p) (new_messages (s ++ p) q))
      ∙ ends_then first next (is_broken (s ++ p)) (is_broken ((s ++ p) ++ q)) (λ broken. (stays_broken (s ++ p) q broken, silent first broken))
    where
      silent : (a : Answered T W) → is_broken (s ++ p) ≡ true → IsSilent a (talk r a.tree a.who (new_messages (s ++ p) q))
      silent a broken = rw (no_more (s ++ p) q broken) (record { replies = refl; changes = refl; tree = refl; who = refl; closes = refl })

  -- what a piece leaves of an open session, given by another name
  heard_open : (u : Sessions T W) (c : ℕ) (q : List ℕ) (s : Session W) → u.of c ≡ s →
      let b = said r None u.tree s.who (new_messages s.stream q) (is_broken (s.stream ++ q)) in
      ((hears r Open u c q None).tree ≡ b.tree) × ((hears r Open u c q None).of c ≡ after_piece s q b) × ((hears r Open u c q None).changes ≡ u.changes ++ b.changes)
  heard_open u c q s is =
      subst (λ x. let b = said r None u.tree x.who (new_messages x.stream q) (is_broken (x.stream ++ q)) in ((hears r Open u c q None).tree ≡ b.tree) × ((hears r Open u c q None).of c ≡ after_piece x q b) × ((hears r Open u c q None).changes ≡ u.changes ++ b.changes)) is
      (refl, with_session-same c _ u.of, refl)

  -- a session that isn't open hears nothing
  hears_shut : (st : State) (u : Sessions T W) (c : ℕ) (q : List ℕ) → (st ≡ Open → ⊥) → hears r st u c q None ≡ u
  hears_shut Open u c q shut = absurd (shut refl)
  hears_shut Closing u c q shut = refl
  hears_shut Unopened u c q shut = refl
  hears_shut TurnedAway u c q shut = refl
  hears_shut Away u c q shut = refl

  alike_same : (c : ℕ) (u v w : Sessions T W) → v ≡ u → w ≡ u → LeavesAlike c v w
  alike_same c u v w e f =
      subst (λ x. LeavesAlike c x w) (sym e) (subst (λ x. LeavesAlike c u x) (sym f)
      (record { tree = refl; changes = refl; opened = refl; who = refl; reply = refl; state = refl; cut = refl; stream = λ _. refl; rest = λ d _. refl }))

  -- an open session hears two pieces
  open_join : (u : Sessions T W) (c : ℕ) (p q : List ℕ) → let first = hears r Open u c p None in (closes : Bool) →
      (said r None u.tree (u.of c).who (new_messages (u.of c).stream p) (is_broken ((u.of c).stream ++ p))).closes ≡ closes →
      LeavesAlike c (hears r (cond closes Closing Open) first c q None) (hears r Open u c (p ++ q) None)
  open_join u c p q true e =
      let s = u.of c in
      let a = said r None u.tree s.who (new_messages s.stream p) (is_broken (s.stream ++ p)) in
      let b = said r None a.tree a.who (new_messages (s.stream ++ p) q) (is_broken ((s.stream ++ p) ++ q)) in
      let all : said r None u.tree s.who (new_messages s.stream (p ++ q)) (is_broken (s.stream ++ (p ++ q))) ≡ a = said-join u.tree s.who s.stream p q ∙ then_closed a b e in
      let is = (heard_open u c p s refl).1 in
      let both = (heard_open u c (p ++ q) s refl).1 in
      record {
        tree = ap (λ (x : Answered T W). x.tree) (sym all);
        changes = ap (λ (x : Answered T W). u.changes ++ x.changes) (sym all);
        opened = refl;
        who = ap (λ (x : Session W). x.who) is ∙ ap (λ (x : Answered T W). x.who) (sym all) ∙ ap (λ (x : Session W). x.who) (sym both);
        reply = ap (λ (x : Session W). x.reply) is ∙ ap (λ (x : Answered T W). s.reply ++ x.replies) (sym all) ∙ ap (λ (x : Session W). x.reply) (sym both);
        state = ap (λ (x : Session W). x.state) is ∙ ap (λ (x : Answered T W). cond x.closes Closing Open) (sym all) ∙ ap (λ (x : Session W). x.state) (sym both);
        cut = ap (λ (x : Session W). x.cut) is ∙ ap (λ (x : Session W). x.cut) (sym both);
        stream = λ still. absurd (open_isnt_closing (sym (ap (λ (x : Session W). x.state) is ∙ ap (λ b. cond b Closing Open) e) ∙ still));
        rest = λ d differs. with_session-other c d _ u.of differs ∙ sym (with_session-other c d _ u.of differs);
      }
  open_join u c p q false e =
      let s = u.of c in
      let first = hears r Open u c p None in
      let a = said r None u.tree s.who (new_messages s.stream p) (is_broken (s.stream ++ p)) in
      let b = said r None a.tree a.who (new_messages (s.stream ++ p) q) (is_broken ((s.stream ++ p) ++ q)) in
      let all : said r None u.tree s.who (new_messages s.stream (p ++ q)) (is_broken (s.stream ++ (p ++ q))) ≡ after_octets a.replies a.changes b = said-join u.tree s.who s.stream p q ∙ then_open a b e in
      let is = heard_open first c q (after_piece s p a) (heard_open u c p s refl).1 in
      let both = (heard_open u c (p ++ q) s refl).1 in
      record {
        tree = is.0 ∙ ap (λ (x : Answered T W). x.tree) (sym all);
        changes = is.2 ∙ append_assoc u.changes a.changes b.changes ∙ ap (λ (x : Answered T W). u.changes ++ x.changes) (sym all);
        opened = refl;
        who = ap (λ (x : Session W). x.who) is.1 ∙ ap (λ (x : Answered T W). x.who) (sym all) ∙ ap (λ (x : Session W). x.who) (sym both);
        reply = ap (λ (x : Session W). x.reply) is.1 ∙ append_assoc s.reply a.replies b.replies ∙ ap (λ (x : Answered T W). s.reply ++ x.replies) (sym all) ∙ ap (λ (x : Session W). x.reply) (sym both);
        state = ap (λ (x : Session W). x.state) is.1 ∙ ap (λ (x : Answered T W). cond x.closes Closing Open) (sym all) ∙ ap (λ (x : Session W). x.state) (sym both);
        cut = ap (λ (x : Session W). x.cut) is.1 ∙ ap (λ (x : Session W). x.cut) (sym both);
        stream = λ still. ap (λ (x : Session W). x.stream) is.1 ∙ append_assoc s.stream p q ∙ ap (λ (x : Session W). x.stream) (sym both);
        rest = λ d differs. with_session-other c d _ first.of differs ∙ with_session-other c d _ u.of differs ∙ sym (with_session-other c d _ u.of differs);
      }

  -- two pieces in a row leave what they leave as one
  pub pieces-join : (u : Sessions T W) (c : ℕ) (p q : List ℕ) → LeavesAlike c (step r (step r u (Bytes c p None)) (Bytes c q None)) (step r u (Bytes c (p ++ q) None))
  unfolding step
  pieces-join u c p q = by_state (u.of c).state refl
    where
      shut : (st : State) → (u.of c).state ≡ st → (st ≡ Open → ⊥) →
          LeavesAlike c (let first = hears r (u.of c).state u c p None in hears r (first.of c).state first c q None) (hears r (u.of c).state u c (p ++ q) None)
      shut st e closed =
          let none : (u.of c).state ≡ Open → ⊥ = λ f. closed (sym e ∙ f) in
          let first : hears r (u.of c).state u c p None ≡ u = hears_shut (u.of c).state u c p none in
          alike_same c u _ _ (ap (λ (x : Sessions T W). hears r (x.of c).state x c q None) first ∙ hears_shut (u.of c).state u c q none) (hears_shut (u.of c).state u c (p ++ q) none)

      by_state : (st : State) → (u.of c).state ≡ st →
          LeavesAlike c (let first = hears r (u.of c).state u c p None in hears r (first.of c).state first c q None) (hears r (u.of c).state u c (p ++ q) None)
      by_state Open e =
          subst (λ st. LeavesAlike c (let first = hears r st u c p None in hears r (first.of c).state first c q None) (hears r st u c (p ++ q) None)) (sym e)
          (let first = hears r Open u c p None in
          let a = said r None u.tree (u.of c).who (new_messages (u.of c).stream p) (is_broken ((u.of c).stream ++ p)) in
          subst (λ st. LeavesAlike c (hears r st first c q None) (hears r Open u c (p ++ q) None)) (ap (λ (x : Session W). x.state) (sym (heard_open u c p (u.of c) refl).1)) (open_join u c p q a.closes refl))
      by_state Closing e = shut Closing e (λ f. cc)
      by_state Unopened e = shut Unopened e (λ f. cc)
      by_state TurnedAway e = shut TurnedAway e (λ f. cc)
      by_state Away e = shut Away e (λ f. cc)
