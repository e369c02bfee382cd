-- What a server holds stays what its sessions show, as a piece or the end of a connection's octets is heard.
use Rattle.std.proofs.Common.{◌≡◌, ◌≤◌, ℕ, Bool, true, false, cond, ◌||◌, List, [], ◌++◌, length, drop, Option, Some, option_map, refl, ap, ap₂, sym, ◌∙◌, arith, length-append, append_assoc}
use Rattle.std.proofs.lemmas.List.{drop-append-le}
use Rattle.std.proofs.Math.Seq.{drop-append_seam}
use Rattle.std.proofs.lemmas.Bool.Decides.{nat_tests}
use Rattle.ldap_msg.specs.Streams.{whole, rest_of, is_broken}
use Rattle.ldap_msg.proofs.Theorems.{whole_append, rest_append, broken_rest}
use Rattle.session_model.specs.Rules.{Rules, Answered, said}
use Rattle.session_model.specs.Run.{Session, Sessions, State, Open, Closing, TurnedAway, Away, Unopened, Bytes, Ended, is_held, held_numbers, with_session, step, hears, ended, new_messages}
use Rattle.session_model.specs.Kept.{Kept, Held, changed, closed, heard, hears_kept, speech, is_cut}
use Rattle.session_model.specs.Keeping.{Keeps, shown}
use Rattle.session_model.proofs.laws.HeldLemmas.{held_among-same}
use Rattle.session_model.proofs.laws.KeptLemmas.{kept_of-changed, number-changed}

-- the messages that a piece completes are those of the rest and the piece
pub new_messages-are : (s p : List ℕ) → new_messages s p ≡ whole (rest_of s ++ p)
new_messages-are s p = ap (drop (length (whole s))) (whole_append s p) ∙ drop-append_seam (whole s) (whole (rest_of s ++ p))

-- a stream is broken where its rest is
pub is_broken-piece : (s p : List ℕ) → is_broken (s ++ p) ≡ is_broken (rest_of s ++ p)
is_broken-piece s p = broken_rest (s ++ p) ∙ ap is_broken (rest_append s p) ∙ sym (broken_rest (rest_of s ++ p))

-- a session that is held is shown, and whatever it was, another is shown in its place
shown-held : {W : Type 0} (st : State) (c t : ℕ) (s : Session W) (k : Kept W) → is_held st ≡ true → option_map (λ _. k) (shown st c t s) ≡ Some k
shown-held Open c t s k h = refl
shown-held Closing c t s k h = refl
shown-held Unopened c t s k h = cc
shown-held TurnedAway c t s k h = cc
shown-held Away c t s k h = cc

-- one session and what is kept of it change together
Keeps-one : {T W : Type 0} (u : Sessions T W) (taken : ℕ → ℕ) (h : Held T W) (c : ℕ) (t v : T) (s : Session W) (k : Kept W) (was_cut : Bool) (changes unstored : List ℕ) → Keeps u taken h →
    is_held (u.of c).state ≡ true → is_held s.state ≡ true → k.number ≡ c → shown s.state c (taken c) s ≡ Some k → taken c ≤ length s.reply → v ≡ t →
    Keeps (record { tree = t; changes = changes; opened = u.opened; of = with_session c s u.of }) taken (record { tree = v; kept = changed c (λ _. k) h.kept; was_cut = was_cut; unstored = unstored })
unfolding held_numbers
Keeps-one u taken h c t v s k was_cut changes unstored keeps held_before held_now number shows fits same =
    record {
      tree = same;
      numbers = number-changed c (λ _. k) (λ _ _. number) h.kept ∙ keeps.numbers ∙ sym (held_among-same u.of c s (held_now ∙ sym held_before) u.opened);
      each = λ d. kept_of-changed c d (λ _. k) (λ _ _. number) h.kept ∙ grind (arith, nat_tests, keeps.each c, keeps.each d, shows, shown-held (u.of c).state c (taken c) (u.of c) k held_before);
      within = λ d. grind (arith, nat_tests, keeps.within d);
      unopened = λ d e. grind (arith, nat_tests, keeps.unopened d e);
    }

-- the session after a piece, by what is said to it
abbrev session_after : {T W : Type 0} → List ℕ → Option ℕ → Session W → Answered T W → Session W
session_after piece cut s a = record { stream = s.stream ++ piece; who = a.who; reply = s.reply ++ a.replies; state = cond a.closes Closing Open; cut = cut }

-- what is kept of it
abbrev kept_after : {T W : Type 0} → ℕ → ℕ → List ℕ → Option ℕ → Session W → Answered T W → Kept W
kept_after c t piece cut s a =
    record { number = c; rest = cond a.closes [] (rest_of (rest_of s.stream ++ piece)); who = a.who; queue = drop t s.reply ++ a.replies; closing = a.closes; cut = cut }

shown-after : {T W : Type 0} (c t : ℕ) (piece : List ℕ) (cut : Option ℕ) (s : Session W) (a : Answered T W) → t ≤ length s.reply →
    shown (session_after piece cut s a).state c t (session_after piece cut s a) ≡ Some (kept_after c t piece cut s a)
shown-after c t piece cut s a fits =
    elim a.closes as (λ b.
    shown (cond b Closing Open) c t (record { stream = s.stream ++ piece; who = a.who; reply = s.reply ++ a.replies; state = cond b Closing Open; cut = cut })
    ≡ Some (record { number = c; rest = cond b [] (rest_of (rest_of s.stream ++ piece)); who = a.who; queue = drop t s.reply ++ a.replies; closing = b; cut = cut })) [
      | true ↦ ap (λ q. Some (record { number = c; rest = []; who = a.who; queue = q; closing = true; cut = cut })) (drop-append-le t s.reply a.replies fits)
      | false ↦ ap₂ (λ x q. Some (record { number = c; rest = x; who = a.who; queue = q; closing = false; cut = cut })) (rest_append s.stream piece) (drop-append-le t s.reply a.replies fits)
    ]

held-after : (b : Bool) → is_held (cond b Closing Open) ≡ true
held-after b = elim b as (λ x. is_held (cond x Closing Open) ≡ true) [ true ↦ refl | false ↦ refl ]

-- what is shown of a session at the end of its octets
shown-ended : {W : Type 0} (st : State) (c t : ℕ) (s : Session W) → s.state ≡ st → option_map closed (shown s.state c t s) ≡ shown (ended st s).state c t (ended st s)
shown-ended Open c t s e = rw e refl
shown-ended Closing c t s e = rw e refl
shown-ended Unopened c t s e = rw e refl
shown-ended TurnedAway c t s e = rw e refl
shown-ended Away c t s e = rw e refl

held-ended : {W : Type 0} (st : State) (s : Session W) → s.state ≡ st → is_held (ended st s).state ≡ is_held s.state
held-ended Open s e = sym (ap is_held e)
held-ended Closing s e = refl
held-ended Unopened s e = refl
held-ended TurnedAway s e = refl
held-ended Away s e = refl

reply-ended : {W : Type 0} (st : State) (s : Session W) → (ended st s).reply ≡ s.reply
reply-ended Open s = refl
reply-ended Closing s = refl
reply-ended Unopened s = refl
reply-ended TurnedAway s = refl
reply-ended Away s = refl

module _ {T W : Type 0} (r : Rules T W) where
  -- what is said to the rest and the piece is what is said to the new messages of the stream
  speech-piece : (cut : Option ℕ) (t v : T) (w : W) (stream piece : List ℕ) → v ≡ t →
      speech r cut v w (rest_of stream ++ piece) ≡ said r cut t w (new_messages stream piece) (is_broken (stream ++ piece))
  unfolding speech
  speech-piece cut t v w stream piece same = rw (same, new_messages-are stream piece, is_broken-piece stream piece) refl

  -- by the state of the session that hears the piece
  bytes_in : (u : Sessions T W) (taken : ℕ → ℕ) (h : Held T W) (c : ℕ) (piece : List ℕ) (cut : Option ℕ) → Keeps u taken h → (st : State) → (u.of c).state ≡ st →
      Keeps (hears r st u c piece cut) taken (hears_kept r (shown st c (taken c) (u.of c)) c piece cut h)
  bytes_in u taken h c piece cut keeps Open is_open =
      let s = u.of c in
      let a = said r cut u.tree s.who (new_messages s.stream piece) (is_broken (s.stream ++ piece)) in
      let b = speech r cut h.tree s.who (rest_of s.stream ++ piece) in
      let same : b ≡ a = speech-piece cut u.tree h.tree s.who s.stream piece keeps.tree in
      Keeps-one u taken h c a.tree b.tree (session_after piece cut s a) (kept_after c (taken c) piece cut s b) (h.was_cut || is_cut cut) (u.changes ++ a.changes) (h.unstored ++ b.changes) keeps
      (ap is_held is_open) (held-after a.closes) refl
      (shown-after c (taken c) piece cut s a (keeps.within c) ∙ ap (λ (x : Answered T W). Some (kept_after c (taken c) piece cut s x)) (sym same))
      (rw length-append (let fits : taken c ≤ length s.reply = keeps.within c in omega arith))
      (ap (λ (x : Answered T W). x.tree) same)
  bytes_in u taken h c piece cut keeps Closing e = keeps
  bytes_in u taken h c piece cut keeps Unopened e = keeps
  bytes_in u taken h c piece cut keeps TurnedAway e = keeps
  bytes_in u taken h c piece cut keeps Away e = keeps

  pub Keeps-bytes : (u : Sessions T W) (taken : ℕ → ℕ) (h : Held T W) (c : ℕ) (piece : List ℕ) (cut : Option ℕ) → Keeps u taken h →
      Keeps (step r u (Bytes c piece cut)) taken (heard r (Bytes c piece cut) h)
  unfolding step heard
  Keeps-bytes u taken h c piece cut keeps = rw (keeps.each c) (bytes_in u taken h c piece cut keeps (u.of c).state refl)

  -- so what isn't stored yet, by the state of the session
  changes_in : (u : Sessions T W) (taken : ℕ → ℕ) (h : Held T W) (c : ℕ) (piece : List ℕ) (cut : Option ℕ) (stored : List ℕ) → Keeps u taken h → u.changes ≡ stored ++ h.unstored → (st : State) →
      (hears r st u c piece cut).changes ≡ stored ++ (hears_kept r (shown st c (taken c) (u.of c)) c piece cut h).unstored
  changes_in u taken h c piece cut stored keeps is Open =
      let s = u.of c in
      let a = said r cut u.tree s.who (new_messages s.stream piece) (is_broken (s.stream ++ piece)) in
      let b = speech r cut h.tree s.who (rest_of s.stream ++ piece) in
      let same : b ≡ a = speech-piece cut u.tree h.tree s.who s.stream piece keeps.tree in
      ap₂ (λ xs (x : Answered T W). xs ++ x.changes) is (sym same) ∙ append_assoc stored h.unstored b.changes
  changes_in u taken h c piece cut stored keeps is Closing = is
  changes_in u taken h c piece cut stored keeps is Unopened = is
  changes_in u taken h c piece cut stored keeps is TurnedAway = is
  changes_in u taken h c piece cut stored keeps is Away = is

  pub changes-bytes : (u : Sessions T W) (taken : ℕ → ℕ) (h : Held T W) (c : ℕ) (piece : List ℕ) (cut : Option ℕ) (stored : List ℕ) → Keeps u taken h → u.changes ≡ stored ++ h.unstored →
      (step r u (Bytes c piece cut)).changes ≡ stored ++ (heard r (Bytes c piece cut) h).unstored
  unfolding step heard
  changes-bytes u taken h c piece cut stored keeps is = rw (keeps.each c) (changes_in u taken h c piece cut stored keeps is (u.of c).state)

  -- by the state of the session whose octets end
  ended_in : (u : Sessions T W) (taken : ℕ → ℕ) (h : Held T W) (c : ℕ) → Keeps u taken h → (st : State) → (u.of c).state ≡ st →
      Keeps (record u { of = with_session c (ended st (u.of c)) u.of }) taken (record h { kept = changed c closed h.kept })
  unfolding held_numbers
  ended_in u taken h c keeps st e =
      let s = u.of c in
      record {
        tree = keeps.tree;
        numbers = number-changed c closed (λ _ number. number) h.kept ∙ keeps.numbers ∙ sym (held_among-same u.of c (ended st s) (held-ended st s e) u.opened);
        each = λ d. kept_of-changed c d closed (λ _ number. number) h.kept ∙ grind (arith, nat_tests, keeps.each c, keeps.each d, shown-ended st c (taken c) s e);
        within = λ d. grind (arith, nat_tests, keeps.within d, reply-ended st s);
        unopened = λ d f. grind (arith, nat_tests, keeps.unopened d f, reply-ended st s, held-ended st s e);
      }

  pub Keeps-ended : (u : Sessions T W) (taken : ℕ → ℕ) (h : Held T W) (c : ℕ) → Keeps u taken h → Keeps (step r u (Ended c)) taken (heard r (Ended c) h)
  unfolding step heard
  Keeps-ended u taken h c keeps = ended_in u taken h c keeps (u.of c).state refl
