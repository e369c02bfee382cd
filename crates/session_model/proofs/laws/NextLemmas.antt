-- What is held shows where a connection's next message ends, and who asks on it.
use Rattle.std.proofs.Common.{◌≡◌, ◌≢◌, ◌<◌, ◌≤◌, ◌+◌, ◌-◌, ℕ, true, false, List, [], ◌∷◌, ◌++◌, length, take, drop, Some, None, refl, ap, ap₂, sym, ◌∙◌, arith, drop_of_length-le}
use Rattle.std.proofs.lemmas.List.{take-append-le, take-append-drop}
use Rattle.std.proofs.Math.Seq.{take-append-add, take-length}
use Rattle.ldap_msg.specs.declared.kinds.Frame.{Frame}
use Rattle.ldap_msg.specs.declared.kinds.Frame.TheVariants.{Whole, More, Bad}
use Rattle.ldap_msg.specs.Streams.{frame_at, whole, rest_of, is_broken}
use Rattle.ldap_msg.proofs.Theorems.{frame_again, whole_step, broken_step, whole_more, broken_more, whole_bad, whole_nil, whole_rest, whole_alone}
use Rattle.session_model.specs.Run.{Session, Sessions, State, Open, Closing, TurnedAway, Away, Unopened, new_messages}
use Rattle.session_model.specs.Kept.{Kept, Held, kept_of}
use Rattle.session_model.specs.Keeping.{Keeps, shown}
use Rattle.session_model.specs.Places.{CompletesOne, asker, asker_of, asker_in}
use Rattle.session_model.proofs.laws.BytesLemmas.{new_messages-are, is_broken-piece}

-- a connection that is held and not closing is open, and what is unread of it is the rest of its stream
record IsOpenStream {W : Type 0} (st : State) (s : Session W) (k : Kept W) : Type 0 where
  pub is_open : st ≡ Open
  pub rest : k.rest ≡ rest_of s.stream

shown-open : {W : Type 0} (st : State) (c t : ℕ) (s : Session W) (k : Kept W) → shown st c t s ≡ Some k → k.closing ≡ false → IsOpenStream st s k
shown-open {W} Open c t s k shows still =
    let is : record { number = c; rest = rest_of s.stream; who = s.who; queue = drop t s.reply; closing = false; cut = s.cut } ≡ k = cc in
    record { is_open = refl; rest = ap (λ (x : Kept W). x.rest) (sym is) }
shown-open {W} Closing c t s k shows still =
    let is : record { number = c; rest = []; who = s.who; queue = drop t s.reply; closing = true; cut = s.cut } ≡ k = cc in
    let closes : true ≡ false = ap (λ (x : Kept W). x.closing) is ∙ still in absurd cc
shown-open Unopened c t s k shows still = absurd cc
shown-open TurnedAway c t s k shows still = absurd cc
shown-open Away c t s k shows still = absurd cc

open_stream : {T W : Type 0} (u : Sessions T W) (taken : ℕ → ℕ) (h : Held T W) (d : ℕ) (k : Kept W) → Keeps u taken h → kept_of d h.kept ≡ Some k → k.closing ≡ false
    → IsOpenStream (u.of d).state (u.of d) k
open_stream u taken h d k keeps is still = shown-open (u.of d).state d (taken d) (u.of d) k (sym (keeps.each d) ∙ is) still

-- a message reaches behind a rest, in which there is none
whole_some : (s : List ℕ) (n : ℕ) → whole s ≡ [] → frame_at s ≡ Whole n → ⊥
whole_some s n none is = let some : take n s ∷ whole (drop n s) ≡ [] = sym (whole_step s n is) ∙ none in cc

reaches : (s x p : List ℕ) (n : ℕ) → x ≡ rest_of s → frame_at (x ++ p) ≡ Whole n → n < length x → ⊥
reaches s x p n rest is short =
    let front : take n (x ++ p) ≡ take n x = take-append-le n x p (omega arith) in
    let alone : frame_at (take n x) ≡ Whole (length (take n x)) = ap frame_at (sym front) ∙ whole_alone (x ++ p) n is ∙ ap (λ ys. Whole (length ys)) front in
    let again : frame_at (take n x ++ drop n x) ≡ Whole (length (take n x)) = frame_again (take n x) (drop n x) (length (take n x)) alone in
    whole_some x (length (take n x)) (ap whole rest ∙ whole_rest s) (ap frame_at (sym (take-append-drop n x)) ∙ again)

-- one message alone is whole, and nothing is behind it
alone_whole : (m : List ℕ) → frame_at m ≡ Whole (length m) → whole m ≡ m ∷ []
alone_whole m is = whole_step m (length m) is ∙ ap₂ (λ x y. x ∷ whole y) (take-length m) (drop_of_length-le m (omega arith)) ∙ ap (λ xs. m ∷ xs) whole_nil

nothing_more : frame_at [] ≡ More
unfolding frame_at
nothing_more = refl

alone_good : (m : List ℕ) → frame_at m ≡ Whole (length m) → is_broken m ≡ false
alone_good m is = broken_step m (length m) is ∙ ap is_broken (drop_of_length-le m (omega arith)) ∙ broken_more [] nothing_more

-- where the message in front of a rest and a piece ends
front_of : (x p : List ℕ) (n : ℕ) → length x ≤ n → x ++ take (n - length x) p ≡ take n (x ++ p)
front_of x p n long =
    let is : length x + (n - length x) ≡ n = omega arith in
    sym (take-append-add x p (n - length x)) ∙ ap (λ k. take k (x ++ p)) is

pub completes_next : {T W : Type 0} (u : Sessions T W) (taken : ℕ → ℕ) (h : Held T W) (d n : ℕ) (k : Kept W) (p : List ℕ)
    → Keeps u taken h → kept_of d h.kept ≡ Some k → k.closing ≡ false → frame_at (k.rest ++ p) ≡ Whole n
    → CompletesOne u d (take (n - length k.rest) p) (take n (k.rest ++ p))
completes_next u taken h d n k p keeps is still frames =
    let stream = open_stream u taken h d k keeps is still in
    let s = (u.of d).stream in
    let m = take n (k.rest ++ p) in
    let front = take (n - length k.rest) p in
    let alone : frame_at m ≡ Whole (length m) = whole_alone (k.rest ++ p) n frames in
    let joins : rest_of s ++ front ≡ m =
    ap (λ x. x ++ front) (sym stream.rest) ∙ front_of k.rest p n (not_less n (length k.rest) (reaches s k.rest p n stream.rest frames)) in
    record {
      is_open = stream.is_open;
      one = new_messages-are s front ∙ ap whole joins ∙ alone_whole m alone;
      good = is_broken-piece s front ∙ ap is_broken joins ∙ alone_good m alone;
    }
  where
    not_less : (n m : ℕ) → (n < m → ⊥) → m ≤ n
    not_less n m short = omega (arith, short)

-- where none stands there, none is completed
no_frame : (s : List ℕ) (f : Frame) → frame_at s ≡ f → ((n : ℕ) → frame_at s ≢ Whole n) → whole s ≡ []
no_frame s (Whole n) is none = absurd (none n is)
no_frame s More is none = whole_more s is
no_frame s Bad is none = whole_bad s is

pub completes_none : {T W : Type 0} (u : Sessions T W) (taken : ℕ → ℕ) (h : Held T W) (d : ℕ) (k : Kept W) (p : List ℕ)
    → Keeps u taken h → kept_of d h.kept ≡ Some k → k.closing ≡ false → ((n : ℕ) → frame_at (k.rest ++ p) ≢ Whole n)
    → new_messages (u.of d).stream p ≡ []
completes_none u taken h d k p keeps is still none =
    let stream = open_stream u taken h d k keeps is still in
    new_messages-are (u.of d).stream p ∙ ap (λ x. whole (x ++ p)) (sym stream.rest) ∙ no_frame (k.rest ++ p) (frame_at (k.rest ++ p)) refl none

-- who asks, by what is shown of a session
shown-asks : {W : Type 0} (st : State) (c t : ℕ) (s : Session W) → asker_in (shown st c t s) ≡ asker st s.who
shown-asks Open c t s = refl
shown-asks Closing c t s = refl
shown-asks Unopened c t s = refl
shown-asks TurnedAway c t s = refl
shown-asks Away c t s = refl

pub asks_kept : {T W : Type 0} (u : Sessions T W) (taken : ℕ → ℕ) (h : Held T W) (c : ℕ) → Keeps u taken h → asker_of (u.of c) ≡ asker_in (kept_of c h.kept)
asks_kept u taken h c keeps = sym (ap asker_in (keeps.each c) ∙ shown-asks (u.of c).state c (taken c) (u.of c))

pub none_asks : {T W : Type 0} (u : Sessions T W) (taken : ℕ → ℕ) (h : Held T W) (c : ℕ) → Keeps u taken h → asker_in (kept_of c h.kept) ≡ None → (u.of c).state ≢ Open
none_asks u taken h c keeps none is =
    let asks : asker Open (u.of c).who ≡ None = ap (λ st. asker st (u.of c).who) (sym is) ∙ asks_kept u taken h c keeps ∙ none in cc
