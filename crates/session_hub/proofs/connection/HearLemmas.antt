-- What is held after a piece, and how much of it is unread.
use Rattle.std.proofs.Common.{◌≡◌, ◌≤◌, ℕ, Bool, true, false, cond, not, ◌&&◌, ◌||◌, List, [], ◌++◌, length, drop, set, get_or, Option, Some, None, is_some, refl, ap, sym, ◌∙◌, subst, inl, inr, append-nil, arith, true≢false}
use Rattle.std.proofs.lemmas.List.{drop-append-le}
use Rattle.std.proofs.Math.Bool.{or-false}
use Rattle.session_model.specs.ldap_msg.Streams.{whole, rest_of, is_broken}
use Rattle.session_model.proofs.ldap_msg_proofs.Theorems.{rest_bound}
use Rattle.session_model.specs.Rules.{Answered, talk, up_to}
use Rattle.session_model.specs.AnsweredMessages.{answered_messages, answered_of_held}
use Rattle.session_model.specs.Kept.{Kept, Held, kept_of, cut_of, changed, speech, heard, heard_piece, is_cut}
use Rattle.session_model.proofs.Theorems.{speech-cut}
use Rattle.session_hub.specs.Parties.{DirectoryEntries, Requester}
use Rattle.session_hub.specs.Terms.{Terms}
use Rattle.session_hub.specs.declared.spoken.Spoken.{Spoken}
use Rattle.session_hub.specs.declared.spoken.SpeechEnd.{SpeechEnd}
use Rattle.session_hub.specs.declared.spoken.SpeechEnd.TheVariants.{StaysOpen, Closes, IsCut, IsFull}
use Rattle.session_hub.specs.Outgoing.{Put}
use Rattle.session_hub.specs.Answering.{rules}
use Rattle.session_hub.specs.ShortAnswers.{IsAnsweredShort, AreAnsweredShort}
use Rattle.session_hub.specs.Answers.{Gives, Speaks, said_to, closes_at, cut_at}
use Rattle.session_hub.specs.connection.Connections.{HearsPiece, KeepsRest}
use Rattle.session_hub.specs.connection.Limits.{most_unread}
use Rattle.session_hub.specs.hub.Hubs.{IsAt, IsShut, HearsAt}
use Rattle.session_hub.proofs.places.PlaceLemmas.{kept_at_is, changed_at, cut_changed}
use Rattle.session_hub.proofs.stream.EachLemmas.{all_cut, up_to_none}

-- a stream to which nothing that closes is said isn't broken
unbroken : (closes broken : Bool) → (closes || (not closes && broken)) ≡ false → broken ≡ false
unbroken true broken h = absurd (true≢false h)
unbroken false broken h = h

-- what is left of a stream to which nothing that closes is said is bounded
rest_bounded : (terms : Terms) (t : DirectoryEntries) (w : Requester) (stream : List ℕ) → (said_to terms None t w stream).closes ≡ false → length (rest_of stream) ≤ most_unread
unfolding speech
rest_bounded terms t w stream still = rest_bound stream (unbroken (talk (rules terms) t w (whole stream)).closes (is_broken stream) still)

-- a stream that was answered, and what is kept of it
pub record HasEnded (terms : Terms) (t : DirectoryEntries) (w : Requester) (stream : List ℕ) (old new : Put) (u : DirectoryEntries) (y : Requester) (answered : ℕ) (rest : List ℕ) (end : SpeechEnd) : Type 0 where
  pub gives : Gives (said_to terms (cut_at end answered) t w stream) old new u y (closes_at end)
  pub unread : rest ≡ cond (closes_at end) [] (rest_of stream)
  pub short : AreAnsweredShort terms t w (up_to (cut_at end answered) (whole stream))

has_ended : (terms : Terms) (room : ℕ) (t : DirectoryEntries) (w : Requester) (stream : List ℕ) (old new : Put) (u : DirectoryEntries) (y : Requester) (spoken : Spoken) (rest : List ℕ) (end : SpeechEnd) →
    Speaks terms room t w stream old new u y spoken → KeepsRest spoken.end (drop spoken.read stream) rest end → HasEnded terms t w stream old new u y spoken.answered rest end
has_ended terms room t w stream old new u y spoken rest StaysOpen speaks keeps =
    record { gives = subst (λ e. Gives (said_to terms (cut_at e spoken.answered) t w stream) old new u y (closes_at e)) keeps.0 speaks.gives; unread = keeps.1 ∙ speaks.unread keeps.0; short = subst (λ e. AreAnsweredShort terms t w (up_to (cut_at e spoken.answered) (whole stream))) keeps.0 speaks.short }
has_ended terms room t w stream old new u y spoken rest Closes speaks keeps =
    record { gives = subst (λ e. Gives (said_to terms (cut_at e spoken.answered) t w stream) old new u y (closes_at e)) keeps.0 speaks.gives; unread = keeps.1; short = subst (λ e. AreAnsweredShort terms t w (up_to (cut_at e spoken.answered) (whole stream))) keeps.0 speaks.short }
has_ended terms room t w stream old new u y spoken rest IsFull speaks keeps =
    record { gives = subst (λ e. Gives (said_to terms (cut_at e spoken.answered) t w stream) old new u y (closes_at e)) keeps.0 speaks.gives; unread = keeps.1; short = subst (λ e. AreAnsweredShort terms t w (up_to (cut_at e spoken.answered) (whole stream))) keeps.0 speaks.short }
has_ended terms room t w stream old new u y spoken rest IsCut speaks keeps =
    elim keeps.0 [
      | inl open_ ↦ record {
        gives = speaks.cuts open_;
        unread = keeps.1;
        short = all_cut (rules terms) (IsAnsweredShort terms) spoken.answered t w (whole stream) (subst (λ e. AreAnsweredShort terms t w (up_to (cut_at e spoken.answered) (whole stream))) open_ speaks.short);
      }
      | inr cut ↦ record { gives = subst (λ e. Gives (said_to terms (cut_at e spoken.answered) t w stream) old new u y (closes_at e)) cut speaks.gives; unread = keeps.1; short = subst (λ e. AreAnsweredShort terms t w (up_to (cut_at e spoken.answered) (whole stream))) cut speaks.short }
    ]

-- a connection by its parts
pub kept_is : (c : ℕ) (r r' : List ℕ) (w w' : Requester) (q q' : List ℕ) (b b' : Bool) (o : Option ℕ) → r ≡ r' → w ≡ w' → q ≡ q' → b ≡ b' →
    ◌≡◌ {A = Kept Requester} (record { number = c; rest = r; who = w; queue = q; closing = b; cut = o }) (record { number = c; rest = r'; who = w'; queue = q'; closing = b'; cut = o })
kept_is c r r' w w' q q' b b' o e f g h = rw (e, f, g, h) refl

-- what a connection keeps and leaves where a piece was answered
pub hears_end : (terms : Terms) (room : ℕ) (piece stream : List ℕ) (t u : DirectoryEntries) (k : Kept Requester) (old new : Put) (rest : List ℕ) (taken : ℕ) (y : Requester) (spoken : Spoken) (end : SpeechEnd) →
    stream ≡ k.rest ++ piece → Speaks terms room t k.who stream old new u y spoken → KeepsRest spoken.end (drop spoken.read stream) rest end → k.queue ≡ drop taken old.replies → taken ≤ length old.replies →
    HearsPiece terms piece t k old.changes u (record { number = k.number; rest = rest; who = y; queue = drop taken new.replies; closing = closes_at end; cut = cut_at end spoken.answered }) new.changes
hears_end terms room piece stream t u k old new rest taken y spoken end is speaks keeps queued fits =
    let has = subst (λ s. HasEnded terms t k.who s old new u y spoken.answered rest end) is (has_ended terms room t k.who stream old new u y spoken rest end speaks keeps) in
    let a = said_to terms (cut_at end spoken.answered) t k.who (k.rest ++ piece) in
    record {
      kept = kept_is k.number rest (cond a.closes [] (rest_of (k.rest ++ piece))) y a.who (drop taken new.replies) (k.queue ++ a.replies) (closes_at end) a.closes (cut_at end spoken.answered)
          (has.unread ∙ ap (λ b. cond b [] (rest_of (k.rest ++ piece))) has.gives.closed) has.gives.asker
          (ap (drop taken) has.gives.said ∙ drop-append-le taken old.replies a.replies fits ∙ ap (λ xs. xs ++ a.replies) (sym queued)) has.gives.closed;
      changes = has.gives.recorded;
      entries = has.gives.left;
      short = has.short;
    }

-- the same, given by other names
pub hears_as : (terms : Terms) (room : ℕ) (piece stream : List ℕ) (t u : DirectoryEntries) (k now : Kept Requester) (old new : Put) (rest : List ℕ) (taken : ℕ) (y : Requester) (spoken : Spoken) (end : SpeechEnd) (closing : Bool) (cut : Option ℕ) →
    k ≡ now → stream ≡ k.rest ++ piece → Speaks terms room t k.who stream old new u y spoken → KeepsRest spoken.end (drop spoken.read stream) rest end → k.queue ≡ drop taken old.replies → taken ≤ length old.replies →
    closing ≡ closes_at end → cut ≡ cut_at end spoken.answered →
    HearsPiece terms piece t now old.changes u (record { number = k.number; rest = rest; who = y; queue = drop taken new.replies; closing = closing; cut = cut }) new.changes
hears_as terms room piece stream t u k now old new rest taken y spoken end closing cut same is speaks keeps queued fits shuts cuts =
    subst (λ x. HearsPiece terms piece t x old.changes u (record { number = k.number; rest = rest; who = y; queue = drop taken new.replies; closing = closing; cut = cut }) new.changes) same
    (subst (λ b. HearsPiece terms piece t k old.changes u (record { number = k.number; rest = rest; who = y; queue = drop taken new.replies; closing = b; cut = cut }) new.changes) (sym shuts)
    (subst (λ o. HearsPiece terms piece t k old.changes u (record { number = k.number; rest = rest; who = y; queue = drop taken new.replies; closing = closes_at end; cut = o }) new.changes) (sym cuts)
    (hears_end terms room piece stream t u k old new rest taken y spoken end is speaks keeps queued fits)))

-- the replies to no message are short
short_uncut : (terms : Terms) (t : DirectoryEntries) (w : Requester) (messages : List (List ℕ)) → AreAnsweredShort terms t w (up_to (Some 0) messages)
unfolding answered_messages
short_uncut terms t w messages = subst (λ (none : List (List ℕ)). AreAnsweredShort terms t w none) (sym (up_to_none messages)) tt

-- and where there was no memory for the piece
pub hears_cut : (terms : Terms) (piece : List ℕ) (t : DirectoryEntries) (k : Kept Requester) (changes : List ℕ) → HearsPiece terms piece t k changes t (record k { rest = []; closing = true; cut = Some 0 }) changes
hears_cut terms piece t k changes =
    let is = speech-cut (rules terms) t k.who (k.rest ++ piece) in
    record {
      kept = kept_is k.number [] (cond (said_to terms (Some 0) t k.who (k.rest ++ piece)).closes [] (rest_of (k.rest ++ piece))) k.who (said_to terms (Some 0) t k.who (k.rest ++ piece)).who k.queue
          (k.queue ++ (said_to terms (Some 0) t k.who (k.rest ++ piece)).replies) true (said_to terms (Some 0) t k.who (k.rest ++ piece)).closes (Some 0)
          (ap (λ (x : Answered DirectoryEntries Requester). cond x.closes [] (rest_of (k.rest ++ piece))) (sym is)) (ap (λ (x : Answered DirectoryEntries Requester). x.who) (sym is))
          (sym (append-nil k.queue) ∙ ap (λ (x : Answered DirectoryEntries Requester). k.queue ++ x.replies) (sym is)) (ap (λ (x : Answered DirectoryEntries Requester). x.closes) (sym is));
      changes = sym (append-nil changes) ∙ ap (λ (x : Answered DirectoryEntries Requester). changes ++ x.changes) (sym is);
      entries = ap (λ (x : Answered DirectoryEntries Requester). x.tree) (sym is);
      short = short_uncut terms t k.who (whole (k.rest ++ piece));
    }

pub hears_starved : (terms : Terms) (piece : List ℕ) (t : DirectoryEntries) (k now : Kept Requester) (rest changes : List ℕ) → k ≡ now → rest ≡ [] → HearsPiece terms piece t now changes t (record k { rest = rest; closing = true; cut = Some 0 }) changes
hears_starved terms piece t k now rest changes same none =
    subst (λ x. HearsPiece terms piece t x changes t (record k { rest = rest; closing = true; cut = Some 0 }) changes) same
    (subst (λ xs. HearsPiece terms piece t k changes t (record k { rest = xs; closing = true; cut = Some 0 }) changes) (sym none) (hears_cut terms piece t k changes))

-- what is unread then is bounded
pub ended_bounded : (terms : Terms) (room : ℕ) (t : DirectoryEntries) (w : Requester) (stream : List ℕ) (old new : Put) (u : DirectoryEntries) (y : Requester) (spoken : Spoken) (rest : List ℕ) (end : SpeechEnd) →
    Speaks terms room t w stream old new u y spoken → KeepsRest spoken.end (drop spoken.read stream) rest end → length rest ≤ most_unread
ended_bounded terms room t w stream old new u y spoken rest end speaks keeps = by_end end (has_ended terms room t w stream old new u y spoken rest end speaks keeps)
  where
    by_end : (end : SpeechEnd) → HasEnded terms t w stream old new u y spoken.answered rest end → length rest ≤ most_unread
    by_end StaysOpen has = subst (λ xs. length xs ≤ most_unread) (sym has.unread) (rest_bounded terms t w stream (sym has.gives.closed))
    by_end Closes has = subst (λ xs. length xs ≤ most_unread) (sym has.unread) (omega arith)
    by_end IsFull has = subst (λ xs. length xs ≤ most_unread) (sym has.unread) (omega arith)
    by_end IsCut has = subst (λ xs. length xs ≤ most_unread) (sym has.unread) (omega arith)

-- a piece for a connection that isn't held, or is closing, and for one that is open
pub hears_shut : (terms : Terms) (c : ℕ) (piece : List ℕ) (t : DirectoryEntries) (ks : List (Kept Requester)) (changes : List ℕ) → IsShut (kept_of c ks) → HearsAt terms c piece t ks changes t ks changes false
unfolding heard answered_of_held
hears_shut terms c piece t ks changes shut = by_kept (kept_of c ks) refl shut
  where
    by_kept : (o : Option (Kept Requester)) → kept_of c ks ≡ o → IsShut o → HearsAt terms c piece t ks changes t ks changes false
    by_kept None none shut = record { same = λ b. rw (or-false b, none) refl; short = λ b. rw none tt }
    by_kept (Some k) there shut = record { same = λ b. rw (or-false b, there, shut) refl; short = λ b. rw (there, shut) tt }

held_is : (t u : DirectoryEntries) (ks ls : List (Kept Requester)) (b d : Bool) (xs ys : List ℕ) → t ≡ u → ks ≡ ls → b ≡ d → xs ≡ ys →
    ◌≡◌ {A = Held DirectoryEntries Requester} (record { tree = t; kept = ks; was_cut = b; unstored = xs }) (record { tree = u; kept = ls; was_cut = d; unstored = ys })
held_is t u ks ls b d xs ys e f g h = rw (e, f, g, h) refl

pub hears_open : (terms : Terms) (c at : ℕ) (piece : List ℕ) (t u : DirectoryEntries) (ks : List (Kept Requester)) (k k' : Kept Requester) (changes now : List ℕ) (was_cut : Bool) → IsAt c at ks → k ≡ get_or ks at k → k.closing ≡ false →
    HearsPiece terms piece t k changes u k' now → was_cut ≡ is_cut k'.cut → HearsAt terms c piece t ks changes u (set ks at k') now was_cut
unfolding heard answered_of_held
hears_open terms c at piece t u ks k k' changes now was_cut place is still hears told =
    let found = kept_at_is c at ks k place is in
    let put : set ks at k' ≡ changed c (λ _. k') ks = sym (changed_at c at (λ _. k') ks k place is) in
    let number : k'.number ≡ k.number = ap (λ (x : Kept Requester). x.number) hears.kept in
    let cut_is : cut_of c (set ks at k') ≡ k'.cut = ap (cut_of c) put ∙ cut_changed c at (λ _. k') ks k place is number in
    let a = said_to terms k'.cut t k.who (k.rest ++ piece) in
    record {
      same = λ b.
          rw (found, still, cut_is)
          (held_is u a.tree (set ks at k') (changed c (λ _. heard_piece (rules terms) piece k'.cut k a) ks) (b || was_cut) (b || is_cut k'.cut) now (changes ++ a.changes)
          hears.entries (put ∙ ap (λ x. changed c (λ _. x) ks) hears.kept) (ap (λ x. b || x) told) hears.changes);
      short = λ b. rw (found, still, cut_is) hears.short;
    }

-- whether a cut is there
pub is_some_cut : (o : Option ℕ) → is_some o ≡ is_cut o
is_some_cut None = refl
is_some_cut (Some n) = refl
