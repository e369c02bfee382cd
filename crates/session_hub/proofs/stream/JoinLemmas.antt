-- A stream of which only the front was there to be answered, as many octets as there is kept room for.
use Rattle.std.proofs.Common.{◌≡◌, ◌≢◌, ◌≤◌, ℕ, Bool, true, false, List, [], ◌++◌, length, take, drop, refl, sym, ap, ◌∙◌, subst, inl, inr, length-append, arith, true≢false}
use Rattle.std.specs.List.{AllByRecursion}
use Rattle.std.proofs.lemmas.List.{take-append-drop, take-append-le, take-take}
use Rattle.session_model.specs.ldap_msg.declared.kinds.Frame.TheVariants.{Whole, Bad}
use Rattle.session_model.specs.ldap_msg.Streams.{frame_at, whole, rest_of}
use Rattle.session_model.specs.ldap_msg.reading.Messages.{message_of}
use Rattle.session_model.specs.Rules.{Answered, up_to}
use Rattle.session_model.proofs.Theorems.{speech-front_cut, speech-front_closed, answered-front_closed}
use Rattle.session_model.proofs.ldap_msg_proofs.Theorems.{whole_append}
use Rattle.session_hub.specs.Parties.{DirectoryEntries, Requester}
use Rattle.session_hub.specs.Terms.{Terms}
use Rattle.session_hub.specs.declared.spoken.Spoken.{Spoken}
use Rattle.session_hub.specs.declared.spoken.SpeechEnd.{SpeechEnd}
use Rattle.session_hub.specs.declared.spoken.SpeechEnd.TheVariants.{StaysOpen, Closes, IsCut, IsFull}
use Rattle.session_hub.specs.Outgoing.{Put}
use Rattle.session_hub.specs.Answering.{rules}
use Rattle.session_hub.specs.ShortAnswers.{IsAnsweredShort, AreAnsweredShort}
use Rattle.session_hub.specs.Answers.{Gives, Speaks, MayCut, said_to, closes_at, cut_at}
use Rattle.session_hub.specs.FirstAnswers.{kept_room, IsAnonymousBind, HasKeptAnswer}
use Rattle.session_hub.specs.connection.Connections.{KeepsRest}
use Rattle.session_hub.proofs.stream.FrameLemmas.{bad_front, whole_front}
use Rattle.session_hub.proofs.stream.StreamLemmas.{speaks_kept}

-- what is joined: all, or as many of the first octets as there is room for
pub record IsJoined (all : Bool) (joined stream : List ℕ) : Type 0 where
  pub whole : all ≡ true → joined ≡ stream
  pub front : all ≡ false → joined ≡ take kept_room stream

-- what closes doesn't stay open
shut_open : (end : SpeechEnd) → closes_at end ≡ true → end ≡ StaysOpen → ⊥
shut_open end shut open_ = true≢false (sym shut ∙ ap closes_at open_)

-- the messages of a front are those of the stream
more_whole : (front tail : List ℕ) (answered : ℕ) → answered ≤ length (whole front) → answered ≤ length (whole (front ++ tail))
more_whole front tail answered fits =
    let all : length (whole (front ++ tail)) ≡ length (whole front ++ whole (rest_of front ++ tail)) = ap length (whole_append front tail) in
    omega (arith, all, length-append (whole front) (whole (rest_of front ++ tail)))

-- the first messages of a front are those of the stream
short_first_messages : (terms : Terms) (t : DirectoryEntries) (w : Requester) (front tail : List ℕ) (answered : ℕ) → answered ≤ length (whole front) →
    AreAnsweredShort terms t w (take answered (whole front)) → AreAnsweredShort terms t w (take answered (whole (front ++ tail)))
short_first_messages terms t w front tail answered fits short =
    subst (λ (messages : List (List ℕ)). AreAnsweredShort terms t w messages)
    (sym (ap (take answered) (whole_append front tail) ∙ take-append-le answered (whole front) (whole (rest_of front ++ tail)) fits)) short

-- what is said to a front that closes is said to the stream
said_front : (terms : Terms) (t : DirectoryEntries) (w : Requester) (front tail : List ℕ) (end : SpeechEnd) (answered : ℕ) → closes_at end ≡ true → answered ≤ length (whole front) →
    (said_to terms (cut_at end answered) t w front).closes ≡ true → said_to terms (cut_at end answered) t w (front ++ tail) ≡ said_to terms (cut_at end answered) t w front
said_front terms t w front tail StaysOpen answered shut fits closes = absurd (true≢false (sym shut))
said_front terms t w front tail Closes answered shut fits closes = speech-front_closed (rules terms) t w front tail closes
said_front terms t w front tail IsCut answered shut fits closes = speech-front_cut (rules terms) answered t w front tail fits
said_front terms t w front tail IsFull answered shut fits closes = speech-front_cut (rules terms) answered t w front tail fits

-- the replies to a stream are short where those to a front that closes are
short_front : (terms : Terms) (t : DirectoryEntries) (w : Requester) (front tail : List ℕ) (end : SpeechEnd) (answered : ℕ) → closes_at end ≡ true → answered ≤ length (whole front) →
    (said_to terms (cut_at end answered) t w front).closes ≡ true → AreAnsweredShort terms t w (up_to (cut_at end answered) (whole front)) → AreAnsweredShort terms t w (up_to (cut_at end answered) (whole (front ++ tail)))
short_front terms t w front tail StaysOpen answered shut fits closes short = absurd (true≢false (sym shut))
short_front terms t w front tail Closes answered shut fits closes short = subst (λ asked. AllByRecursion (IsAnsweredShort terms) asked) (sym (answered-front_closed (rules terms) t w front tail closes)) short
short_front terms t w front tail IsCut answered shut fits closes short = short_first_messages terms t w front tail answered fits short
short_front terms t w front tail IsFull answered shut fits closes short = short_first_messages terms t w front tail answered fits short

-- a stream is answered where a front of it is, and closes
speaks_front : (terms : Terms) (room : ℕ) (t : DirectoryEntries) (w : Requester) (front tail : List ℕ) (old new : Put) (u : DirectoryEntries) (y : Requester) (spoken : Spoken) →
    Speaks terms room t w front old new u y spoken → closes_at spoken.end ≡ true → Speaks terms room t w (front ++ tail) old new u y spoken
speaks_front terms room t w front tail old new u y spoken speaks shut =
    let fits : spoken.answered ≤ length (whole front) = speaks.complete in
    let same = said_front terms t w front tail spoken.end spoken.answered shut fits (sym speaks.gives.closed ∙ shut) in
    let within : spoken.read ≤ length front = speaks.within in
    record {
      gives = subst (λ a. Gives a old new u y (closes_at spoken.end)) (sym same) speaks.gives;
      within = omega (arith, length-append front tail);
      unread = λ open_. absurd (shut_open spoken.end shut open_);
      cuts = λ open_. absurd (shut_open spoken.end shut open_);
      full = speaks.full;
      spare = λ count some below. subst (λ (a : Answered DirectoryEntries Requester). length (old.replies ++ a.replies) ≤ room) (sym (speech-front_cut (rules terms) count t w front tail (omega arith))) (speaks.spare count some below);
      complete = more_whole front tail spoken.answered fits;
      short = short_front terms t w front tail spoken.end spoken.answered shut fits (sym speaks.gives.closed ∙ shut) speaks.short;
      ending = speaks.ending;
      queued = speaks.queued ∙ ap (λ (a : Answered DirectoryEntries Requester). (old.replies ++ a.replies) ++ speaks.ending) (sym (speech-front_cut (rules terms) spoken.answered t w front tail fits));
      notice = speaks.notice;
    }

-- a stream was answered, and what is left of it is kept
pub record IsHeard (terms : Terms) (room : ℕ) (t : DirectoryEntries) (w : Requester) (stream : List ℕ) (old new : Put) (u : DirectoryEntries) (y : Requester) (spoken : Spoken) (rest : List ℕ) (ended : SpeechEnd) : Type 0 where
  pub speaks : Speaks terms room t w stream old new u y spoken
  pub keeps : KeepsRest spoken.end (drop spoken.read stream) rest ended

-- where only a front is there, and it closes, nothing is left of the stream
keeps_front : (front stream rest : List ℕ) (read : ℕ) (end ended : SpeechEnd) → closes_at end ≡ true → KeepsRest end (drop read front) rest ended → KeepsRest end (drop read stream) rest ended
keeps_front front stream rest read end StaysOpen shut keeps = absurd (shut_open end shut keeps.0)
keeps_front front stream rest read end Closes shut keeps = keeps
keeps_front front stream rest read end IsCut shut keeps = keeps
keeps_front front stream rest read end IsFull shut keeps = keeps

-- so it is where what was joined is answered, and a front of a stream that may go on is cut
pub heard_joined : (terms : Terms) (room : ℕ) (t : DirectoryEntries) (w : Requester) (all : Bool) (joined stream : List ℕ) (old new : Put) (u : DirectoryEntries) (y : Requester) (spoken : Spoken) (rest : List ℕ) (end ended : SpeechEnd) →
    IsJoined all joined stream → Speaks terms room t w joined old new u y spoken → MayCut spoken.end end → (all ≡ false → closes_at end ≡ true) → KeepsRest end (drop spoken.read joined) rest ended →
    IsHeard terms room t w stream old new u y (record { read = spoken.read; answered = spoken.answered; end = end }) rest ended
heard_joined terms room t w true joined stream old new u y spoken rest end ended is speaks may shut keeps =
    subst (λ s. IsHeard terms room t w s old new u y (record { read = spoken.read; answered = spoken.answered; end = end }) rest ended) (is.whole refl)
    (record { speaks = speaks_kept terms room t w joined old new new u y spoken end speaks may refl; keeps = keeps })
heard_joined terms room t w false joined stream old new u y spoken rest end ended is speaks may shut keeps =
    subst (λ s. IsHeard terms room t w s old new u y (record { read = spoken.read; answered = spoken.answered; end = end }) rest ended) (ap (λ s. s ++ drop kept_room stream) (is.front refl) ∙ take-append-drop kept_room stream)
    (record {
      speaks = speaks_front terms room t w joined (drop kept_room stream) old new u y (record { read = spoken.read; answered = spoken.answered; end = end }) (speaks_kept terms room t w joined old new new u y spoken end speaks may refl) (shut refl);
      keeps = keeps_front joined (joined ++ drop kept_room stream) rest spoken.read end ended (shut refl) keeps;
    })

-- the first answer to a stream is the one to what was joined
pub kept_joined : (all : Bool) (joined unread piece : List ℕ) → IsJoined all joined (unread ++ piece) → unread ≢ [] → HasKeptAnswer unread piece → HasKeptAnswer [] joined
kept_joined true joined unread piece is some kept =
    let same : unread ++ piece ≡ joined = sym (is.whole refl) in
    elim kept [
      | inl bad ↦ inl (subst (λ s. frame_at s ≡ Bad) same bad)
      | inr begins ↦
          inr (record {
            count = begins.count;
            whole = subst (λ s. frame_at s ≡ Whole begins.count) same begins.whole;
            bind = subst (λ s. IsAnonymousBind (message_of (take begins.count s))) same begins.bind;
            joins = inl refl;
          })
    ]
kept_joined false joined unread piece is some kept =
    let same : take kept_room (unread ++ piece) ≡ joined = sym (is.front refl) in
    elim kept [
      | inl bad ↦ inl (subst (λ s. frame_at s ≡ Bad) same (bad_front kept_room (unread ++ piece) (omega arith) bad))
      | inr begins ↦
          (let few : begins.count ≤ kept_room = elim begins.joins [ inl none ↦ absurd (some none) | inr fits ↦ fits ] in
          inr (record {
            count = begins.count;
            whole = subst (λ s. frame_at s ≡ Whole begins.count) same (whole_front begins.count kept_room (unread ++ piece) few begins.whole);
            bind = subst (λ s. IsAnonymousBind (message_of s)) (sym (take-take begins.count kept_room (unread ++ piece) few) ∙ ap (take begins.count) same) begins.bind;
            joins = inl refl;
          }))
    ]
