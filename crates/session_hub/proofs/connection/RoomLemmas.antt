-- What waits for a connection that hears a piece, by the room that it has.
use Rattle.std.proofs.Common.{◌≡◌, ◌≤◌, ◌+◌, ℕ, Bool, true, List, [], ◌++◌, length, drop, set, get_or, Option, Some, refl, ap, sym, ◌∙◌, subst, inl, append_assoc, append-nil, length-append, length-drop, arith, true≢false}
use Rattle.std.proofs.lemmas.List.{drop-append-le}
use Rattle.session_model.specs.ldap_msg.Streams.{whole}
use Rattle.session_model.specs.Rules.{Answered}
use Rattle.session_model.specs.Kept.{Kept, kept_of}
use Rattle.session_model.proofs.Theorems.{speech-cut}
use Rattle.session_hub.specs.Parties.{DirectoryEntries, Requester}
use Rattle.session_hub.specs.Terms.{Terms}
use Rattle.session_hub.specs.declared.spoken.Spoken.{Spoken}
use Rattle.session_hub.specs.Outgoing.{Put}
use Rattle.session_hub.specs.Answering.{rules}
use Rattle.session_hub.specs.declared.spoken.SpeechEnd.{SpeechEnd}
use Rattle.session_hub.specs.declared.spoken.SpeechEnd.TheVariants.{StaysOpen, Closes, IsCut, IsFull}
use Rattle.session_hub.specs.Answers.{Speaks, cut_at, said_to}
use Rattle.session_hub.specs.Rooms.{HasRoom, IsCutBehind, StaysWithin, AnswersWithin, queued_after}
use Rattle.session_hub.specs.hub.Hubs.{IsAt, IsShut}
use Rattle.session_hub.proofs.places.PlaceLemmas.{kept_at_is, changed_at, kept_changed}

-- the room of a buffer is that of its queue, and what was taken of it
room_inside : (terms : Terms) (inside room taken : ℕ) (t : DirectoryEntries) (w : Requester) (stream old : List ℕ) (answered : ℕ) → taken ≤ length old → inside ≤ room + taken →
    HasRoom terms inside t w stream old answered → HasRoom terms room t w stream (drop taken old) answered
room_inside terms inside room taken t w stream old answered fits within spare = λ count some below.
    let said = (said_to terms (Some count) t w stream).replies in
    let before : length (old ++ said) ≤ inside = spare count some below in
    let all : length (old ++ said) ≡ length old + length said = length-append old said in
    let left : length (drop taken old ++ said) ≡ length (drop taken old) + length said = length-append (drop taken old) said in
    omega (arith, length-drop taken old)

-- what a queue is, by its buffer
queued_inside : (taken : ℕ) (old said ending new : List ℕ) → taken ≤ length old → new ≡ (old ++ said) ++ ending → drop taken new ≡ (drop taken old ++ said) ++ ending
queued_inside taken old said ending new fits is =
    ap (drop taken) (is ∙ append_assoc old said ending) ∙ drop-append-le taken old (said ++ ending) fits ∙ sym (append_assoc (drop taken old) said ending)

-- where a stream was cut, it was so behind the messages that were answered
cut_behind : (end : SpeechEnd) (answered : ℕ) → IsCutBehind answered (cut_at end answered)
cut_behind StaysOpen answered = tt
cut_behind Closes answered = tt
cut_behind IsCut answered = refl
cut_behind IsFull answered = refl

-- a stream that was answered stays within the room
pub stays_within : (terms : Terms) (inside room : ℕ) (piece stream : List ℕ) (t u : DirectoryEntries) (k now : Kept Requester) (old new : Put) (rest : List ℕ) (taken : ℕ) (y : Requester) (spoken : Spoken) (closing : Bool) (end : SpeechEnd) (cut : Option ℕ) →
    k ≡ now → cut ≡ cut_at end spoken.answered → stream ≡ k.rest ++ piece → Speaks terms inside t k.who stream old new u y spoken → k.queue ≡ drop taken old.replies → taken ≤ length old.replies → inside ≤ room + taken →
    StaysWithin terms room piece t now (record { number = k.number; rest = rest; who = y; queue = drop taken new.replies; closing = closing; cut = cut })
stays_within terms inside room piece stream t u k now old new rest taken y spoken closing end cut same cuts is speaks queued fits within =
    subst (λ x. StaysWithin terms room piece t x (record { number = k.number; rest = rest; who = y; queue = drop taken new.replies; closing = closing; cut = cut })) same
    (record {
      answered = spoken.answered;
      ending = speaks.ending;
      spare = subst (λ xs. HasRoom terms room t k.who (k.rest ++ piece) xs spoken.answered) (sym queued)
          (subst (λ s. HasRoom terms room t k.who s (drop taken old.replies) spoken.answered) is (room_inside terms inside room taken t k.who stream old.replies spoken.answered fits within speaks.spare));
      complete = subst (λ s. spoken.answered ≤ length (whole s)) is speaks.complete;
      cut = subst (IsCutBehind spoken.answered) (sym cuts) (cut_behind end spoken.answered);
      queued = subst (λ xs. drop taken new.replies ≡ queued_after terms t k.who (k.rest ++ piece) xs spoken.answered ++ speaks.ending) (sym queued)
          (subst (λ s. drop taken new.replies ≡ queued_after terms t k.who s (drop taken old.replies) spoken.answered ++ speaks.ending) is
          (queued_inside taken old.replies (said_to terms (Some spoken.answered) t k.who stream).replies speaks.ending new.replies fits speaks.queued));
      notice = speaks.notice;
    })

-- and so does one for which there was no memory
pub stays_starved : (terms : Terms) (room : ℕ) (piece : List ℕ) (t : DirectoryEntries) (k now : Kept Requester) (rest : List ℕ) → k ≡ now → StaysWithin terms room piece t now (record k { rest = rest; closing = true; cut = Some 0 })
stays_starved terms room piece t k now rest same =
    subst (λ x. StaysWithin terms room piece t x (record k { rest = rest; closing = true; cut = Some 0 })) same
    (record {
      answered = 0;
      ending = [];
      spare = λ count some below. absurd (omega arith);
      complete = omega arith;
      cut = refl;
      queued = sym (append-nil k.queue) ∙ ap (λ (x : Answered DirectoryEntries Requester). k.queue ++ x.replies) (sym (speech-cut (rules terms) t k.who (k.rest ++ piece)))
          ∙ sym (append-nil (queued_after terms t k.who (k.rest ++ piece) k.queue 0));
      notice = inl refl;
    })

-- a piece for a connection that isn't held, or is closing, and for one that is open
pub answers_shut : (terms : Terms) (room c : ℕ) (piece : List ℕ) (t : DirectoryEntries) (ks now : List (Kept Requester)) → IsShut (kept_of c ks) → AnswersWithin terms room c piece t ks now
answers_shut terms room c piece t ks now shut = λ connection there still. absurd (true≢false (sym (subst IsShut there shut) ∙ still))

pub answers_open : (terms : Terms) (room c at : ℕ) (piece : List ℕ) (t : DirectoryEntries) (ks : List (Kept Requester)) (k now : Kept Requester) → IsAt c at ks → k ≡ get_or ks at k → now.number ≡ k.number →
    StaysWithin terms room piece t k now → AnswersWithin terms room c piece t ks (set ks at now)
answers_open terms room c at piece t ks k now place is number stays = λ connection there still.
    let found : Some k ≡ Some connection = sym (kept_at_is c at ks k place is) ∙ there in
    let same : k ≡ connection = cc in (
      now,
      ap (kept_of c) (sym (changed_at c at (λ _. now) ks k place is)) ∙ kept_changed c at (λ _. now) ks k place is number,
      subst (λ x. StaysWithin terms room piece t x now) same stays,
    )
