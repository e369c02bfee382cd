-- The buffer of a connection's queue, and the room that it keeps.
use Rattle.std.proofs.Common.{◌≡◌, ◌≤◌, ◌+◌, ℕ, Bool, true, false, List, [], ◌++◌, length, drop, sym, ap, ◌∙◌, length-append, length-drop, arith, true≢false}
use Rattle.session_hub.specs.Parties.{DirectoryEntries, Requester}
use Rattle.session_hub.specs.Terms.{Terms}
use Rattle.session_hub.specs.declared.spoken.Spoken.{Spoken}
use Rattle.session_hub.specs.declared.spoken.SpeechEnd.{SpeechEnd}
use Rattle.session_hub.specs.declared.spoken.SpeechEnd.TheVariants.{StaysOpen, Closes, IsCut, IsFull}
use Rattle.session_hub.specs.Outgoing.{Put}
use Rattle.session_hub.specs.Answers.{Speaks, said_to, closes_at}
use Rattle.session_hub.specs.FirstAnswers.{kept_room}
use Rattle.session_hub.specs.connection.Connections.{KeepsRest}
use Rattle.session_hub.specs.connection.Queues.{IsQueue}
use Rattle.std.specs.Prelude.{Some}

-- an idle connection's buffer is empty and has the kept room
pub idle_room : (taken capacity : ℕ) (closing : Bool) (buffer : List ℕ) → IsQueue taken (length buffer) capacity closing → drop taken buffer ≡ [] → closing ≡ false → length buffer + kept_room ≤ capacity
idle_room taken capacity closing buffer queue none still =
    let left : length (drop taken buffer) ≡ 0 = ap length none in
    let within : taken ≤ length buffer = queue.within in
    let all : taken ≡ length buffer = omega (arith, length-drop taken buffer) in
    let nothing : length buffer ≡ 0 = queue.empty all in
    let room : kept_room ≤ capacity = queue.room still in
    omega arith

-- a buffer grows where a stream is answered
grown : (terms : Terms) (room : ℕ) (t : DirectoryEntries) (w : Requester) (stream : List ℕ) (old new : Put) (u : DirectoryEntries) (y : Requester) (spoken : Spoken) →
    Speaks terms room t w stream old new u y spoken → length old.replies ≤ length new.replies
grown terms room t w stream old new u y spoken speaks =
    let said = (said_to terms (Some spoken.answered) t w stream).replies in
    let all : length new.replies ≡ length ((old.replies ++ said) ++ speaks.ending) = ap length speaks.queued in
    let parts : length ((old.replies ++ said) ++ speaks.ending) ≡ length (old.replies ++ said) + length speaks.ending = length-append (old.replies ++ said) speaks.ending in
    let front : length (old.replies ++ said) ≡ length old.replies + length said = length-append old.replies said in
    omega arith

-- a connection that stays open had its stream stay open
open_before : (ended : SpeechEnd) (unread rest : List ℕ) (end : SpeechEnd) → KeepsRest ended unread rest end → closes_at end ≡ false → ended ≡ StaysOpen
open_before ended unread rest StaysOpen keeps still = keeps.0
open_before ended unread rest Closes keeps still = absurd (true≢false still)
open_before ended unread rest IsCut keeps still = absurd (true≢false still)
open_before ended unread rest IsFull keeps still = absurd (true≢false still)

-- the buffer after a stream was answered behind it
pub queue_spoken : (terms : Terms) (room : ℕ) (t : DirectoryEntries) (w : Requester) (stream : List ℕ) (old new : Put) (u : DirectoryEntries) (y : Requester) (spoken : Spoken)
    (taken before after : ℕ) (was closing : Bool) (rest : List ℕ) (end : SpeechEnd) →
    IsQueue taken (length old.replies) before was → Speaks terms room t w stream old new u y spoken → KeepsRest spoken.end (drop spoken.read stream) rest end → closing ≡ closes_at end →
    (spoken.end ≡ StaysOpen → kept_room ≤ after) → IsQueue taken (length new.replies) after closing
queue_spoken terms room t w stream old new u y spoken taken before after was closing rest end queue speaks keeps shuts kept =
    let more : length old.replies ≤ length new.replies = grown terms room t w stream old new u y spoken speaks in
    let within : taken ≤ length old.replies = queue.within in
    record {
      within = omega arith;
      empty = λ all. (
          let was_all : taken ≡ length old.replies = omega arith in
          let nothing : length old.replies ≡ 0 = queue.empty was_all in
          omega arith);
      room = λ still. kept (open_before spoken.end (drop spoken.read stream) rest end keeps (sym shuts ∙ still));
    }

-- a connection that closes needs no room
pub queue_closed : (taken len before after : ℕ) (was : Bool) → IsQueue taken len before was → IsQueue taken len after true
queue_closed taken len before after was queue = record { within = queue.within; empty = queue.empty; room = λ still. absurd (true≢false still) }
