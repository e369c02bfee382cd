-- The definitions, computed over rules that say each message back, and close after an unbind.
use Rattle.std.proofs.Common.{◌≡◌, ℕ, Bool, false, List, [], ◌∷◌, Some, None, map, refl}
use Rattle.std.specs.Prelude.{◌==◌, cond, length}
use Rattle.ldap_msg.specs.ber_elements.Heading.{length_at, header_at}
use Rattle.ldap_msg.specs.Streams.{framed, frame_at, whole_of, rest_behind, whole, rest_of, is_broken}
use Rattle.ldap_msg.specs.Replies.{notice_octets}
use Rattle.wire_io.specs.declared.journal.Event.TheVariants as event
use Rattle.wire_io.specs.declared.journal.Item.{Item}
use Rattle.wire_io.specs.declared.journal.Item.TheVariants as item
use Rattle.session_model.specs.Rules.{Rules, talk}
use Rattle.session_model.specs.Run.{State, Closing, Step, Opened, Bytes, Ended, Gone, HungUp, start, step, run, run_from, held_numbers}
use Rattle.session_model.specs.Kept.{speech, heard}
use Rattle.wire_io.specs.Journal.{heard as heard_by}
use Rattle.session_model.specs.Journaled.{steps_of, all_taken, WasLater, uncut, cuts_of}

-- an empty message closes, and is not said back
closes_on : List ℕ → Bool
closes_on message = length message == 2

-- what is said back
said : List ℕ → List ℕ
said message = cond (closes_on message) [] message

echo : Rules (Unit {0}) ℕ
echo = record { nobody = 7; answer = λ t who message. record { replies = said message; changes = []; tree = t; who = who; closes = closes_on message } }

-- the reply and the state of a connection after steps
reply_after : ℕ → List Step → List ℕ
reply_after c steps = ((run echo tt steps).of c).reply

state_after : ℕ → List Step → State
state_after c steps = ((run echo tt steps).of c).state

-- a message cut in two is answered once, at its end
cut_message : reply_after 1 (Opened 1 ∷ Bytes 1 (0x30 ∷ 1 ∷ []) None ∷ Bytes 1 (5 ∷ []) None ∷ Bytes 1 [] None ∷ []) ≡ 0x30 ∷ 1 ∷ 5 ∷ []
unfolding reply_after run_from step start echo said closes_on talk whole whole_of frame_at framed header_at length_at is_broken rest_of rest_behind held_numbers
cut_message = refl

-- two messages in one piece are answered in their order, and what follows the one that closes is not
behind_the_last : reply_after 1 (Opened 1 ∷ Bytes 1 (0x30 ∷ 1 ∷ 5 ∷ 0x30 ∷ 0 ∷ 0x30 ∷ 1 ∷ 6 ∷ []) None ∷ Bytes 1 (0x30 ∷ 1 ∷ 7 ∷ []) None ∷ []) ≡ 0x30 ∷ 1 ∷ 5 ∷ []
unfolding reply_after run_from step start echo said closes_on talk whole whole_of frame_at framed header_at length_at is_broken rest_of rest_behind held_numbers
behind_the_last = refl

closing_then : state_after 1 (Opened 1 ∷ Bytes 1 (0x30 ∷ 0 ∷ []) None ∷ []) ≡ Closing
unfolding state_after run_from step start echo said closes_on talk whole whole_of frame_at framed header_at length_at is_broken rest_of rest_behind held_numbers
closing_then = refl

-- octets that begin no message get the notice, behind the answers
broken_behind : reply_after 1 (Opened 1 ∷ Bytes 1 (0x30 ∷ 1 ∷ 5 ∷ 0x31 ∷ []) None ∷ []) ≡ 0x30 ∷ 1 ∷ 5 ∷ notice_octets
unfolding reply_after run_from step start echo said closes_on talk whole whole_of frame_at framed header_at length_at is_broken rest_of rest_behind held_numbers notice_octets
broken_behind = refl

-- two connections are answered apart
apart : reply_after 2 (Opened 1 ∷ Opened 2 ∷ Bytes 1 (0x30 ∷ 1 ∷ []) None ∷ Bytes 2 (0x30 ∷ 1 ∷ 8 ∷ []) None ∷ Bytes 1 (5 ∷ []) None ∷ []) ≡ 0x30 ∷ 1 ∷ 8 ∷ []
unfolding reply_after run_from step start echo said closes_on talk whole whole_of frame_at framed header_at length_at is_broken rest_of rest_behind held_numbers
apart = refl

-- a connection that was never opened is not heard, and one that left hears no more
unopened : reply_after 3 (Opened 1 ∷ Bytes 3 (0x30 ∷ 1 ∷ 8 ∷ []) None ∷ []) ≡ []
unfolding reply_after run_from step start held_numbers
unopened = refl

left : reply_after 1 (Opened 1 ∷ Gone 1 ∷ Bytes 1 (0x30 ∷ 1 ∷ 8 ∷ []) None ∷ []) ≡ []
unfolding reply_after run_from step start held_numbers
left = refl

-- the end of a peer's octets closes
ended_then : state_after 1 (Opened 1 ∷ Ended 1 ∷ []) ≡ Closing
unfolding state_after run_from step start held_numbers
ended_then = refl

-- what a server keeps: the front of a message, and no octets of one that was answered
kept_front : (heard echo (Bytes 1 (0x30 ∷ 1 ∷ 5 ∷ 0x30 ∷ []) None) (heard echo (Opened 1) (record { tree = tt; kept = []; was_cut = false; unstored = [] }))).kept
    ≡ record { number = 1; rest = 0x30 ∷ []; who = 7; queue = 0x30 ∷ 1 ∷ 5 ∷ []; closing = false; cut = None } ∷ []
unfolding heard speech echo said closes_on talk whole whole_of frame_at framed header_at length_at is_broken rest_of rest_behind
kept_front = refl

-- a journal's steps: octets that were taken are none, and a refusal is one
journal : List Item
journal = item.Heard (event.Opened 1) ∷ item.Taken 1 (9 ∷ []) ∷ item.Gone 1 ∷ item.HungUp 1 ∷ []

steps : steps_of journal ≡ Opened 1 ∷ Gone 1 ∷ HungUp 1 ∷ []
unfolding journal steps_of
steps = refl

refused : all_taken journal ≡ false
unfolding journal all_taken
refused = refl

-- an answer Later counts until the next event
later : WasLater 1 (item.Heard (event.Opened 1) ∷ item.Later 1 ∷ item.Taken 2 [] ∷ [])
unfolding heard_by
later = record { before = item.Heard (event.Opened 1) ∷ []; since = item.Taken 2 [] ∷ []; is = refl; same_block = refl }

-- a cut closes behind the messages before it, and says nothing more
cut_behind : reply_after 1 (Opened 1 ∷ Bytes 1 (0x30 ∷ 1 ∷ 5 ∷ 0x30 ∷ 1 ∷ 6 ∷ []) (Some 1) ∷ Bytes 1 (0x30 ∷ 1 ∷ 7 ∷ []) None ∷ []) ≡ 0x30 ∷ 1 ∷ 5 ∷ []
unfolding reply_after run_from step start echo said closes_on talk whole whole_of frame_at framed header_at length_at is_broken rest_of rest_behind held_numbers
cut_behind = refl

cut_then : state_after 1 (Opened 1 ∷ Bytes 1 (0x30 ∷ 1 ∷ 5 ∷ []) (Some 0) ∷ []) ≡ Closing
unfolding state_after run_from step start echo said closes_on talk whole whole_of frame_at framed header_at length_at is_broken rest_of rest_behind held_numbers
cut_then = refl

-- a step's cut doesn't count against the journal, and is counted
cut_steps : map uncut (Opened 1 ∷ Bytes 1 [] (Some 3) ∷ []) ≡ Opened 1 ∷ Bytes 1 [] None ∷ []
cut_steps = refl

cuts : cuts_of 1 (Opened 1 ∷ Bytes 1 [] (Some 3) ∷ Bytes 2 [] (Some 0) ∷ []) ≡ 1
unfolding cuts_of
cuts = refl
