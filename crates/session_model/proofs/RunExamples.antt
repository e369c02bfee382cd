-- The definitions, computed over trees that are numbers: an empty message counts one more, a message of one octet is said
-- back, and one of two octets is told the number.
use Rattle.std.proofs.Common.{◌≡◌, ℕ, ◌+◌, ◌==◌, true, false, cond, List, [], ◌∷◌, Option, Some, None, length, refl}
use Rattle.ldap_msg.specs.ber_elements.Heading.{length_at, header_at}
use Rattle.ldap_msg.specs.Streams.{framed, frame_at, whole_of, rest_behind, whole, rest_of, is_broken}
use Rattle.session_model.specs.Rules.{Rules, Answered, talk}
use Rattle.session_model.specs.Run.{Step, Opened, Bytes, Ended, HungUp, start, step, run, run_from, held_numbers}
use Rattle.session_model.specs.AnsweredMessages.{answered_messages, answered_of_step, answered_of_run, answered_of_replay}
use Rattle.session_model.specs.Places.{Place, places, places_of_replay, places_from, places_of_step}
use Rattle.session_model.specs.Purging.{purged, openings, finds_room, finds_room_by, answered_of_connection, answered_of_connection_by}

answer_of : ℕ → ℕ → List ℕ → Answered ℕ ℕ
answer_of count who message =
    cond (length message == 2) (record { replies = []; changes = count ∷ []; tree = count + 1; who = who; closes = false })
    (record { replies = cond (length message == 3) message (count ∷ []); changes = []; tree = count; who = who; closes = false })

counting : Rules ℕ ℕ
counting = record { nobody = 0; answer = answer_of }

-- one more is counted; 5 is said back; the number is told
abbrev counts : List ℕ
counts = 0x30 ∷ 0 ∷ []

abbrev echoes : List ℕ
echoes = 0x30 ∷ 1 ∷ 5 ∷ []

abbrev tells : List ℕ
tells = 0x30 ∷ 2 ∷ 0 ∷ 0 ∷ []

-- the first connection counts, and the second asks for an echo and then for the number
abbrev steps : List Step
steps = Opened 1 ∷ Opened 2 ∷ Bytes 1 counts None ∷ Bytes 2 echoes None ∷ Bytes 2 tells None ∷ Ended 1 ∷ []

-- the steps of the second alone
second : purged 2 steps ≡ Opened 2 ∷ Bytes 2 echoes None ∷ Bytes 2 tells None ∷ []
second = refl

opens_once : openings 2 steps ≡ 1
opens_once = refl

has_room : finds_room counting 2 (start counting 7) steps ≡ true
unfolding finds_room_by start step held_numbers counting
has_room = refl

-- its messages among all are answered over the number that was counted meanwhile
asked : answered_of_connection counting 2 (start counting 7) steps
    ≡ record { tree = 8; who = 0; message = echoes } ∷ record { tree = 8; who = 0; message = tells } ∷ []
unfolding answered_of_connection_by answered_of_step answered_messages start step counting answer_of talk whole whole_of frame_at framed header_at length_at is_broken rest_of rest_behind held_numbers
asked = refl

-- it is shown the count of the first where it is told the number, and is not where it gets an echo
told_among_all : ((run counting 7 steps).of 2).reply ≡ 0x30 ∷ 1 ∷ 5 ∷ 8 ∷ []
unfolding run_from start step counting answer_of talk whole whole_of frame_at framed header_at length_at is_broken rest_of rest_behind held_numbers
told_among_all = refl

told_alone : ((run counting 7 (purged 2 steps)).of 2).reply ≡ 0x30 ∷ 1 ∷ 5 ∷ 7 ∷ []
unfolding run_from start step counting answer_of talk whole whole_of frame_at framed header_at length_at is_broken rest_of rest_behind held_numbers
told_alone = refl

-- the changes of all connections, in their order, and not those behind a cut
changed_by_all : (run counting 7 (Opened 1 ∷ Opened 2 ∷ Bytes 1 (0x30 ∷ 0 ∷ 0x30 ∷ 0 ∷ []) None ∷ Bytes 2 (0x30 ∷ 0 ∷ 0x30 ∷ 0 ∷ []) (Some 1) ∷ Bytes 1 counts None ∷ [])).changes ≡ 7 ∷ 8 ∷ 9 ∷ 10 ∷ []
unfolding run_from start step counting answer_of talk whole whole_of frame_at framed header_at length_at is_broken rest_of rest_behind held_numbers
changed_by_all = refl

-- a message behind a cut isn't answered
cut_behind : answered_of_run counting (start counting 7) (Opened 1 ∷ Bytes 1 (0x30 ∷ 1 ∷ 5 ∷ 0x30 ∷ 0 ∷ []) (Some 1) ∷ [])
    ≡ record { tree = 7; who = 0; message = echoes } ∷ []
unfolding answered_of_run answered_of_step answered_messages start step counting answer_of talk whole whole_of frame_at framed header_at length_at is_broken rest_of rest_behind held_numbers
cut_behind = refl

-- nor is one of a connection that was hung up
hung_up_before : answered_of_replay counting (start counting 7) (Opened 1 ∷ Ended 1 ∷ Bytes 1 echoes None ∷ []) ≡ []
unfolding answered_of_replay answered_of_step answered_messages start step counting whole whole_of frame_at framed header_at length_at is_broken rest_of rest_behind held_numbers
hung_up_before = refl

-- the places of a second connection: before and after each step, and behind each message of a piece, its own and another's
abbrev at : ℕ → ℕ → Option ℕ → Option (List ℕ) → Place ℕ ℕ
at heard count asks message = record { heard = heard; tree = count; asks = asks; message = message; turned = false }

placed : places counting 2 7 (Opened 1 ∷ Opened 2 ∷ Bytes 1 (0x30 ∷ 0 ∷ 0x30 ∷ 0 ∷ []) None ∷ Bytes 2 echoes None ∷ HungUp 1 ∷ Ended 2 ∷ [])
    ≡ at 0 7 None None ∷ at 1 7 None None ∷ at 2 7 (Some 0) None ∷ at 3 8 (Some 0) None ∷ at 3 9 (Some 0) None ∷ at 3 9 (Some 0) None
    ∷ at 4 9 (Some 0) (Some echoes) ∷ at 4 9 (Some 0) None ∷ at 4 9 (Some 0) None ∷ at 5 9 None None ∷ []
unfolding places_from places_of_step answered_of_step answered_messages start step counting answer_of talk whole whole_of frame_at framed header_at length_at is_broken rest_of rest_behind held_numbers
placed = refl

-- where events are replayed, a connection that was hung up is no more shown what others do
placed_in_replay : places_of_replay counting 2 7 (Opened 1 ∷ Opened 2 ∷ Ended 2 ∷ Bytes 1 counts None ∷ [])
    ≡ at 0 7 None None ∷ at 1 7 None None ∷ at 2 7 (Some 0) None ∷ at 3 7 None None ∷ at 4 8 None None ∷ at 4 8 None None ∷ []
unfolding places_from places_of_step answered_of_step answered_messages start step counting answer_of talk whole whole_of frame_at framed header_at length_at is_broken rest_of rest_behind held_numbers
placed_in_replay = refl
