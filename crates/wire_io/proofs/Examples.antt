-- The definitions on known cases.
use Rattle.std.proofs.Common.{◌≡◌, true, false, List, [], ◌∷◌, Some, None, refl}
use Rattle.script_text.specs.declared.event.ScriptEvent.TheVariants as script
use Rattle.wire_io.specs.declared.journal.Event.TheVariants.{Opened, Bytes, Ended, Ready, Stop}
use Rattle.wire_io.specs.declared.journal.Item.{Item}
use Rattle.wire_io.specs.declared.journal.Item.TheVariants.{Heard, Taken, Later, Held, Released, HungUp, Stored}
use Rattle.wire_io.specs.Files.{file_of}
use Rattle.wire_io.specs.Journal.{heard, opened_by, taken_at, taken_of, stored_at, stored_of, hangs_up, is_hung_up, hold_after, hold_after_all, is_held}
use Rattle.wire_io.specs.Laws.{first_events}
use Rattle.wire_io.specs.Pieces.{cut, pieces_of, pieces}
use Rattle.wire_io.specs.Playing.{left_over, first_turn, front_turn, next_turn}
use Rattle.wire_io.specs.ReadWhole.{line_past}
use Rattle.wire_io.specs.Rising.{are_above, put_rising, rising_after, rising}

-- five octets in a buffer of two come in three pieces
five_octets :
    pieces 2 (script.Opened 1 ∷ script.Bytes 1 (48 ∷ 49 ∷ 50 ∷ 51 ∷ 52 ∷ []) ∷ script.Ended 1 ∷ [])
    ≡ Opened 1 ∷ Bytes 1 (48 ∷ 49 ∷ []) ∷ Bytes 1 (50 ∷ 51 ∷ []) ∷ Bytes 1 (52 ∷ []) ∷ Ended 1 ∷ []
unfolding pieces pieces_of cut
five_octets = refl

-- as many octets as the buffer has room for come at once
two_octets : pieces 2 (script.Bytes 1 (48 ∷ 49 ∷ []) ∷ []) ≡ Bytes 1 (48 ∷ 49 ∷ []) ∷ []
unfolding pieces pieces_of cut
two_octets = refl

-- the events of a script, and then Stop
two_turns : first_events 3 2 (script.Opened 1 ∷ script.Bytes 1 (48 ∷ 49 ∷ 50 ∷ []) ∷ []) ≡ Opened 1 ∷ Bytes 1 (48 ∷ 49 ∷ []) ∷ Bytes 1 (50 ∷ []) ∷ []
unfolding first_events next_turn front_turn first_turn left_over
two_turns = refl

after_the_last : first_events 3 2 (script.Ended 1 ∷ []) ≡ Ended 1 ∷ Stop ∷ Stop ∷ []
unfolding first_events next_turn front_turn first_turn
after_the_last = refl

-- a connection on hold is ready, and its event stays
on_hold : next_turn (λ conn. true) 2 (script.Ended 7 ∷ []) ≡ record { event = Ready 7; left = script.Ended 7 ∷ [] }
unfolding next_turn
on_hold = refl

-- a journal of two connections
two_connections : List Item
two_connections =
    Heard (Opened 2) ∷ Taken 2 (48 ∷ []) ∷ Heard (Opened 1) ∷ Held 2 ∷ Taken 1 (49 ∷ []) ∷ Later 2 ∷ Taken 2 (50 ∷ 51 ∷ []) ∷ HungUp 1 ∷ []

taken_of_two : taken_of 2 two_connections ≡ 48 ∷ 50 ∷ 51 ∷ []
unfolding two_connections taken_of taken_at
taken_of_two = refl

taken_of_one : taken_of 1 two_connections ≡ 49 ∷ []
unfolding two_connections taken_of taken_at
taken_of_one = refl

one_is_hung_up : is_hung_up 1 two_connections ≡ true
unfolding two_connections is_hung_up hangs_up
one_is_hung_up = refl

two_is_held : is_held 2 two_connections ≡ true
unfolding two_connections is_held hold_after_all hold_after
two_is_held = refl

opened_in_order : opened_by two_connections ≡ 2 ∷ 1 ∷ []
unfolding two_connections opened_by
opened_in_order = refl

heard_in_order : heard two_connections ≡ Opened 2 ∷ Opened 1 ∷ []
unfolding two_connections heard
heard_in_order = refl

-- what was stored between other items
stored_in_order : stored_of (Stored (48 ∷ 49 ∷ []) ∷ Taken 1 (7 ∷ []) ∷ Stored (50 ∷ []) ∷ Held 1 ∷ []) ≡ 48 ∷ 49 ∷ 50 ∷ []
unfolding stored_of stored_at
stored_in_order = refl

-- a hold ends with a release, and with a hang-up
released : is_held 1 (Held 1 ∷ Released 2 ∷ Released 1 ∷ []) ≡ false
unfolding is_held hold_after_all hold_after
released = refl

hung_up : is_held 1 (Held 1 ∷ HungUp 1 ∷ []) ≡ false
unfolding is_held hold_after_all hold_after
hung_up = refl

-- numbers in rising order
three_numbers : rising (3 ∷ 1 ∷ 2 ∷ []) ≡ 1 ∷ 2 ∷ 3 ∷ []
unfolding rising rising_after put_rising are_above
three_numbers = refl

-- the line of the octet after two line feeds, and of the first octet
third_line : line_past (97 ∷ 10 ∷ 10 ∷ []) ≡ 3
third_line = refl

first_line : line_past [] ≡ 1
first_line = refl

-- the second of two files
second_file : file_of (98 ∷ []) ((97 ∷ [], 1 ∷ []) ∷ (98 ∷ [], 2 ∷ []) ∷ []) ≡ Some (2 ∷ [])
unfolding file_of
second_file = refl

no_file : file_of (99 ∷ []) ((97 ∷ [], 1 ∷ []) ∷ []) ≡ None
unfolding file_of
no_file = refl
