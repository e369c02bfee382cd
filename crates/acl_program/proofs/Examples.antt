-- The definitions, computed on known cases.
use Rattle.std.proofs.Common.{◌≡◌, true, false, List, [], ◌∷◌, Some, None, codes, refl}
use Rattle.std.specs.Fmt.{digits}
use Rattle.command_files.specs.hex.Hex.{encode_with}
use Rattle.command_files.specs.script_text.declared.event.ScriptEvent.{ScriptEvent}
use Rattle.command_files.specs.script_text.declared.event.ScriptEvent.TheVariants.{Opened, Ended}
use Rattle.command_files.specs.wire_io.Pieces.{pieces_of, pieces}
use Rattle.command_files.specs.wire_io.Rising.{are_above, put_rising, rising_after, rising}
use Rattle.session_hub.specs.session_model.Run.{start, step, held_numbers}
use Rattle.session_hub.specs.session_model.Journaled.{steps_of_events}
use Rattle.session_hub.specs.session_model.Replaying.{replayed_from}
use Rattle.session_hub.specs.Answering.{rules}
use Rattle.session_hub.specs.declared.ended.Ended.TheVariants as ended
use Rattle.acl_program.specs.declared.status.Status.TheVariants.{Done, TurnsSpent, LinkFault, StoreFault}
use Rattle.acl_program.specs.Lines.{line_of, lines_of, replay_text}
use Rattle.command_files.specs.declared.changing.ChangesCause.TheVariants.{Digest}
use Rattle.command_files.specs.loading.Changing.{changed, unchanged}
use Rattle.command_files.specs.declared.loading.SecondFile.TheVariants.{Script, Requests, Certificate}
use Rattle.command_files.specs.ldif_load.load.DataFile.{OfLine}
use Rattle.command_files.specs.ldif_records.declared.types.LineCause.TheVariants.{Syntax}
use Rattle.data_advice.specs.Advice.{advice_text}
use Rattle.acl_program.specs.Answering.{why_text}
use Rattle.acl_program.specs.Outcomes.{BadChangesLine, BadLine, Checked, Explained, FalseLine, Replayed, Served, text_of, status_of, number_of}
use Rattle.command_files.specs.wire_io.declared.answers.NextFault.TheVariants.{Failed}
use Rattle.acl_program.specs.serve.Storing.{ServeAsked, OpenStore, CutStore, serve_asked}
use Rattle.acl_program.specs.serve.Serving.{NotOpened, NotStored, LoopEnded, changes_read}

-- a line with octets, with none, and of a connection that was hung up
some_sent : line_of 258 (0x30 ∷ 0x0c ∷ 0xff ∷ []) false ≡ codes "258 300cff\n"
unfolding line_of encode_with digits
some_sent = refl

none_sent : line_of 1 [] false ≡ codes "1 -\n"
unfolding line_of digits
none_sent = refl

none_closed : line_of 4294967295 [] true ≡ codes "4294967295 - closed\n"
unfolding line_of digits
none_closed = refl

-- a bad line
bad_line : text_of (BadLine Script 12) ≡ codes "bad script line 12\n"
unfolding text_of digits
bad_line = refl

bad_request : text_of (BadLine Requests 3) ≡ codes "bad request line 3\n"
unfolding text_of digits
bad_request = refl

bad_certificate : text_of (BadLine Certificate 13) ≡ codes "bad certificate line 13\n"
unfolding text_of digits
bad_certificate = refl

bad_changes : text_of (BadChangesLine 2 Digest) ≡ codes "bad changes line 2: digest\n"
unfolding text_of digits
bad_changes = refl

-- a data file that is refused, of which is asked why, and what is noted of no entries
explained_status : number_of (status_of (Explained 1 (OfLine Syntax) [])) ≡ 3
unfolding status_of
explained_status = refl

noted : why_text [] ≡ codes "ok 0 0\nnote: no entry is an access control specific point (administrativeRole): nobody may do anything\n"
unfolding why_text advice_text digits
noted = refl

-- a tree without entries, and one to which three changes were applied before a torn end of 17 octets
checked : text_of (Checked (unchanged [])) ≡ codes "ok 0 0\n"
unfolding text_of digits
checked = refl

checked_changed : text_of (Checked (changed [] 3 340 17)) ≡ codes "ok 0 0\nchanges 3 torn 17\n"
unfolding text_of digits
checked_changed = refl

-- and one that is false
false_line : text_of (FalseLine 9) ≡ codes "false line 9\n"
unfolding text_of digits
false_line = refl

-- two connections, opened out of order, of which one ends
two_events : List ScriptEvent
two_events = Opened 2 ∷ Opened 1 ∷ Ended 2 ∷ []

two_lines : replay_text [] two_events 4 ≡ codes "1 -\n2 - closed\n"
unfolding two_events replay_text lines_of line_of pieces pieces_of steps_of_events replayed_from start step held_numbers rising rising_after put_rising are_above rules digits
two_lines = refl

-- the same for fewer turns
one_line : replay_text [] two_events 1 ≡ codes "2 -\n"
unfolding two_events replay_text lines_of line_of pieces pieces_of steps_of_events replayed_from start step held_numbers rising rising_after put_rising are_above rules digits
one_line = refl

-- Stop is the event after the last piece
four_turns : status_of (Replayed two_events 4 false []) ≡ Done
unfolding two_events status_of pieces pieces_of
four_turns = refl

three_turns : status_of (Replayed two_events 3 true []) ≡ TurnsSpent
unfolding two_events status_of pieces pieces_of
three_turns = refl

-- serving whose turns are spent, and one whose link doesn't open
local : ServeAsked
local = serve_asked (record { data_file = codes "d"; address = codes "127.0.0.1:3890"; sessions = 2; turns = 10; queues = 256; idle = 0; limit = 0; changes = None }) [] (unchanged [])

-- the same with a file of three changes and a torn end of 17 octets
stored : ServeAsked
stored = serve_asked (record { data_file = codes "d"; address = codes "127.0.0.1:3890"; sessions = 2; turns = 10; queues = 256; idle = 0; limit = 0; changes = Some (codes "c") }) [] (changed [] 3 340 17)

spent_serving : text_of (Served local (LoopEnded ended.TurnsSpent)) ≡ codes "listening 127.0.0.1:3890\nturns spent\n"
unfolding local text_of
spent_serving = refl

failed_serving : text_of (Served local NotOpened) ≡ codes "link fault\n"
unfolding local text_of
failed_serving = refl

failed_status : status_of (Served local NotOpened) ≡ LinkFault
unfolding local status_of
failed_status = refl

-- serving that stores changes tells of them beside its address, whatever ends it; a fault of the store has a line and a status
stored_serving : text_of (Served stored (LoopEnded ended.StoreFault)) ≡ codes "changes 3 torn 17\nlistening 127.0.0.1:3890\nstore fault\n"
unfolding stored text_of digits
stored_serving = refl

stored_status : status_of (Served stored (LoopEnded ended.StoreFault)) ≡ StoreFault
unfolding stored status_of
stored_status = refl

uncut_serving : text_of (Served stored (NotStored CutStore Failed)) ≡ codes "store fault\n"
unfolding stored text_of
uncut_serving = refl

uncut_status : number_of (status_of (Served stored (NotStored CutStore Failed))) ≡ 11
unfolding stored status_of
uncut_status = refl

-- the file of changes isn't read where its store failed to open
unopened_reads : changes_read (NotStored OpenStore Failed) (Some (codes "c")) ≡ None
unopened_reads = refl
