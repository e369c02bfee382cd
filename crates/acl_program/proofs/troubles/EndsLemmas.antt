-- Lemmas on how the program ends once the text of an outcome was to be printed.
use Rattle.std.proofs.Common.{◌≡◌, ℕ, Bool, true, false, List, length, take, Option, Result, Ok, Err, refl, sym, ap, ◌∙◌, subst, if◌then◌else◌, nat_lt}
use Rattle.std.proofs.Math.Seq.{take-length}
use Rattle.command_files.specs.wire_io.declared.answers.NextFault.TheVariants as next
use Rattle.command_files.specs.wire_io.declared.answers.PutFault.{PutFault}
use Rattle.command_files.specs.wire_io.declared.answers.PutFault.TheVariants as put
use Rattle.command_files.specs.wire_io.Pieces.{pieces}
use Rattle.command_files.specs.wire_io.Putting.{appended, PutsAll, PutCause}
use Rattle.session_hub.specs.declared.ended.Ended.TheVariants as ended
use Rattle.session_hub.specs.serve.Loops.{buffer_length}
use Rattle.command_files.specs.declared.loading.Trouble.{Trouble}
use Rattle.command_files.specs.declared.loading.Trouble.TheVariants as trouble
use Rattle.command_files.specs.Outside.{Written}
use Rattle.command_files.specs.Troubles.{trouble_text}
use Rattle.acl_program.specs.declared.status.Status.{Status}
use Rattle.acl_program.specs.declared.status.Status.TheVariants.{Done, Usage, BadData, ShelfFault, SinkFault, LinkFault, TurnsSpent, NoMemory, BadScript, NotProved, StoreFault}
use Rattle.acl_program.specs.Outcomes.{Outcome, NoCommand, NoFile, BadDataLine, BadChangesLine, BadLine, FalseLine, Checked, Dumped, Replayed, Served, Answered, Explained, Sampled, OutOfMemory, text_of, status_of, settled}
use Rattle.acl_program.specs.Troubles.{outcome_of}
use Rattle.acl_program.specs.program.Running.{PutsFront}
use Rattle.acl_program.specs.serve.Serving.{ServeEnd, NotStored, NotBegun, NotOpened, NotServed, LoopEnded, serve_status}
use Rattle.acl_program.specs.program.Playing.{Ends}

-- no outcome has the status of a sink's fault
done_or_spent-not_sink : (stopped : Bool) → SinkFault ≡ (if stopped then Done else TurnsSpent) → ⊥
done_or_spent-not_sink true is = cc
done_or_spent-not_sink false is = cc

serve-not_sink : (end : ServeEnd) → SinkFault ≡ serve_status end → ⊥
serve-not_sink (NotStored call next.Failed) is = cc
serve-not_sink (NotStored call next.NoMemory) is = cc
serve-not_sink NotBegun is = cc
serve-not_sink NotOpened is = cc
serve-not_sink NotServed is = cc
serve-not_sink (LoopEnded ended.Stopped) is = cc
serve-not_sink (LoopEnded ended.TurnsSpent) is = cc
serve-not_sink (LoopEnded ended.LinkFault) is = cc
serve-not_sink (LoopEnded ended.StoreFault) is = cc
serve-not_sink (LoopEnded ended.NoMemory) is = cc

status_of-not_sink : (outcome : Outcome) → SinkFault ≡ status_of outcome → ⊥
unfolding status_of
status_of-not_sink NoCommand is = cc
status_of-not_sink NoFile is = cc
status_of-not_sink (BadDataLine line cause) is = cc
status_of-not_sink (BadChangesLine line cause) is = cc
status_of-not_sink (BadLine file line) is = cc
status_of-not_sink (FalseLine line) is = cc
status_of-not_sink (Checked left) is = cc
status_of-not_sink (Dumped left) is = cc
status_of-not_sink (Replayed events turns dump entries) is = done_or_spent-not_sink (nat_lt (length (pieces buffer_length events)) turns) is
status_of-not_sink (Served asked end) is = serve-not_sink end is
status_of-not_sink (Answered text) is = cc
status_of-not_sink (Explained line cause content) is = cc
status_of-not_sink (Sampled text) is = cc
status_of-not_sink OutOfMemory is = cc

-- the whole text is a front of it
whole_front : (old new : Option (List ℕ)) (text : List ℕ) → new ≡ appended old text → PutsFront old text new
whole_front old new text put = (length text, put ∙ ap (λ front. appended old front) (sym (take-length text)))

-- the whole text was put
pub Ends-whole :
    (outcome : Outcome) (before after : Written) (status : Status)
    → status ≡ status_of outcome → after.put ≡ appended before.put (text_of outcome) → after.faults ≡ before.faults → Ends outcome before status after
Ends-whole outcome before after Done is put stays = record { puts = (is, put); cause = stays }
Ends-whole outcome before after Usage is put stays = record { puts = (is, put); cause = stays }
Ends-whole outcome before after BadData is put stays = record { puts = (is, put); cause = stays }
Ends-whole outcome before after ShelfFault is put stays = record { puts = (is, put); cause = stays }
Ends-whole outcome before after SinkFault is put stays = absurd (status_of-not_sink outcome is)
Ends-whole outcome before after LinkFault is put stays = record { puts = (is, put); cause = stays }
Ends-whole outcome before after TurnsSpent is put stays = record { puts = (is, put); cause = stays }
Ends-whole outcome before after NoMemory is put stays = record { puts = whole_front before.put after.put (text_of outcome) put; cause = stays }
Ends-whole outcome before after BadScript is put stays = record { puts = (is, put); cause = stays }
Ends-whole outcome before after NotProved is put stays = record { puts = (is, put); cause = stays }
Ends-whole outcome before after StoreFault is put stays = record { puts = (is, put); cause = stays }

-- a front of the text was put, and memory ran out
pub Ends-no_memory :
    (outcome : Outcome) (before after : Written) (count : ℕ)
    → after.put ≡ appended before.put (take count (text_of outcome)) → after.faults ≡ before.faults → Ends outcome before NoMemory after
Ends-no_memory outcome before after count put stays = record { puts = (count, put); cause = stays }

Ends-settled :
    (outcome : Outcome) (before after : Written) (answer : Result (Unit {0}) PutFault)
    → PutsAll before.put (text_of outcome) answer after.put → PutCause before.faults after.faults answer → Ends outcome before (settled answer (status_of outcome)) after
unfolding PutsAll PutCause
Ends-settled outcome before after (Ok done) puts cause = Ends-whole outcome before after (status_of outcome) refl puts cause
Ends-settled outcome before after (Err put.Failed) puts cause = record { puts = puts; cause = cause }
Ends-settled outcome before after (Err put.NoMemory) puts cause = Ends-no_memory outcome before after puts.0 puts.1 cause

-- the text was to be put, and how the sink answered
pub Ends-put :
    (outcome : Outcome) (before after : Written) (text : List ℕ) (answer : Result (Unit {0}) PutFault) (wanted status : Status)
    → text ≡ text_of outcome → wanted ≡ status_of outcome → status ≡ settled answer wanted
    → PutsAll before.put text answer after.put → PutCause before.faults after.faults answer → Ends outcome before status after
Ends-put outcome before after text answer wanted status is_text is_wanted is_status puts cause =
    let P : Status → Type 0 = λ ended. Ends outcome before ended after in
    let Q : List ℕ → Type 0 = λ printed. PutsAll before.put printed answer after.put in
    subst P (sym (is_status ∙ ap (λ to_be. settled answer to_be) is_wanted)) (Ends-settled outcome before after answer (subst Q is_text puts) cause)

-- the line of a file that wasn't read is the text of its outcome
pub trouble_text-outcome : (why : Trouble) → trouble_text why ≡ text_of (outcome_of why)
unfolding text_of
trouble_text-outcome trouble.NoFile = refl
trouble_text-outcome (trouble.BadData line cause) = refl
trouble_text-outcome (trouble.BadLine file line) = refl
trouble_text-outcome (trouble.BadChanges line cause) = refl
trouble_text-outcome trouble.NoMemory = refl
