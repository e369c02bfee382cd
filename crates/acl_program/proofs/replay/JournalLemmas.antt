-- Lemmas on what a journal tells of the connections opened, and on the events that it heard.
use Rattle.std.proofs.Common.{◌≡◌, ℕ, ◌<◌, ◌≤◌, true, List, [], ◌∷◌, ◌++◌, length, refl, sym, ap, ◌∙◌, arith, append_assoc, append-nil, flat_map, Option, None}
use Rattle.command_files.specs.wire_io.declared.journal.Event.{Event}
use Rattle.command_files.specs.wire_io.declared.journal.Event.TheVariants as event
use Rattle.command_files.specs.wire_io.declared.journal.Item.{Item}
use Rattle.command_files.specs.wire_io.declared.journal.Item.TheVariants as item
use Rattle.command_files.specs.wire_io.Journal.{heard, opened_by, was_stopped, stops, taken_of, is_hung_up}
use Rattle.command_files.specs.wire_io.Pieces.{steps_of, step_of}
use Rattle.command_files.specs.wire_io.Rising.{rising}
use Rattle.session_hub.specs.session_model.Journaled.{steps_of as journal_steps, steps_of_events}
use Rattle.session_hub.specs.session_model.Run.{Sessions, State, Open, Closing, TurnedAway, Away, Unopened, Step, Opened, Bytes, Ended, Gone, HungUp, step, hears, run, run_from, start}
use Rattle.session_hub.specs.session_model.Replaying.{is_away, IsReplay}
use Rattle.session_hub.specs.Parties.{DirectoryEntries, Requester}
use Rattle.session_hub.specs.Answering.{rules}
use Rattle.session_hub.specs.Terms.{no_terms}
use Rattle.acl_program.specs.Lines.{line_of, lines_of}
use Rattle.acl_program.specs.program.Playing.{journal_text}

-- the numbers that steps open, in order
abbrev opened_in : List Step → List ℕ
opened_in [] = []
opened_in (Opened c ∷ steps) = c ∷ opened_in steps
opened_in (Bytes c piece cut ∷ steps) = opened_in steps
opened_in (Ended c ∷ steps) = opened_in steps
opened_in (Gone c ∷ steps) = opened_in steps
opened_in (HungUp c ∷ steps) = opened_in steps

-- octets open nothing
opened-hears : (state : State) (u : Sessions DirectoryEntries Requester) (c : ℕ) (piece : List ℕ) (cut : Option ℕ) → (hears (rules no_terms) state u c piece cut).opened ≡ u.opened
opened-hears Open u c piece cut = refl
opened-hears Closing u c piece cut = refl
opened-hears TurnedAway u c piece cut = refl
opened-hears Away u c piece cut = refl
opened-hears Unopened u c piece cut = refl

-- the numbers opened after steps
opened-run_from : (u : Sessions DirectoryEntries Requester) (steps : List Step) → (run_from (rules no_terms) u steps).opened ≡ u.opened ++ opened_in steps
unfolding run_from step
opened-run_from u [] = sym (append-nil u.opened)
opened-run_from u (Opened c ∷ steps) = opened-run_from (step (rules no_terms) u (Opened c)) steps ∙ append_assoc u.opened (c ∷ []) (opened_in steps)
opened-run_from u (Bytes c piece cut ∷ steps) = opened-run_from (step (rules no_terms) u (Bytes c piece cut)) steps ∙ ap (λ front. front ++ opened_in steps) (opened-hears (u.of c).state u c piece cut)
opened-run_from u (Ended c ∷ steps) = opened-run_from (step (rules no_terms) u (Ended c)) steps
opened-run_from u (Gone c ∷ steps) = opened-run_from (step (rules no_terms) u (Gone c)) steps
opened-run_from u (HungUp c ∷ steps) = opened-run_from (step (rules no_terms) u (HungUp c)) steps

-- the numbers that a journal opens are those of its steps
opened_by-steps : (journal : List Item) → opened_in (journal_steps journal) ≡ opened_by journal
unfolding journal_steps opened_by
opened_by-steps [] = refl
opened_by-steps (item.Heard (event.Opened c) ∷ journal) = ap (λ rest. c ∷ rest) (opened_by-steps journal)
opened_by-steps (item.Heard (event.Bytes c octets) ∷ journal) = opened_by-steps journal
opened_by-steps (item.Heard (event.Ended c) ∷ journal) = opened_by-steps journal
opened_by-steps (item.Heard (event.Ready c) ∷ journal) = opened_by-steps journal
opened_by-steps (item.Heard event.Idle ∷ journal) = opened_by-steps journal
opened_by-steps (item.Heard event.Stop ∷ journal) = opened_by-steps journal
opened_by-steps (item.OpenedAt address count done ∷ journal) = opened_by-steps journal
opened_by-steps (item.Taken c octets ∷ journal) = opened_by-steps journal
opened_by-steps (item.Later c ∷ journal) = opened_by-steps journal
opened_by-steps (item.Gone c ∷ journal) = opened_by-steps journal
opened_by-steps (item.Held c ∷ journal) = opened_by-steps journal
opened_by-steps (item.Released c ∷ journal) = opened_by-steps journal
opened_by-steps (item.HungUp c ∷ journal) = opened_by-steps journal
opened_by-steps (item.StoreOpened name done ∷ journal) = opened_by-steps journal
opened_by-steps (item.StoreCut length ∷ journal) = opened_by-steps journal
opened_by-steps (item.Stored octets ∷ journal) = opened_by-steps journal

-- the numbers opened in the sessions of a journal
opened-sessions : (t : DirectoryEntries) (journal : List Item) → (run (rules no_terms) t (journal_steps journal)).opened ≡ opened_by journal
unfolding start
opened-sessions t journal = opened-run_from (start (rules no_terms) t) (journal_steps journal) ∙ opened_by-steps journal

-- pieces that are the same one by one are the same together
flat_map-same : (f g : ℕ → List ℕ) (xs : List ℕ) → ((x : ℕ) → f x ≡ g x) → flat_map f xs ≡ flat_map g xs
flat_map-same f g [] same = refl
flat_map-same f g (x ∷ xs) same = ap (λ front. front ++ flat_map f xs) (same x) ∙ ap (λ rest. g x ++ rest) (flat_map-same f g xs same)

-- the line of a connection whose reply was taken
line-taken : (t : DirectoryEntries) (journal : List Item) → IsReplay (rules no_terms) t (journal_steps journal) journal → (c : ℕ)
    → line_of c (taken_of c journal) (is_hung_up c journal) ≡ line_of c ((run (rules no_terms) t (journal_steps journal)).of c).reply (is_away ((run (rules no_terms) t (journal_steps journal)).of c).state)
line-taken t journal replay c =
    ap (λ sent. line_of c sent (is_hung_up c journal)) (replay.taken c) ∙ ap (λ gone. line_of c ((run (rules no_terms) t (journal_steps journal)).of c).reply gone) (replay.hung_up c)

-- the lines that a replay's journal tells are those of its sessions
pub journal_text-sessions : (t : DirectoryEntries) (journal : List Item) → IsReplay (rules no_terms) t (journal_steps journal) journal → journal_text journal ≡ lines_of (run (rules no_terms) t (journal_steps journal))
unfolding journal_text lines_of
journal_text-sessions t journal replay =
    let u = run (rules no_terms) t (journal_steps journal) in
    let line : ℕ → List ℕ = λ c. line_of c (u.of c).reply (is_away (u.of c).state) in
    flat_map-same (λ c. line_of c (taken_of c journal) (is_hung_up c journal)) line (rising (opened_by journal)) (line-taken t journal replay)
    ∙ ap (λ conns. flat_map line (rising conns)) (sym (opened-sessions t journal))

-- events that bring no script on are no steps of sessions
pub steps_of_events-steps : (events : List Event) → steps_of_events (steps_of events) ≡ steps_of_events events
unfolding steps_of step_of steps_of_events
steps_of_events-steps [] = refl
steps_of_events-steps (event.Opened c ∷ events) = ap (λ rest. Opened c ∷ rest) (steps_of_events-steps events)
steps_of_events-steps (event.Bytes c octets ∷ events) = ap (λ rest. Bytes c octets None ∷ rest) (steps_of_events-steps events)
steps_of_events-steps (event.Ended c ∷ events) = ap (λ rest. Ended c ∷ rest) (steps_of_events-steps events)
steps_of_events-steps (event.Ready c ∷ events) = steps_of_events-steps events
steps_of_events-steps (event.Idle ∷ events) = steps_of_events-steps events
steps_of_events-steps (event.Stop ∷ events) = steps_of_events-steps events

-- no more events bring a script on than were heard
length-steps_of : (events : List Event) → length (steps_of events) ≤ length events
unfolding steps_of step_of
length-steps_of [] = omega arith
length-steps_of (event.Opened c ∷ events) = omega (arith, length-steps_of events)
length-steps_of (event.Bytes c octets ∷ events) = omega (arith, length-steps_of events)
length-steps_of (event.Ended c ∷ events) = omega (arith, length-steps_of events)
length-steps_of (event.Ready c ∷ events) = omega (arith, length-steps_of events)
length-steps_of (event.Idle ∷ events) = omega (arith, length-steps_of events)
length-steps_of (event.Stop ∷ events) = omega (arith, length-steps_of events)

-- and fewer where Stop was heard
pub length-stopped : (journal : List Item) → was_stopped journal ≡ true → length (steps_of (heard journal)) < length (heard journal)
unfolding steps_of step_of heard was_stopped stops
length-stopped [] is = cc
length-stopped (item.Heard (event.Opened c) ∷ journal) is = omega (arith, length-stopped journal is)
length-stopped (item.Heard (event.Bytes c octets) ∷ journal) is = omega (arith, length-stopped journal is)
length-stopped (item.Heard (event.Ended c) ∷ journal) is = omega (arith, length-stopped journal is)
length-stopped (item.Heard (event.Ready c) ∷ journal) is = omega (arith, length-stopped journal is)
length-stopped (item.Heard event.Idle ∷ journal) is = omega (arith, length-stopped journal is)
length-stopped (item.Heard event.Stop ∷ journal) is = omega (arith, length-steps_of (heard journal))
length-stopped (item.OpenedAt address count done ∷ journal) is = length-stopped journal is
length-stopped (item.Taken c octets ∷ journal) is = length-stopped journal is
length-stopped (item.Later c ∷ journal) is = length-stopped journal is
length-stopped (item.Gone c ∷ journal) is = length-stopped journal is
length-stopped (item.Held c ∷ journal) is = length-stopped journal is
length-stopped (item.Released c ∷ journal) is = length-stopped journal is
length-stopped (item.HungUp c ∷ journal) is = length-stopped journal is
length-stopped (item.StoreOpened name done ∷ journal) is = length-stopped journal is
length-stopped (item.StoreCut count ∷ journal) is = length-stopped journal is
length-stopped (item.Stored octets ∷ journal) is = length-stopped journal is
