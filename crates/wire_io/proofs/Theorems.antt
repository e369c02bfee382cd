-- What crates above may cite: how the events heard follow a script, what each answer of a link says,
-- what journals say after one more item, and what was put over several calls.
pub use Rattle.wire_io.proofs.laws.PiecesLemmas.{pieces-first, pieces-empty, steps_of-append, Plays-none, Plays-trans, Plays-turn}
pub use Rattle.wire_io.proofs.link.LinkLemmas.{heard-append, NextPlays-ok, NextPlays-told, NextPlays-says, NextPlays-stop, Plays-heard}
unfoldable pub use Rattle.wire_io.proofs.link.LinkLemmas.{SaysOf}
pub use Rattle.wire_io.proofs.link.LinkLemmas.{LinkCause-given, LinkCause-starved, WriteCause-never_falls, WriteCause-gone, WriteCause-never_later, WriteCause-never_gone}
pub use Rattle.wire_io.proofs.link.LinkLemmas.{RefusalCause-never_falls, RefusalCause-starved, WriteRefusal-never_falls, WriteRefusal-starved, NoteRefusal-never_falls, NoteRefusal-starved}
pub use Rattle.wire_io.proofs.journal.JournalLemmas.{taken_of-push, stored_of-push, is_hung_up-push, was_opened-push, was_stopped-push, is_held-push, opened_by-opened, opened_by-other, hold_after_all-push}
pub use Rattle.wire_io.proofs.writing.PuttingLemmas.{appended-none, appended-appended, PutsAll-nothing, PutsAll-no_memory, PutsAll-cut, PutsAll-then, PutCause-nothing, PutCause-no_memory, PutCause-then, PutCause-done, PutCause-refused, PutCause-more}
pub use Rattle.wire_io.proofs.script_link.PlayableLemmas.{was_opened-quiet}
