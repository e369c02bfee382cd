-- What the crates above may cite.
-- queues and what closes, by number
pub use Rattle.session_model.proofs.laws.KeptLemmas.{queue_in, closing_in, queue_of_is, closing_of_is, kept_of-number, kept_of-changed, number-changed, kept_of-forgotten, kept_of-append}
-- octets taken of a queue keep what is held true to its sessions
pub use Rattle.session_model.proofs.laws.KeepingLemmas.{Keeps-taken, length-kept}
-- what is said to a stream, message by message
pub use Rattle.session_model.proofs.laws.SpeechLemmas.{one_later, speech-whole, speech-more, speech-bad, speech-cut}
-- and to the front of one
pub use Rattle.session_model.proofs.laws.FrontLemmas.{speech-front_cut, speech-front_closed, answered-front_closed}
-- octets and messages, however they are told apart
pub use Rattle.session_model.proofs.laws.JoinedLemmas.{talk-append, pieces-join}
-- what each answer keeps true of a tree, through all steps, at each place, and of each message that is answered
pub use Rattle.session_model.proofs.laws.ClaimLemmas.{step_claim, step_and_hang_up_claim, run_claim, replayed_claim, places_claim, replay_places_claim, connection_claim, replay_connection_claim}
-- what each answer keeps true of a tree and of all changes so far, and of what octets messages are made
pub use Rattle.session_model.proofs.laws.ChangesLemmas.{step_extends, run_extends, replayed_extends}
pub use Rattle.session_model.proofs.laws.OctetsLemmas.{run_brings}
-- from block to block
pub use Rattle.session_model.proofs.laws.TrackLemmas.{works_start}
pub use Rattle.session_model.proofs.laws.EventLemmas.{works_bytes, works_ended, works_idle}
pub use Rattle.session_model.proofs.laws.TurnedLemmas.{opened_leads, works_opened, works_turned, none_taken}
-- from item to item within a block
pub use Rattle.session_model.proofs.laws.ItemLemmas.{works_as, works_taken, works_refused, refused_stands, refused_held, works_released, works_sent, works_hung_up}
pub use Rattle.session_model.proofs.laws.LostLemmas.{lost_leads, lost_hung_up}
-- how many may be on hold
pub use Rattle.session_model.proofs.laws.PlacedLemmas.{refused_fits}
-- what a journal then is
pub use Rattle.session_model.proofs.laws.ReplayLemmas.{works_leads, works_served, works_free, works_replayed, own_steps, events_of}
pub use Rattle.session_model.proofs.laws.StoredLemmas.{works_stored, works_stored_front, stored_before, stored_front, changes-step}
pub use Rattle.session_model.proofs.laws.JournalLemmas.{all_taken-one, was_opened-append, all_taken-both}
pub use Rattle.session_model.proofs.laws.BytesLemmas.{new_messages-are}
pub use Rattle.session_model.proofs.laws.StepLemmas.{with_session-same}
pub use Rattle.session_model.proofs.laws.HeldLemmas.{is_listed-append}
-- what is held stays true to its sessions, from the beginning and at each step that opens no number twice
pub use Rattle.session_model.proofs.laws.SessionLemmas.{Keeps-step, Keeps-start}
-- runs over two trees, and without the steps of others
pub use Rattle.session_model.proofs.laws.AlikeLemmas.{all_append, all_both, AreAlike-over, talk-alike, said-alike}
pub use Rattle.session_model.proofs.laws.RunLemmas.{step-alike, run-alike, replayed-alike}
pub use Rattle.session_model.proofs.laws.AlikeHeldLemmas.{heard-alike, answered-kept}
pub use Rattle.session_model.proofs.laws.PurgeLemmas.{run-purged, replayed-purged, taken-purged}
pub use Rattle.session_model.proofs.laws.ServedLemmas.{served-alike, sound-alike}
-- a number that opens once is new
pub use Rattle.session_model.proofs.laws.OnceLemmas.{run-new, replay-new}
-- what a connection meets at its places
pub use Rattle.session_model.proofs.laws.MeetingLemmas.{run-meets, replay-meets}
-- a piece message by message, and where the next message ends
pub use Rattle.session_model.proofs.laws.PieceLemmas.{run-piece, replay-piece, places-none, places-closed}
pub use Rattle.session_model.proofs.laws.NextLemmas.{completes_next, completes_none, asks_kept, none_asks}
pub use Rattle.session_model.proofs.laws.LeftLemmas.{Keeps-alike, Keeps-hung_up, held_numbers-left}
