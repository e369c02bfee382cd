-- What the crates above may cite.
use Rattle.std.proofs.Common.{◌≡◌, ℕ, false, [], refl, arith}
use Rattle.session_model.specs.Rules.{Rules}
use Rattle.session_model.specs.Run.{Sessions, Step, Opened, Bytes, Ended, Gone, HungUp, step, start, held_numbers}
use Rattle.session_model.specs.Kept.{Held, heard}
use Rattle.session_model.specs.Keeping.{Keeps, IsNew}
use Rattle.session_model.proofs.laws.KeepingLemmas.{Keeps-opened, Keeps-left}
use Rattle.session_model.proofs.laws.BytesLemmas.{Keeps-bytes, Keeps-ended}
-- queues and what closes, by number
pub use Rattle.session_model.proofs.laws.KeptLemmas.{queue_in, closing_in, queue_of_is, closing_of_is, kept_of-number, kept_of-changed, number-changed, kept_of-forgotten, kept_of-append}
-- octets taken of a queue keep what is held true to its sessions
pub use Rattle.session_model.proofs.laws.KeepingLemmas.{Keeps-taken, length-kept}
-- what is said to a stream, message by message
pub use Rattle.session_model.proofs.laws.SpeechLemmas.{one_later, speech-whole, speech-more, speech-bad, speech-cut}
-- octets and messages, however they are told apart
pub use Rattle.session_model.proofs.laws.JoinedLemmas.{talk-append, pieces-join}
-- what each answer keeps true of a tree, through all steps
pub use Rattle.session_model.proofs.laws.ClaimLemmas.{run_claim}
-- from block to block
pub use Rattle.session_model.proofs.laws.TrackLemmas.{works_start}
pub use Rattle.session_model.proofs.laws.EventLemmas.{works_bytes, works_ended, works_idle}
pub use Rattle.session_model.proofs.laws.TurnedLemmas.{opened_leads, works_opened, works_turned, none_taken}
-- from item to item within a block
pub use Rattle.session_model.proofs.laws.ItemLemmas.{works_as, works_taken, works_refused, refused_stands, refused_held, works_released, works_sent, works_hung_up}
pub use Rattle.session_model.proofs.laws.LostLemmas.{lost_leads, lost_hung_up}
-- what a journal then is
pub use Rattle.session_model.proofs.laws.ReplayLemmas.{works_leads, works_served, works_free, works_replayed, own_steps, events_of}
pub use Rattle.session_model.proofs.laws.JournalLemmas.{all_taken-one, was_opened-append, all_taken-both}
pub use Rattle.session_model.proofs.laws.BytesLemmas.{new_messages-are}
pub use Rattle.session_model.proofs.laws.StepLemmas.{with_session-same}
pub use Rattle.session_model.proofs.laws.HeldLemmas.{is_listed-append}

-- what is held stays true to its sessions at each step that opens no number twice
pub Keeps-step : {T W : Type 0} (r : Rules T W) (u : Sessions T W) (taken : ℕ → ℕ) (h : Held T W) (s : Step) → IsNew u s → Keeps u taken h →
    Keeps (step r u s) taken (heard r s h)
unfolding heard step
Keeps-step r u taken h (Opened c) new keeps = Keeps-opened r u taken h c keeps new
Keeps-step r u taken h (Bytes c piece cut) new keeps = Keeps-bytes r u taken h c piece cut keeps
Keeps-step r u taken h (Ended c) new keeps = Keeps-ended r u taken h c keeps
Keeps-step r u taken h (Gone c) new keeps = Keeps-left r u taken h c keeps
Keeps-step r u taken h (HungUp c) new keeps = Keeps-left r u taken h c keeps

-- nothing is held before any step
pub Keeps-start : {T W : Type 0} (r : Rules T W) (t : T) (taken : ℕ → ℕ) → ((c : ℕ) → taken c ≡ 0) → Keeps (start r t) taken (record { tree = t; kept = []; was_cut = false; unstored = [] })
unfolding start held_numbers
Keeps-start r t taken none =
    record { tree = refl; numbers = refl; each = λ c. refl; within = λ c. (let zero_c : taken c ≡ 0 = none c in omega arith); unopened = λ c _. (refl, refl) }
