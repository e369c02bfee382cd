-- What crates above may cite of files that are told and accepted.
pub use Rattle.command_files.proofs.loading.AcceptLemmas.{known_read, both_in, both_fail, good_not_refused, one_entries, good_not_bad, one_events, requests_not_bad, one_asks, HoldsIn-weaker, HoldsIn-fails, FailsIn-weaker, IsTold-weaker}
pub use Rattle.command_files.proofs.loading.BesideLemmas.{beside_read, beside_not_bad, one_left, loaded_from, told_from, data_loaded, file_loaded, changes_loaded, file_stays, changes_stay, data_stays}
pub use Rattle.command_files.proofs.loading.ChangeLemmas.{LoadsTree-read, LoadsTree-unread, LoadsFile-good}
