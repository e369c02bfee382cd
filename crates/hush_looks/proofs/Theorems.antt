-- What crates above may cite of looks.
pub use Rattle.hush_looks.proofs.laws.DueLemmas.{answer-tree, answer-who, request-none}
pub use Rattle.hush_looks.proofs.laws.StayLemmas.{message-stays, none-stays, closed-stays, opened-stays, ended-stays, hung_up-stays, none-fails}
