-- What crates above may cite of events as they are played.
pub use Rattle.event_replay.proofs.laws.OnceLemmas.{openings-played}
pub use Rattle.event_replay.proofs.played.PlayLemmas.{steps-events, steps-played}
