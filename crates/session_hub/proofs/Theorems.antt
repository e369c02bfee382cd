-- What the crates above may cite.
-- over twins
pub use Rattle.session_hub.proofs.alike.TwinLemmas.{answer-twins, run-twins, replayed-twins, run-purged-twins, replayed-purged-twins, served-twins}
