-- What crates above may cite of binds.
pub use Rattle.op_bind.proofs.laws.UnseenLaw.{bind_answer-without}
