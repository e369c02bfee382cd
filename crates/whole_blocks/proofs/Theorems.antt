-- What crates above may cite of texts of blocks.
pub use Rattle.whole_blocks.proofs.laws.FrontLemmas.{whole-tail}
pub use Rattle.whole_blocks.proofs.laws.TornLemmas.{whole-cut, whole-all}
