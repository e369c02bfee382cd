-- What crates above may cite of the texts of subtrees, and of their parts.
pub use Rattle.subtree_spec.proofs.laws.PartPrints.{name_prints, name_is_good}
pub use Rattle.subtree_spec.proofs.printing.PrintedLemmas.{put_next}
pub use Rattle.subtree_spec.proofs.laws.SubtreePrints.{subtree_prints, there_prints}
pub use Rattle.subtree_spec.proofs.laws.SubtreeOnly.{subtree_is_good}
pub use Rattle.subtree_spec.proofs.reading.SubtreeNested.{subtree_is_shallow}
