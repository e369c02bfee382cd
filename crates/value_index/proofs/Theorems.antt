-- What crates above may cite of an index of values.
pub use Rattle.value_index.proofs.index.PostingLemmas.{IsAdded-posted, IsAdded-stay, IsAdded-others, IsDropped-others, IsDropped-kept}
pub use Rattle.value_index.proofs.laws.ChangeLaws.{indexed-put_entry, indexed-without, indexed-replaced, indexed-same}
pub use Rattle.value_index.proofs.laws.HolderLaws.{holder-posted}
