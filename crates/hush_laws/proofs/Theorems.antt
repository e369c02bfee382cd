-- What crates above may cite of hushes.
pub use Rattle.hush_laws.proofs.laws.HushLemmas.{first_fault-append, hushed-from_none, none-from_hushed}
pub use Rattle.hush_laws.proofs.laws.TwinLemmas.{twins-from_none, none-from_twins, lists_group_outside-same}
