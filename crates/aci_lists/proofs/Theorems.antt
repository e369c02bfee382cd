-- What crates above may cite of what is kept.
pub use Rattle.aci_lists.proofs.changing.DropLemmas.{lists_at-set_other, lists_at-set_same}
pub use Rattle.aci_lists.proofs.changing.RemovalLemmas.{held-without}
-- of the order of tuples
pub use Rattle.aci_lists.proofs.ordering.OrderLemmas.{highest_first-ordered}
pub use Rattle.aci_lists.proofs.weighing.WeighLemmas.{fold-highest_first}
