-- What crates above may cite of the decision.
pub use Rattle.acdf_filters.proofs.laws.DecisionLaw.{left_by_precedence-greatest, left_by_class-least, standing-fold, decided-fold}
pub use Rattle.acdf_filters.proofs.laws.KeyLemmas.{highest-greatest, lowest-at}
pub use Rattle.acdf_filters.proofs.laws.UnseenLaw.{granted-without, granted_after-without, granted_new-without, named-without, apart}
pub use Rattle.acdf_filters.proofs.weighing.WeighLemmas.{weighed-below}
