-- What crates above may cite of areas and of subentries in force.
pub use Rattle.admin_scope.proofs.laws.PrefixLemmas.{prefix_chain}
pub use Rattle.admin_scope.proofs.laws.WithoutLemmas.{areas-without, in_force-without}
pub use Rattle.admin_scope.proofs.subentries.FindLemmas.{numbers_by-same, all_numbers_by}
pub use Rattle.admin_scope.proofs.laws.TakenLemmas.{areas-taken, in_force-taken}
pub use Rattle.admin_scope.proofs.subentries.FrontLemmas.{longer_front, length-named, front-named, named-front, same_fronts}
