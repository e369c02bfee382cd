-- What crates above may cite of entries.
pub use Rattle.dir_tree.proofs.laws.ValuesLaws.{values_of-slice_get, values_of-put_value, values_of-put_other, values_of-cut, values_of-cut_other, values_of-dropped, values_of-dropped_other}
pub use Rattle.dir_tree.proofs.laws.GoodLaws.{good-with_value, good-without_value, good-without_kind}
pub use Rattle.dir_tree.proofs.laws.SetLemmas.{values_of-set_in, values_of-set_other, good-with_values}
pub use Rattle.dir_tree.proofs.classes.ClassLemmas.{oids_of-own}
