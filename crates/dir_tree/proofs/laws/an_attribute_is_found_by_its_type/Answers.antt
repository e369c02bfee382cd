use Rattle.dir_tree.proofs.laws.ValuesLaws.{values_of-slice_get}
use Rattle.dir_tree.proofs.laws.an_attribute_is_found_by_its_type.Goals as goal

pub returns : goal.returns
returns c = record {
  exact = λ attributes index attribute good. values_of-slice_get attributes index attribute good.distinct;
}
