use Rattle.dir_tree.proofs.laws.ValuesLaws.{values_of-put_value, values_of-cut, values_of-dropped}
use Rattle.dir_tree.proofs.laws.SetLemmas.{values_of-set_in}
use Rattle.dir_tree.proofs.laws.a_change_is_of_one_type.Goals as goal

pub returns : goal.returns
returns c = record {
  put = values_of-put_value;
  set = values_of-set_in;
  cut = λ kind key attributes good. values_of-cut kind key attributes good.good good.distinct;
  dropped = values_of-dropped;
}
