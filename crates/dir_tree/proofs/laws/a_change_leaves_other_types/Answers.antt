use Rattle.dir_tree.proofs.laws.ValuesLaws.{values_of-put_other, values_of-cut_other, values_of-dropped_other}
use Rattle.dir_tree.proofs.laws.SetLemmas.{values_of-set_other}
use Rattle.dir_tree.proofs.laws.a_change_leaves_other_types.Goals as goal

pub returns : goal.returns
returns c = record {
  put = values_of-put_other;
  set = values_of-set_other;
  cut = λ kind other key attributes good. values_of-cut_other kind other key attributes good.good;
  dropped = values_of-dropped_other;
}
