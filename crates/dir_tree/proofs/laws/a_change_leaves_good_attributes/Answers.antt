use Rattle.dir_tree.proofs.laws.GoodLaws.{good-with_value, good-without_value, good-without_kind}
use Rattle.dir_tree.proofs.laws.SetLemmas.{good-with_values}
use Rattle.dir_tree.proofs.laws.a_change_leaves_good_attributes.Goals as goal

pub returns : goal.returns
returns c = record {
  with_value = good-with_value;
  with_values = good-with_values;
  without_value = good-without_value;
  without_kind = good-without_kind;
}
