-- The laws are proved of the definitions.
use Rattle.aci_laws.proofs.laws.DeepLemmas.{read_item-IsTextOf, read_subtree-IsTextOf}
use Rattle.aci_laws.proofs.laws.ValueLemmas.{IsTextOf-unique}
use Rattle.aci_laws.proofs.laws.a_text_is_read_as_its_one_value.Goals as goal

pub returns : goal.returns
returns c = record { one = IsTextOf-unique; subtrees = read_subtree-IsTextOf; items = read_item-IsTextOf }
