-- The laws are proved of the definitions.
use Rattle.aci_laws.proofs.laws.DeepLemmas.{subtree-deep, aci_item-deep, read_subtree-deep, read_item-deep}
use Rattle.aci_laws.proofs.laws.deep_texts_are_none.Goals as goal

pub returns : goal.returns
returns c = record { subtrees = subtree-deep; items = aci_item-deep; subtree_texts = read_subtree-deep; item_texts = read_item-deep }
