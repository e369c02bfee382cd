-- The law is proved of the definitions.
use Rattle.hush_laws.proofs.laws.TwinLemmas.{lists_group_outside-same}
use Rattle.hush_laws.proofs.laws.the_same_items_list_the_same_groups.Goals as goal

pub returns : goal.returns
returns c = record { exact = lists_group_outside-same }
