-- By the theorems.
use Rattle.dn_names.proofs.Theorems.{drop-join, is_prefix_of-join, join-drop, IsGoodName-append, IsGoodName-drop}
use Rattle.dn_names.proofs.laws.cutting_undoes_joining.Goals as goal

pub returns : goal.returns
returns c = record { prefix = is_prefix_of-join; local = drop-join; join = join-drop; good_join = IsGoodName-append; good_local = IsGoodName-drop }
