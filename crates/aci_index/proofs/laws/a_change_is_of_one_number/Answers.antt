-- By the lemmas.
use Rattle.aci_index.proofs.laws.RowLemmas.{change-put, change-taken, change-replaced}
use Rattle.aci_index.proofs.laws.a_change_is_of_one_number.Goals as goal

pub returns : goal.returns
returns c = record { put = change-put; taken = change-taken; replaced = change-replaced }
