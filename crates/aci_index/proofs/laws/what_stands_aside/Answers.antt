-- By the lemmas.
use Rattle.aci_index.proofs.laws.AsideLemmas.{aside-beside, aside-same, aside-under}
use Rattle.aci_index.proofs.laws.what_stands_aside.Goals as goal

pub returns : goal.returns
returns c = record { beside = aside-beside; same = aside-same; under = aside-under }
