-- The laws are proved of the definitions.
use Rattle.value_index.proofs.laws.ChangeLaws.{indexed-put_entry, indexed-without, indexed-replaced, indexed-same}
use Rattle.value_index.proofs.laws.an_index_stays_one.Goals as goal

pub returns : goal.returns
returns c = record { put = indexed-put_entry; taken = indexed-without; replaced = indexed-replaced; same = indexed-same }
