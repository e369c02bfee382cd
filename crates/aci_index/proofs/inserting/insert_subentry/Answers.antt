-- What was made leaves all lists.
use Rattle.aci_index.proofs.inserting.HeldLemmas.{held-same}
use Rattle.aci_index.proofs.inserting.insert_subentry.Goals as goal

pub insert_around-requires-clause-held : goal.insert_around-requires-clause-held
insert_around-requires-clause-held c = held-same c.args.tree.now c.args.held.now c.make_lists.new.held c.requires.held c.in-Ok.ensures.stay

pub returns-in-Err-clause-held : goal.returns-in-Err-clause-held
returns-in-Err-clause-held c = held-same c.args.tree.now c.args.held.now c.make_lists.new.held c.requires.held c.in-Err.ensures.stay
