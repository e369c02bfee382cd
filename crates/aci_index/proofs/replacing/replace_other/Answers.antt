-- What was made ready leaves all lists.
use Rattle.aci_index.proofs.inserting.HeldLemmas.{held-same}
use Rattle.aci_index.proofs.replacing.replace_other.Goals as goal

pub replace_reached-requires-clause-held : goal.replace_reached-requires-clause-held
replace_reached-requires-clause-held c = held-same c.args.tree.now c.args.held.now c.make_all_ready.new.held c.requires.held c.in-Ok.ensures.stay

pub returns-in-Err-clause-held : goal.returns-in-Err-clause-held
returns-in-Err-clause-held c = held-same c.args.tree.now c.args.held.now c.make_all_ready.new.held c.requires.held c.in-Err.ensures.stay
