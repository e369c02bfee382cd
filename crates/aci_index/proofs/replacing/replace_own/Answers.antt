-- What was made ready leaves all lists.
use Rattle.aci_index.proofs.inserting.HeldLemmas.{held-same}
use Rattle.aci_index.proofs.replacing.replace_own.Goals as goal

pub put_in_place-requires-clause-held : goal.put_in_place-requires-clause-held
put_in_place-requires-clause-held c = held-same c.args.tree.now c.args.held.now c.make_ready.new.held c.requires.held c.in-Ok.ensures.stay

pub returns-in-Err-clause-held : goal.returns-in-Err-clause-held
returns-in-Err-clause-held c = held-same c.args.tree.now c.args.held.now c.make_ready.new.held c.requires.held c.in-Err.ensures.stay
