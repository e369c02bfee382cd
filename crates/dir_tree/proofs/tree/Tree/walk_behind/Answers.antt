-- What is kept of all entries is no more than they are.
use Rattle.dir_tree.proofs.walk.AfterLemmas.{kept_fits}
use Rattle.dir_tree.proofs.tree.Tree.walk_behind.Goals as goal

pub returns-in-One-clause-fits : goal.returns-in-One-clause-fits
returns-in-One-clause-fits c = kept_fits _ _ c.args.self.now c.walk_after.ensures.exact c.entries_form_a_tree.ensures.exact.tree.fits

pub returns-in-Sub-clause-fits : goal.returns-in-Sub-clause-fits
returns-in-Sub-clause-fits c = kept_fits _ _ c.args.self.now c.walk_after-in-Sub.ensures.exact c.entries_form_a_tree.ensures.exact.tree.fits
