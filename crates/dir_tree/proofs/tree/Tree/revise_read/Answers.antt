-- An entry that has the name is not refused.
use Rattle.dir_tree.proofs.replace.ReviseLemmas.{may_revise, none_revised}
use Rattle.dir_tree.proofs.tree.Tree.revise_read.Goals as goal

pub change_here-requires-clause-may : goal.change_here-requires-clause-may
change_here-requires-clause-may g c =
    rw c.fit.ensures.exact (may_revise c.args.no.0 c.args.entry.name c.args.self.now c.entries_form_a_tree.ensures.exact c.requires.named)

pub returns-clause-allowed : goal.returns-clause-allowed
returns-clause-allowed g c = none_revised c.args.no.0 c.args.entry.name c.args.self.now c.entries_form_a_tree.ensures.exact c.requires.named
