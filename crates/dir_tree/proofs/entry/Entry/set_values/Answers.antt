-- The attributes with the values are good.
use Rattle.dir_tree.proofs.laws.SetLemmas.{good-set_in}
use Rattle.dir_tree.proofs.entry.Entry.set_values.Goals as goal

pub invariant_of-self-2 : goal.invariant_of-self-2
invariant_of-self-2 c =
    rw (c.in_ok-set_values.ensures.ok, c.in_ok-values.ensures.ok)
    (good-set_in _ _ _ c.requires.filled c.requires.distinct c.self.invariant)
