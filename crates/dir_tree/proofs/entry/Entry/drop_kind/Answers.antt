-- The attributes that are left are good.
use Rattle.base_laws.proofs.Theorems.{all_filter}
use Rattle.dir_tree.proofs.entry.Entry.drop_kind.Goals as goal

pub invariant_of-self : goal.invariant_of-self
invariant_of-self c = rw c.drop_kind.ensures.exact (all_filter _ _ _ c.self.invariant)
