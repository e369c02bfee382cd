-- The attributes that are left with values are good.
use Rattle.dir_tree.proofs.entry.GoodLemmas.{good-cut_attributes}
use Rattle.dir_tree.proofs.entry.Entry.drop_value.Goals as goal

pub invariant_of-self : goal.invariant_of-self
invariant_of-self c =
    rw (c.drop_empty.ensures.exact, c.cut_values.ensures.exact)
    (good-cut_attributes c.args.kind.0 c.args.key.now _ c.self.invariant)
