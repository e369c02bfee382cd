-- The keys of the map are distinct.
use Rattle.dir_tree.proofs.entry.GoodLemmas.{distinct-kinds}
use Rattle.dir_tree.proofs.entry.Entry.is_good.Goals as goal

pub returns : goal.returns
returns c = record {
  good =
      rw (← c.self.view_is)
      (record {
        good = c.self.invariant;
        distinct = distinct-kinds c.self.inside.attributes.entries c.len-count.ensures.unique;
      });
}
