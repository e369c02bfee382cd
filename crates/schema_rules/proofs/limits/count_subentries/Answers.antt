-- The tree keeps the number of each access control subentry.
use Rattle.dir_tree.proofs.TreeTheorems.{count-numbers}
use Rattle.schema_rules.proofs.limits.count_subentries.Goals as goal

pub returns : goal.returns
returns c = record {
  exact = count-numbers c.access_subentries.result.now c.args.tree.now c.access_subentries.ensures.exact;
}
