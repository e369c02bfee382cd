-- The tree keeps the number of each access control subentry.
use Rattle.command_files.proofs.dir_tree_proofs.TreeTheorems.{count-numbers}
use Rattle.acl_program.proofs.data.count_subentries.Goals as goal

pub returns : goal.returns
returns c = record {
  exact = count-numbers c.access_subentries.result.now c.args.tree.now c.access_subentries.ensures.exact;
}
