use Rattle.dir_tree.specs.tree.Numbered.{entries_of}
use Rattle.aci_item.specs.Rules.{broken_rule}
use Rattle.std.proofs.Common.{None}
use Rattle.ldif_load.proofs.load.ruled.Goals as goal

-- the rule that is broken
pub returns-in-Err-clause-bad : goal.returns-in-Err-clause-bad
returns-in-Err-clause-bad c = c.fault_of.ensures.exact c.args.entry.now (broken_rule None (entries_of c.args.tree.now) c.args.entry.now) c.in-Err.ensures.rule
