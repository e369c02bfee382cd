use Rattle.std.proofs.Common.{None}
use Rattle.dir_tree.specs.tree.Numbered.{entries_of}
use Rattle.aci_item.specs.Rules.{broken_rule}
use Rattle.ldif_load.proofs.load.PlaceLemmas.{full_breaks}
use Rattle.ldif_load.proofs.load.crowded_out.Goals as goal

-- a full tree breaks the rule of limits
pub returns-in-Ok : goal.returns-in-Ok
returns-in-Ok c = record {
  bad = absurd (full_breaks (entries_of c.args.tree.now) c.args.entry.now c.requires c.in-Ok.ensures.ok);
}

-- the rule that is broken
pub returns-in-Err : goal.returns-in-Err
returns-in-Err c = record {
  bad = c.fault_of.ensures.exact c.args.entry.now (broken_rule None (entries_of c.args.tree.now) c.args.entry.now) c.in-Err.ensures.rule;
}
