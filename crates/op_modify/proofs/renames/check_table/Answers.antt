-- The target and the new superior decide, whatever the renamed entry is.
use Rattle.std.proofs.Common.{◌∙◌, sym}
use Rattle.dir_tree.specs.tree.Numbered.{entries_of}
use Rattle.op_modify.proofs.renames.TableLemmas.{renamed-stop}
use Rattle.op_modify.proofs.renames.check_table.Goals as goal

pub returns-in-Some : goal.returns-in-Some
returns-in-Some g c = record {
  ok = renamed-stop (entries_of (g.D.Dir.rows c.args.target.now.asking.now.dir.now)) c.args.target.now.asking.now.who.now c.args.renaming.now c.args.target.now.entry.now _ c.in-Some.refusal
      (sym c.in_ok-refusal.ensures.ok ∙ c.in-Some.is);
}
