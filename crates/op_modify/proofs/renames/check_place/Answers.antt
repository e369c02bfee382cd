-- The renamed entry decides.
use Rattle.std.proofs.Common.{◌∙◌, Some, None, sym}
use Rattle.dir_tree.specs.tree.Numbered.{entries_of}
use Rattle.op_modify.proofs.renames.TableLemmas.{renamed-past}
use Rattle.op_modify.proofs.renames.check_place.Goals as goal

-- it is refused
pub returns-in-Some : goal.returns-in-Some
returns-in-Some g c = record {
  ok = renamed-past (entries_of (g.D.Dir.rows c.args.target.now.asking.now.dir.now)) c.args.target.now.asking.now.who.now c.args.renaming.now c.args.target.now.entry.now c.args.entry (Some c.in-Some.refusal)
      c.requires.free (sym c.in_ok-refusal.ensures.ok ∙ c.in-Some.is);
}

-- it isn't
pub returns-in-None : goal.returns-in-None
returns-in-None g c = record {
  ok = record {
    target = c.args.target.now.entry.now;
    found = c.args.target.now.found;
    leaves = renamed-past (entries_of (g.D.Dir.rows c.args.target.now.asking.now.dir.now)) c.args.target.now.asking.now.who.now c.args.renaming.now c.args.target.now.entry.now c.args.entry None
        c.requires.free (sym c.in_ok-refusal.ensures.ok ∙ c.in-None.is);
  };
}
