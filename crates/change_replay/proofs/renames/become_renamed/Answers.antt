-- The superior is an entry or not.
use Rattle.std.proofs.Common.{◌∙◌, sym}
use Rattle.dir_tree.specs.tree.Numbered.{entries_of}
use Rattle.change_replay.proofs.renames.RenameSteps.{below-known, become-nowhere, become-under}
use Rattle.change_replay.proofs.renames.become_renamed.Goals as goal

-- it is
pub returns-in_ok-moved-in-Some : goal.returns-in_ok-moved-in-Some
returns-in_ok-moved-in-Some c =
    let entries = entries_of c.args.tree.now in
    let alone = below-known entries c.args.target.entry.now _ c.has_below.result c.has_below.ensures.exact c.requires.found c.if-has_below.false in
    record {
      exact = become-under entries c.args.renaming.now c.args.target.entry.now c.in-Some.superior.now _
          (sym c.is_unmovable.ensures.exact ∙ c.if-is_unmovable.false) alone c.in-Some.ensures.exact c.in_ok-moved-in-Some.ensures.ok;
    }

-- it isn't
pub returns-in-None : goal.returns-in-None
returns-in-None c =
    let entries = entries_of c.args.tree.now in
    let alone = below-known entries c.args.target.entry.now _ c.has_below.result c.has_below.ensures.exact c.requires.found c.if-has_below.false in
    record {
      exact = become-nowhere entries c.args.renaming.now c.args.target.entry.now
          (sym c.is_unmovable.ensures.exact ∙ c.if-is_unmovable.false) alone c.in-None.ensures.exact;
    }
