-- The copy is put behind all others.
use Rattle.std.proofs.Common.{ap, ◌∙◌}
use Rattle.dir_tree.specs.tree.Numbered.{entries_of}
use Rattle.event_replay.proofs.tree_copy.CopyLemmas.{put_entry-copied}
use Rattle.event_replay.proofs.tree_copy.append.Goals as goal

pub returns-in-Ok : goal.returns-in-Ok
returns-in-Ok c = record {
  ok = ap entries_of c.in-Ok.ensures.exact.0.left
      ∙ put_entry-copied _ c.in_ok-copy.field-0 c.args.entry.now c.args.copy.now c.in_ok-copy.ensures.ok c.requires.last;
}
