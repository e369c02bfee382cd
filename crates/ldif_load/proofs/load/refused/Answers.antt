use Rattle.std.proofs.Common.{Some, ap, ◌∙◌}
use Rattle.dir_tree.specs.tree.Numbered.{entries_of}
use Rattle.ldif_load.proofs.load.PlaceLemmas.{placed-taken, placed-alone, placed-fault, MayJoin-full, is_full}
use Rattle.ldif_load.proofs.load.refused.Goals as goal

-- an entry has the name
pub returns-in-NameTaken : goal.returns-in-NameTaken
returns-in-NameTaken c = record {
  exact = rw c.bad_at.ensures.exact
      (placed-taken (entries_of c.args.tree.now) c.args.line c.args.entry.now (c.requires ∙ ap Some c.in-NameTaken.is));
}

-- the superior isn't there
pub returns-in-NoSuperior : goal.returns-in-NoSuperior
returns-in-NoSuperior c = record {
  exact = rw c.bad_at-in-NoSuperior.ensures.exact
      (placed-alone (entries_of c.args.tree.now) c.args.line c.args.entry.now (c.requires ∙ ap Some c.in-NoSuperior.is));
}

-- the tree is full
pub crowded_out-requires : goal.crowded_out-requires
crowded_out-requires c = is_full (entries_of c.args.tree.now) c.args.entry.now (c.requires ∙ ap Some c.in-Full.is)

pub returns-in-Full : goal.returns-in-Full
returns-in-Full c = record {
  exact = placed-fault (entries_of c.args.tree.now) c.args.line c.args.entry.now c.crowded_out.result
      (MayJoin-full (entries_of c.args.tree.now) c.args.entry.now (c.requires ∙ ap Some c.in-Full.is)) c.crowded_out.ensures.bad;
}
