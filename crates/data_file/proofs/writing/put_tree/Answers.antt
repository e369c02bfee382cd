use Rattle.wire_io.proofs.Theorems.{PutsAll-then, PutsAll-cut, PutCause-then}
use Rattle.dir_tree.specs.tree.Numbered.{entries_of}
use Rattle.data_file.proofs.writing.PutLemmas.{PutsAll-same, written_file-parts}
use Rattle.data_file.proofs.writing.put_tree.Goals as goal

-- the types of a good tree's entries are in the table
pub put_entries-requires : goal.put_entries-requires
put_entries-requires g c = record { table = c.the_types_of_good_entries_are_in_the_table.ensures.exact (entries_of c.args.tree.now) c.requires.good }

-- the records come after the version
pub returns-in-Ok-clause-tells : goal.returns-in-Ok-clause-tells
returns-in-Ok-clause-tells g c = PutsAll-same _ _ _ _ _ (written_file-parts _) (PutsAll-then _ _ _ _ _ _ _ c.in-Ok.ensures.tells c.put_entries.ensures.tells)

pub returns-in-Ok-clause-cause : goal.returns-in-Ok-clause-cause
returns-in-Ok-clause-cause g c = PutCause-then _ _ _ _ _ c.in-Ok.ensures.cause c.put_entries.ensures.cause

-- the version was refused
pub returns-in-Err-clause-tells : goal.returns-in-Err-clause-tells
returns-in-Err-clause-tells g c = PutsAll-same _ _ _ _ _ (written_file-parts _) (PutsAll-cut _ _ _ _ _ _ c.in-Err.ensures.tells)
