use Rattle.std.proofs.Common.{sym}
use Rattle.wire_io.proofs.Theorems.{PutCause-nothing}
use Rattle.data_file.proofs.writing.PutLemmas.{PutsAll-empty, table-at, text_at-none}
use Rattle.data_file.proofs.writing.put_at.Goals as goal

-- the entry is one of the tree
pub put_record-requires : goal.put_record-requires
put_record-requires g c = table-at c.args.tree.now c.args.no.0 _ c.requires.table (sym c.in-Some.ensures.exact)

-- the number is not in use
pub returns-in-None-clause-tells : goal.returns-in-None-clause-tells
returns-in-None-clause-tells g c = PutsAll-empty _ _ (text_at-none c.args.tree.now c.args.no.0 (sym c.in-None.ensures.exact))

pub returns-in-None-clause-cause : goal.returns-in-None-clause-cause
returns-in-None-clause-cause g c = PutCause-nothing _ _
