use Rattle.std.proofs.Common.{sym}
use Rattle.wire_io.proofs.Theorems.{PutCause-nothing}
use Rattle.data_file.proofs.writing.PutLemmas.{PutsAll-empty, PutsAll-same}
use Rattle.data_file.proofs.writing.WalkLemmas.{written_records-below, written_records-none}
use Rattle.data_file.proofs.writing.put_entries.Goals as goal

-- the records from the suffix on are all
pub returns-in-Some-clause-tells : goal.returns-in-Some-clause-tells
returns-in-Some-clause-tells g c =
    PutsAll-same _ _ _ _ _ (sym (written_records-below c.args.tree.now c.in-Some.suffix.0 c.entries_form_a_tree.ensures.exact (sym c.in-Some.ensures.exact))) c.put_below.ensures.tells

-- there is no entry
pub returns-in-None-clause-tells : goal.returns-in-None-clause-tells
returns-in-None-clause-tells g c = PutsAll-empty _ _ (written_records-none c.args.tree.now (sym c.in-None.ensures.exact))

pub returns-in-None-clause-cause : goal.returns-in-None-clause-cause
returns-in-None-clause-cause g c = PutCause-nothing _ _
