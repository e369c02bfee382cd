use Rattle.std.proofs.Common.{sym, subst}
use Rattle.dir_tree.specs.Entry.{EntryInformation}
use Rattle.ldif_load.specs.ldif_records.writing.Written.{AreInTable}
use Rattle.ldif_load.proofs.ldif_records_proofs.Theorems.{AreInTable-with_value}
use Rattle.data_tests.proofs.records.with.Goals as goal

-- the type is in the table, and the types before were
pub returns : goal.returns
returns c =
    let P : EntryInformation → Type 0 = λ entry. AreInTable entry.attributes in
    subst P (sym c.in_ok-push.ensures.ok) (AreInTable-with_value c.in-Some.kind.0 c.in_ok-value.value c.args.entry c.in-Some.ensures.fits c.requires)
