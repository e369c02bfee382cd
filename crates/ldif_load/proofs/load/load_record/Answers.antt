use Rattle.std.proofs.Common.{◌∙◌}
use Rattle.std.proofs.lemmas.Result.{err_from_is_err_and}
use Rattle.dir_tree.specs.tree.Numbered.{entries_of}
use Rattle.ldif_load.specs.declared.fault.LoadFault.{LoadFault}
use Rattle.dir_tree.specs.plain_values.Answers.{IsFaultOf}
use Rattle.ldif_load.specs.load.Loading.{loaded_entry, fault_of}
use Rattle.ldif_load.proofs.load.NameLemmas.{entry_of_record-named}
use Rattle.ldif_load.proofs.load.RecordLemmas.{loaded-record, loaded-placed, loaded-place, load_fault-gives}
use Rattle.ldif_load.proofs.load.load_record.Goals as goal

-- the record has no entry
pub returns-in_err-entry-clause-bad : goal.returns-in_err-entry-clause-bad
returns-in_err-entry-clause-bad c =
    let fault = err_from_is_err_and c.from_residual.result c.from_residual.ensures.1 in
    load_fault-gives c.from_residual.result fault.0 c.in_err-entry.field-0.0 (λ (fault : LoadFault). IsFaultOf (fault_of fault) (loaded_entry (entries_of c.args.tree.now) c.args.given)) fault.1 fault.2
    (loaded-record c.in_err-entry.field-0.0 (entries_of c.args.tree.now) c.args.given c.in_err-entry.ensures.exact)

-- the entry has no place
pub returns-in_err-vacancy-clause-bad : goal.returns-in_err-vacancy-clause-bad
returns-in_err-vacancy-clause-bad c =
    let fault = err_from_is_err_and c.from_residual-in_err-vacancy.result c.from_residual-in_err-vacancy.ensures.1 in
    load_fault-gives c.from_residual-in_err-vacancy.result fault.0 c.in_err-vacancy.field-0.0 (λ (fault : LoadFault). IsFaultOf (fault_of fault) (loaded_entry (entries_of c.args.tree.now) c.args.given)) fault.1 fault.2
    (loaded-place c.in_err-vacancy.field-0.0 (entries_of c.args.tree.now) c.args.given c.in_ok-entry.entry c.in_ok-entry.ensures.exact c.in_err-vacancy.ensures.bad)

-- the entry has a name
pub insert_at-requires-clause-named : goal.insert_at-requires-clause-named
insert_at-requires-clause-named c = entry_of_record-named c.args.given c.in_ok-entry.entry c.in_ok-entry.ensures.exact

-- the entry is in
pub returns-clause-ok : goal.returns-clause-ok
returns-clause-ok c = record {
  id = c.in_ok-insert_at.field-0.0;
  entry = c.in_ok-entry.entry;
  loaded = loaded-placed (entries_of c.args.tree.now) c.args.given c.in_ok-entry.entry c.in_ok-entry.ensures.exact ∙ c.in_ok-vacancy.ensures.ok;
  free = c.in_ok-insert_at.ensures.exact.free;
  added = c.in_ok-insert_at.ensures.exact.left;
}
