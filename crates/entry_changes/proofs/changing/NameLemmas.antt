-- The name of an entry that changes leave.
use Rattle.std.proofs.Common.{◌≡◌, List, Ok, Result, subst}
use Rattle.std.specs.Prelude.{IfOk}
use Rattle.dir_tree.specs.Entry.{EntryInformation}
use Rattle.ldap_msg.specs.declared.operations.ResultCode.{ResultCode}
use Rattle.entry_changes.specs.Change.{Asker, Modification, changed_by}
use Rattle.entry_changes.proofs.laws.GoodLemmas.{name-changed_by}

-- what the changes leave has the name of the entry
pub name-left : (asker : Asker) (entry left : EntryInformation) (changes : List Modification) → changed_by asker entry changes ≡ Ok left
    → left.name ≡ entry.name
name-left asker entry left changes made =
    subst (λ (result : Result EntryInformation ResultCode). IfOk result (λ left. left.name ≡ entry.name)) made (name-changed_by asker entry changes)
