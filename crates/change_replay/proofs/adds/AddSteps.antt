-- The new entry has its name.
use Rattle.std.proofs.Common.{◌≡◌, ap, ◌∙◌, List}
use Rattle.dir_tree.specs.dn_names.name.Names.{RdnSequence, last_rdn}
use Rattle.dir_tree.specs.Entry.{EntryInformation}
use Rattle.op_add_delete.specs.reading.Steps.{IsNewEntry}
use Rattle.op_add_delete.proofs.ldif_load_proofs.Theorems.{name-with_pairs}
use Rattle.change_laws.specs.op_modify.ldap_msg.declared.kinds.KindValues.{KindValues}

pub named-new : (name : RdnSequence) (given : List KindValues) (entry : EntryInformation) → IsNewEntry name given entry → entry.name ≡ name
named-new name given entry new =
    ap (λ (entry : EntryInformation). entry.name) new.made
    ∙ name-with_pairs (record { name = name; attributes = new.attributes }) (last_rdn name)
