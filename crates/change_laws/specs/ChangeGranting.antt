-- When nothing refuses a modify or a rename (RFC 4511 4.6 and 4.9, X.511 11.3 and 11.4): the decisions that its sequence
-- asks for are granted, and the tree takes what it leaves.
use Rattle.std.specs.Prelude.{◌≡◌, ◌≢◌, true, false, List, [], Some, None, Ok}
use Rattle.dir_tree.specs.dn_names.name.Names.{RdnSequence}
use Rattle.dir_tree.specs.dn_names.NameOrder.{is_same}
use Rattle.dir_tree.specs.dn_names.parsing.NameText.{read_name}
use Rattle.dir_tree.specs.Entry.{EntryInformation}
use Rattle.dir_tree.specs.tree.Trees.{named_in, has_name, has_below, taken_out}
use Rattle.acdf_filters.specs.aci_item.Rules.{broken_rule}
use Rattle.acdf_filters.specs.aci_item.declared.permission.Permission.TheVariants.{Modify, Rename, Export, Import}
use Rattle.acdf_filters.specs.declared.asking.Requester.{Requester}
use Rattle.acdf_filters.specs.Asking.{Entry}
use Rattle.acdf_filters.specs.Granted.{granted, granted_new}
use Rattle.ldap_msg.specs.declared.kinds.ModifyRequest.{ModifyRequest}
use Rattle.ldap_msg.specs.declared.kinds.RenameRequest.{RenameRequest}
use Rattle.op_add_delete.specs.directory.Targets.{is_suffix}
use Rattle.entry_changes.specs.Change.{Modification}
use Rattle.entry_changes.specs.Renaming.{renamed_entry}
use Rattle.op_modify.specs.ReadChanges.{read_changes}
use Rattle.op_modify.specs.ReadRenames.{read_renaming, moves, asks_rename, above}
use Rattle.op_modify.specs.Modifying.{asker_of}
use Rattle.op_modify.specs.Renames.{new_name}
use Rattle.op_modify.specs.declared.renaming.Renaming.{Renaming}
use Rattle.change_laws.specs.Changing.{MayChangeEach}

-- the request's name is that of the target, which may be modified; its changes may be made in their order, each decision
-- taken over the entries before the first, and what they leave breaks no rule in the target's place
pub record MayModify (entries : List EntryInformation) (who : Requester) (request : ModifyRequest) (target left : EntryInformation) : Type 0 where
  pub name : RdnSequence
  pub name_read : read_name request.name ≡ Ok name
  pub named : name ≢ []
  pub changes : List Modification
  pub changes_read : read_changes request.changes ≡ Ok changes
  pub found : named_in name entries ≡ Some target
  pub allowed : granted entries who target Entry Modify ≡ true
  pub changed : MayChangeEach (asker_of entries who target) target changes left
  pub unbroken : broken_rule (Some target) (taken_out target.name entries) left ≡ None

-- the request's name is that of the target, which may be renamed, where that is asked, and exported, where it moves; it is not
-- the suffix, and has none below it. The superior that it is to have is an entry, and another than it. The entry is the target
-- under the new name, which is the target's own or free; it may be imported, where it moves, and breaks no rule in the
-- target's place
pub record MayRename (entries : List EntryInformation) (who : Requester) (request : RenameRequest) (target entry : EntryInformation) : Type 0 where
  pub renaming : Renaming
  pub read : read_renaming request ≡ Some renaming
  pub named : renaming.name ≢ []
  pub found : named_in renaming.name entries ≡ Some target
  pub is : entry ≡ renamed_entry (new_name entries renaming) renaming.delete_old target
  pub renamed : asks_rename renaming ≡ true → granted entries who target Entry Rename ≡ true
  pub exported : moves renaming ≡ true → granted entries who target Entry Export ≡ true
  pub other : is_suffix target.name entries ≡ false
  pub apart : is_same (above renaming) target.name ≡ false
  pub alone : has_below target.name entries ≡ false
  pub under : has_name (above renaming) entries ≡ true
  pub free : is_same entry.name target.name ≡ false → named_in entry.name entries ≡ None
  pub imported : moves renaming ≡ true → granted_new entries who entry Entry Import ≡ true
  pub unbroken : broken_rule (Some target) (taken_out target.name entries) entry ≡ None
