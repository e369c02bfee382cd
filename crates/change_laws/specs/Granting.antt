-- When nothing refuses a change (X.511 11.1 and 11.2): the decisions that its sequence asks for are granted, and the tree
-- takes it.
use Rattle.std.specs.Prelude.{◌≡◌, ◌≢◌, Bool, true, false, List, [], Some, None, Ok}
use Rattle.std.specs.List.{AllByRecursion}
use Rattle.dir_tree.specs.dn_names.name.Names.{RdnSequence}
use Rattle.dir_tree.specs.dn_names.parsing.NameText.{read_name}
use Rattle.dir_tree.specs.Entry.{Attribute, EntryInformation}
use Rattle.dir_tree.specs.tree.Trees.{named_in, has_name, has_below, superior_name}
use Rattle.acdf_filters.specs.aci_item.Rules.{broken_rule}
use Rattle.acdf_filters.specs.aci_item.declared.permission.Permission.{Permission}
use Rattle.acdf_filters.specs.aci_item.declared.permission.Permission.TheVariants.{Add, Remove}
use Rattle.acdf_filters.specs.declared.asking.Requester.{Requester}
use Rattle.acdf_filters.specs.Asking.{Protected, Entry, Kind, Value}
use Rattle.acdf_filters.specs.Granted.{granted, granted_new}
use Rattle.ldap_msg.specs.declared.kinds.AddRequest.{AddRequest}
use Rattle.ldap_msg.specs.declared.kinds.DeleteRequest.{DeleteRequest}
use Rattle.op_add_delete.specs.directory.Targets.{is_suffix}
use Rattle.op_add_delete.specs.reading.NewEntries.{read_attributes, new_entry}

-- the request's name is that of the target, which may be removed, is not the suffix, and has none below it
pub record MayDelete (entries : List EntryInformation) (who : Requester) (request : DeleteRequest) (target : EntryInformation) : Type 0 where
  pub name : RdnSequence
  pub name_read : read_name request.name ≡ Ok name
  pub named : name ≢ []
  pub found : named_in name entries ≡ Some target
  pub allowed : granted entries who target Entry Remove ≡ true
  pub other : is_suffix target.name entries ≡ false
  pub alone : has_below target.name entries ≡ false

-- the attribute may be added: its type, and each of its values
pub record MayAddAttribute (allows : Protected → Permission → Bool) (attribute : Attribute) : Type 0 where
  pub kind : allows (Kind attribute.kind) Add ≡ true
  pub values : AllByRecursion (λ value. allows (Value attribute.kind value) Add ≡ true) attribute.values

-- the entry may be added: as a whole, and each of its attributes
pub record MayAddEach (allows : Protected → Permission → Bool) (entry : EntryInformation) : Type 0 where
  pub whole : allows Entry Add ≡ true
  pub attributes : AllByRecursion (MayAddAttribute allows) entry.attributes

-- the entry is the one that the request describes, its name is free below an entry, it may be added, and breaks no rule
pub record MayAdd (entries : List EntryInformation) (who : Requester) (request : AddRequest) (entry : EntryInformation) : Type 0 where
  pub name : RdnSequence
  pub name_read : read_name request.name ≡ Ok name
  pub named : name ≢ []
  pub attributes : List Attribute
  pub attributes_read : read_attributes request.attributes ≡ Ok attributes
  pub is : entry ≡ new_entry name attributes
  pub free : named_in name entries ≡ None
  pub under : has_name (superior_name name) entries ≡ true
  pub allowed : MayAddEach (granted_new entries who entry) entry
  pub unbroken : broken_rule None entries entry ≡ None
