-- What is asked of the access control decision function (X.501 18.8.1): by whom, on what, and for which permission.
use Rattle.std.specs.Prelude.{ℕ}
use Rattle.dir_tree.specs.dn_names.name.Names.{Keyed}
use Rattle.dir_tree.specs.Entry.{EntryInformation}
use Rattle.dir_tree.specs.attributes.Changes.{with_value}
use Rattle.aci_item.specs.declared.permission.Permission.{Permission}
use Rattle.acdf_filters.specs.declared.asking.Requester.{Requester}
use Rattle.acdf_filters.specs.declared.asking.Item as code
use Rattle.acdf_filters.specs.declared.asking.Item.TheVariants as code_item

-- what is protected: the entry as a whole, an attribute type, or a value of one
pub data Protected : Type 0 where
  Entry : Protected
  Kind : ℕ → Protected
  Value : ℕ → Keyed → Protected

-- the item that a program asks for
abbrev pub protected_of : code.Item → Protected
protected_of code_item.Entry = Entry
protected_of (code_item.Kind kind) = Kind kind.0
protected_of (code_item.Value kind value) = Value kind.0 value.now

-- the entry with what is protected: a value is put into it, where no value of the type has the same key
abbrev pub with_item : Protected → EntryInformation → EntryInformation
with_item Entry entry = entry
with_item (Kind kind) entry = entry
with_item (Value kind value) entry = with_value kind value entry

-- a question on an entry, with the entry that the change would leave: that counts where a value is added, and nowhere else
pub record Asked : Type 0 where
  pub who : Requester
  pub item : Protected
  pub permission : Permission
  pub after : EntryInformation

-- a question on an entry that the item alone is added to
abbrev pub asked_on : Requester → EntryInformation → Protected → Permission → Asked
asked_on who entry item permission = record { who = who; item = item; permission = permission; after = with_item item entry }
