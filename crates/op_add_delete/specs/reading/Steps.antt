-- How an update is taken step by step: what a call answers for each step.
use Rattle.std.specs.Prelude.{◌≡◌, ℕ, Bool, List, ◌∷◌, ◌++◌, Some, Result, Ok, Err, if◌then◌else◌}
use Rattle.dir_tree.specs.dn_names.name.Names.{RdnSequence}
use Rattle.dir_tree.specs.Entry.{Attribute, EntryInformation}
use Rattle.dir_tree.specs.tree.Trees.{named_in, taken_out}
use Rattle.dir_tree.specs.tree.Numbered.{Numbered, entries_of, entry_of}
use Rattle.acdf_filters.specs.declared.asking.Requester.{Requester}
use Rattle.ldap_msg.specs.declared.operations.ResultCode.{ResultCode}
use Rattle.ldap_msg.specs.declared.operations.ResultCode.TheVariants as code
use Rattle.ldap_msg.specs.declared.kinds.KindValues.{KindValues}
use Rattle.op_add_delete.specs.declared.deleting.Checked.{Checked}
use Rattle.op_add_delete.specs.declared.deleting.Checked.TheVariants as checked
use Rattle.op_add_delete.specs.reading.NewEntries.{without_twice, read_attributes, new_entry}
use Rattle.op_add_delete.specs.adding.Updates.{Refused, Made, deleted_target}

-- ---- deletes

-- the entry of the number may go, and a delete of the name takes it out
pub record IsAllowed (rows : List Numbered) (who : Requester) (name : RdnSequence) (id : ℕ) : Type 0 where
  pub target : EntryInformation
  pub found : entry_of id rows ≡ Some target
  pub leaves : deleted_target (entries_of rows) who name (named_in name (entries_of rows)) ≡ Made (taken_out target.name (entries_of rows))

-- what came of a delete's table is what a delete of the name comes to
abbrev pub IsChecked : List Numbered → Requester → RdnSequence → Checked → Type 0
IsChecked rows who name (checked.Refused refusal) =
    deleted_target (entries_of rows) who name (named_in name (entries_of rows)) ≡ Refused refusal
IsChecked rows who name (checked.Allowed number) = IsAllowed rows who name number.0

-- ---- adds

-- the entry of the name with the attributes
abbrev pub entry_from : RdnSequence → Result (List Attribute) ResultCode → Result EntryInformation ResultCode
entry_from name (Ok attributes) = Ok (record { name = name; attributes = attributes })
entry_from name (Err code) = Err code

-- the attributes so far with those that are left, where none came twice
abbrev pub finished : Bool → List Attribute → List Attribute → Result (List Attribute) ResultCode
finished twice done left = if twice then Err code.AttributeOrValueExists else without_twice (done ++ left)

-- the attribute was put last, or it is kept that one came twice
pub record IsPut (twice : Bool) (old : EntryInformation) (attribute : Attribute) (later : Bool) (new : EntryInformation) : Type 0 where
  pub name : new.name ≡ old.name
  pub goes_on : (left : List Attribute) → finished later new.attributes left ≡ finished twice old.attributes (attribute ∷ left)

-- the entry has the name and the attributes that were read, and the values of its own RDN
pub record IsNewEntry (name : RdnSequence) (given : List KindValues) (entry : EntryInformation) : Type 0 where
  pub attributes : List Attribute
  pub read : read_attributes given ≡ Ok attributes
  pub made : entry ≡ new_entry name attributes
