-- What a change of a directory comes to (RFC 4511 4.7 and 4.8, X.511 11.1 and 11.2): a refusal, or the entries that it leaves.
use Rattle.std.specs.Prelude.{◌≡◌, List, [], ◌∷◌, Option, Some, None, Result, Ok, Err}
use Rattle.dir_tree.specs.dn_names.name.Names.{RdnSequence}
use Rattle.dir_tree.specs.dn_names.declared.error.BadName.{BadName}
use Rattle.dir_tree.specs.dn_names.parsing.NameText.{read_name}
use Rattle.dir_tree.specs.Entry.{Attribute, EntryInformation}
use Rattle.dir_tree.specs.tree.Trees.{named_in, put_in, taken_out}
use Rattle.acdf_filters.specs.declared.asking.Requester.{Requester}
use Rattle.ldap_msg.specs.declared.operations.ResultCode.{ResultCode}
use Rattle.ldap_msg.specs.declared.operations.ResultCode.TheVariants as code
use Rattle.ldap_msg.specs.declared.kinds.KindValues.{KindValues}
use Rattle.ldap_msg.specs.declared.kinds.LdapResult.{LdapResult}
use Rattle.ldap_msg.specs.declared.kinds.AddRequest.{AddRequest}
use Rattle.ldap_msg.specs.declared.kinds.DeleteRequest.{DeleteRequest}
use Rattle.read_model.specs.Views.{view_of, hidden, result_of}
use Rattle.op_add_delete.specs.Deleting.{delete_refusal}
use Rattle.op_add_delete.specs.reading.NewEntries.{read_attributes, new_entry}
use Rattle.op_add_delete.specs.adding.Adding.{add_refusal}

-- what a change comes to: it is refused with this result, and the entries stay, or it is made, and leaves these
pub data Changed : Type 0 where
  Refused : LdapResult → Changed
  Made : List EntryInformation → Changed

-- the change is made, unless there is a refusal
abbrev pub unless : Option LdapResult → List EntryInformation → Changed
unless None after = Made after
unless (Some refusal) after = Refused refusal

-- the entries afterwards: those before, where the change is refused
abbrev pub left_by : List EntryInformation → Changed → List EntryInformation
left_by before (Refused refusal) = before
left_by before (Made after) = after

-- what a call answers and leaves is what the change comes to: None and its entries, or the refusal and the entries before
abbrev pub IsChanged : List EntryInformation → Changed → Option LdapResult → List EntryInformation → Type 0
IsChanged before changed None after = changed ≡ Made after
IsChanged before changed (Some refusal) after = (changed ≡ Refused refusal) × (after ≡ before)

-- a delete of the entry that has the name, if there is one
abbrev pub deleted_target : List EntryInformation → Requester → RdnSequence → Option EntryInformation → Changed
deleted_target entries who name None = Refused (hidden (view_of entries who) name)
deleted_target entries who name (Some target) =
    unless (delete_refusal entries who name target) (taken_out target.name entries)

-- a delete, by what its name is: the empty name is no entry's
abbrev pub deleted_named : List EntryInformation → Requester → Result RdnSequence BadName → Changed
deleted_named entries who (Err bad) = Refused (result_of code.InvalidDnSyntax)
deleted_named entries who (Ok []) = Refused (result_of code.UnwillingToPerform)
deleted_named entries who (Ok (rdn ∷ rdns)) = deleted_target entries who (rdn ∷ rdns) (named_in (rdn ∷ rdns) entries)

-- what a delete comes to
unfoldable pub deleted : List EntryInformation → Requester → DeleteRequest → Changed
deleted entries who request = deleted_named entries who (read_name request.name)

-- an add of the entry of this name with the attributes, where they could be read
abbrev pub added_entry : List EntryInformation → Requester → RdnSequence → Result (List Attribute) ResultCode → Changed
added_entry entries who name (Err fault) = Refused (result_of fault)
added_entry entries who name (Ok attributes) =
    unless (add_refusal entries who name (new_entry name attributes)) (put_in (new_entry name attributes) entries)

-- an add, by what its name is: the empty name is no entry's
abbrev pub added_named : List EntryInformation → Requester → List KindValues → Result RdnSequence BadName → Changed
added_named entries who given (Err bad) = Refused (result_of code.InvalidDnSyntax)
added_named entries who given (Ok []) = Refused (result_of code.UnwillingToPerform)
added_named entries who given (Ok (rdn ∷ rdns)) = added_entry entries who (rdn ∷ rdns) (read_attributes given)

-- what an add comes to
unfoldable pub added : List EntryInformation → Requester → AddRequest → Changed
added entries who request = added_named entries who request.attributes (read_name request.name)
