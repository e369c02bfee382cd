-- What a modify comes to (RFC 4511 4.6, X.511 11.3): the changes are made in their order on a copy of the entry, which then
-- takes the entry's place. Each decision is taken over the entries before; where it is on a value that comes, the entry
-- counts as that change would leave it. A change that is refused refuses them all.
use Rattle.std.specs.Prelude.{List, [], ◌∷◌, Option, Some, None, Result, Ok, Err, if◌then◌else◌}
use Rattle.dir_tree.specs.dn_names.name.Names.{RdnSequence}
use Rattle.dir_tree.specs.dn_names.declared.error.BadName.{BadName}
use Rattle.dir_tree.specs.dn_names.parsing.NameText.{read_name}
use Rattle.dir_tree.specs.Entry.{EntryInformation}
use Rattle.dir_tree.specs.tree.Trees.{named_in, put_in, taken_out}
use Rattle.acdf_filters.specs.aci_item.Rules.{broken_rule}
use Rattle.acdf_filters.specs.aci_item.declared.permission.Permission.TheVariants.{Modify}
use Rattle.acdf_filters.specs.declared.asking.Requester.{Requester}
use Rattle.acdf_filters.specs.Asking.{Entry}
use Rattle.acdf_filters.specs.Granted.{granted, granted_after}
use Rattle.entry_changes.specs.Change.{Asker, Modification, changed_by}
use Rattle.ldap_msg.specs.declared.operations.ResultCode.{ResultCode}
use Rattle.ldap_msg.specs.declared.operations.ResultCode.TheVariants as code
use Rattle.ldap_msg.specs.declared.kinds.Change.{Change}
use Rattle.ldap_msg.specs.declared.kinds.ModifyRequest.{ModifyRequest}
use Rattle.read_model.specs.Views.{view_of, hidden, result_of}
use Rattle.op_add_delete.specs.adding.Adding.{rule_refusal}
use Rattle.op_add_delete.specs.adding.Updates.{Changed, Refused, unless}
use Rattle.op_modify.specs.ReadChanges.{read_changes}

-- who answers of the entry, for the requester
abbrev pub asker_of : List EntryInformation → Requester → EntryInformation → Asker
asker_of entries who entry = record { allows = granted entries who entry; adds = granted_after entries who entry }

-- the entry that the changes leave takes the target's place, unless it breaks a rule there
abbrev pub modified_as : List EntryInformation → EntryInformation → Result EntryInformation ResultCode → Changed
modified_as entries target (Err code) = Refused (result_of code)
modified_as entries target (Ok left) =
    unless (rule_refusal (broken_rule (Some target) (taken_out target.name entries) left))
    (put_in left (taken_out target.name entries))

-- the changes of the entry that has the name, if there is one: it must be one that may be modified
abbrev pub modified_target : List EntryInformation → Requester → RdnSequence → List Modification → Option EntryInformation → Changed
modified_target entries who name changes None = Refused (hidden (view_of entries who) name)
modified_target entries who name changes (Some target) =
    if granted entries who target Entry Modify
    then modified_as entries target (changed_by (asker_of entries who target) target changes)
    else Refused (hidden (view_of entries who) name)

-- the changes, where they could be read
abbrev pub modified_by : List EntryInformation → Requester → RdnSequence → Result (List Modification) ResultCode → Changed
modified_by entries who name (Err code) = Refused (result_of code)
modified_by entries who name (Ok changes) = modified_target entries who name changes (named_in name entries)

-- a modify, by what its name is: the empty name is no entry's
abbrev pub modified_named : List EntryInformation → Requester → List Change → Result RdnSequence BadName → Changed
modified_named entries who given (Err bad) = Refused (result_of code.InvalidDnSyntax)
modified_named entries who given (Ok []) = Refused (result_of code.UnwillingToPerform)
modified_named entries who given (Ok (rdn ∷ rdns)) = modified_by entries who (rdn ∷ rdns) (read_changes given)

-- what a modify comes to
unfoldable pub modified : List EntryInformation → Requester → ModifyRequest → Changed
modified entries who request = modified_named entries who request.changes (read_name request.name)
