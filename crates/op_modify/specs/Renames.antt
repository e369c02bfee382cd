-- What a rename comes to (RFC 4511 4.9, X.511 11.4): an entry below which none stands gets another RDN, or another superior,
-- or both, and takes its place under the new name. Why it doesn't is a table by rows, of which the first that applies
-- decides. Each decision is taken over the entries before.
use Rattle.std.specs.Prelude.{Bool, not, ◌&&◌, ◌||◌, ◌==◌, List, [], ◌∷◌, ◌++◌, length, Option, Some, None, if◌then◌else◌}
use Rattle.std.specs.Option.{option_map_or}
use Rattle.dir_tree.specs.dn_names.name.Names.{RdnSequence}
use Rattle.dir_tree.specs.dn_names.NameOrder.{is_same}
use Rattle.dir_tree.specs.Entry.{EntryInformation}
use Rattle.dir_tree.specs.tree.Trees.{named_in, has_name, has_below, put_in, taken_out}
use Rattle.acdf_filters.specs.aci_item.Rules.{broken_rule}
use Rattle.acdf_filters.specs.aci_item.declared.permission.Permission.TheVariants.{Rename, Export, Import, DiscloseOnError}
use Rattle.acdf_filters.specs.declared.asking.Requester.{Requester}
use Rattle.acdf_filters.specs.Asking.{Entry}
use Rattle.acdf_filters.specs.Granted.{granted, granted_new}
use Rattle.ldap_msg.specs.plain_values.Refusals.{when, first_some}
use Rattle.entry_changes.specs.Renaming.{renamed_entry}
use Rattle.ldap_msg.specs.declared.operations.ResultCode.TheVariants as code
use Rattle.ldap_msg.specs.declared.kinds.LdapResult.{LdapResult}
use Rattle.ldap_msg.specs.declared.kinds.RenameRequest.{RenameRequest}
use Rattle.read_model.specs.Views.{view_of, hidden, no_such_object, result_of}
use Rattle.op_add_delete.specs.directory.Targets.{is_suffix, not_leaf}
use Rattle.op_add_delete.specs.adding.Adding.{rule_refusal}
use Rattle.op_add_delete.specs.adding.Updates.{Changed, Refused, unless}
use Rattle.op_modify.specs.ReadRenames.{read_renaming, moves, asks_rename, above}
use Rattle.op_modify.specs.declared.renaming.Renaming.{Renaming}

-- ---- the new name

-- the name, as the entry of the name spells it
abbrev pub spelled_in : List EntryInformation → RdnSequence → RdnSequence
spelled_in entries name = option_map_or (λ entry. entry.name) (named_in name entries) name

-- the new name: that of the superior, and the new RDN
abbrev pub new_name : List EntryInformation → Renaming → RdnSequence
new_name entries renaming = spelled_in entries (above renaming) ++ renaming.rdn

-- ---- the table

-- what is answered where another entry has the new name
abbrev pub taken_refusal : List EntryInformation → Requester → Option EntryInformation → Option LdapResult
taken_refusal entries who None = None
taken_refusal entries who (Some other) =
    Some (if granted entries who other Entry DiscloseOnError then result_of code.EntryAlreadyExists
    else result_of code.InsufficientAccessRights)

-- the entry that has the name, where that is not the target's own
abbrev pub other_named : List EntryInformation → EntryInformation → RdnSequence → Option EntryInformation
other_named entries target name = if is_same name target.name then None else named_in name entries

-- the target may not be renamed, where that is asked, or may not be taken from where it is
abbrev pub is_withheld : List EntryInformation → Requester → Renaming → EntryInformation → Bool
is_withheld entries who renaming target =
    (asks_rename renaming && not (granted entries who target Entry Rename))
    || (moves renaming && not (granted entries who target Entry Export))

-- the target is the suffix, or would be its own superior
abbrev pub is_unmovable : List EntryInformation → Renaming → EntryInformation → Bool
is_unmovable entries renaming target = is_suffix target.name entries || is_same (above renaming) target.name

-- the entry that the target would become moves, and may not come to where it would be: as with an add, what it itself would
-- grant does not count
abbrev pub is_unwelcome : List EntryInformation → Requester → Renaming → EntryInformation → Bool
is_unwelcome entries who renaming entry = moves renaming && not (granted_new entries who entry Entry Import)

-- the table, over the target, which has the request's name, and the entry that it would become
abbrev pub rename_rows : List EntryInformation → Requester → Renaming → EntryInformation → EntryInformation → List (Option LdapResult)
rename_rows entries who renaming target entry =
    -- it may not be renamed, or not leave
    when (is_withheld entries who renaming target) (hidden (view_of entries who) renaming.name)
    -- it is the suffix, or its own new superior
    ∷ when (is_unmovable entries renaming target) (result_of code.UnwillingToPerform)
    -- entries stand below it
    ∷ when (has_below target.name entries) (not_leaf entries who renaming.name target)
    -- the superior is no entry
    ∷ when (not (has_name (above renaming) entries)) (no_such_object (view_of entries who) (above renaming))
    -- another entry has the new name
    ∷ taken_refusal entries who (other_named entries target entry.name)
    -- it may not come
    ∷ when (is_unwelcome entries who renaming entry) (result_of code.InsufficientAccessRights)
    -- a rule is broken
    ∷ rule_refusal (broken_rule (Some target) (taken_out target.name entries) entry)
    ∷ []

-- why the entry does not take the target's place
unfoldable pub rename_refusal : List EntryInformation → Requester → Renaming → EntryInformation → EntryInformation → Option LdapResult
rename_refusal entries who renaming target entry = first_some (rename_rows entries who renaming target entry)

-- ---- what is left

-- the entry takes the target's place, unless there is a refusal
abbrev pub renamed_as : List EntryInformation → Requester → Renaming → EntryInformation → EntryInformation → Changed
renamed_as entries who renaming target entry =
    unless (rename_refusal entries who renaming target entry) (put_in entry (taken_out target.name entries))

-- a rename of the entry that has the name, if there is one
abbrev pub renamed_target : List EntryInformation → Requester → Renaming → Option EntryInformation → Changed
renamed_target entries who renaming None = Refused (hidden (view_of entries who) renaming.name)
renamed_target entries who renaming (Some target) =
    renamed_as entries who renaming target (renamed_entry (new_name entries renaming) renaming.delete_old target)

-- a rename, by what was read: the root is no entry
abbrev pub renamed_by : List EntryInformation → Requester → Option Renaming → Changed
renamed_by entries who None = Refused (result_of code.InvalidDnSyntax)
renamed_by entries who (Some renaming) =
    if length renaming.name == 0 then Refused (result_of code.UnwillingToPerform)
    else renamed_target entries who renaming (named_in renaming.name entries)

-- what a rename comes to
unfoldable pub renamed : List EntryInformation → Requester → RenameRequest → Changed
renamed entries who request = renamed_by entries who (read_renaming request)
