-- What a change leaves of the entries where nobody is asked for permission (RFC 4511 4.6 to 4.9, X.511 clause 11): the tables
-- of the four operations without their decisions, or the result code of the first row that refuses. Each row has the code that
-- is answered where everything is granted.
use Rattle.std.specs.Prelude.{ℕ, ◌==◌, true, not, List, [], ◌∷◌, length, Option, Some, None, Result, Ok, Err, if◌then◌else◌}
use Rattle.dir_tree.specs.plain_values.Results.{◌>>=◌}
use Rattle.dir_tree.specs.plain_values.Refusals.{when, first_some}
use Rattle.dir_tree.specs.dn_names.name.Names.{RdnSequence}
use Rattle.dir_tree.specs.dn_names.declared.error.BadName.{BadName}
use Rattle.dir_tree.specs.dn_names.parsing.NameText.{read_name}
use Rattle.dir_tree.specs.Entry.{Attribute, EntryInformation}
use Rattle.dir_tree.specs.tree.Trees.{named_in, has_name, has_below, superior_name, put_in, taken_out}
use Rattle.acdf_filters.specs.aci_item.declared.entry_rule.EntryRule.{EntryRule}
use Rattle.acdf_filters.specs.aci_item.Rules.{broken_rule}
use Rattle.entry_changes.specs.Change.{Asker, Modification, changed_by, unless_refused}
use Rattle.entry_changes.specs.Renaming.{renamed_entry}
use Rattle.op_add_delete.specs.RuleCodes.{rule_code}
use Rattle.op_add_delete.specs.directory.Targets.{is_suffix}
use Rattle.op_add_delete.specs.reading.NewEntries.{read_attributes, new_entry}
use Rattle.change_laws.specs.op_modify.ReadChanges.{read_changes}
use Rattle.change_laws.specs.op_modify.ReadRenames.{read_renaming, above}
use Rattle.change_laws.specs.op_modify.Renames.{new_name, other_named, is_unmovable}
use Rattle.change_laws.specs.op_modify.declared.renaming.Renaming.{Renaming}
use Rattle.change_laws.specs.op_modify.ldap_msg.declared.operations.ResultCode.{ResultCode}
use Rattle.change_laws.specs.op_modify.ldap_msg.declared.operations.ResultCode.TheVariants as code
use Rattle.change_laws.specs.op_modify.ldap_msg.declared.kinds.Change.{Change}
use Rattle.change_laws.specs.op_modify.ldap_msg.declared.kinds.KindValues.{KindValues}
use Rattle.change_laws.specs.op_modify.ldap_msg.declared.kinds.ModifyRequest.{ModifyRequest}
use Rattle.change_laws.specs.op_modify.ldap_msg.declared.kinds.AddRequest.{AddRequest}
use Rattle.change_laws.specs.op_modify.ldap_msg.declared.kinds.DeleteRequest.{DeleteRequest}
use Rattle.change_laws.specs.op_modify.ldap_msg.declared.kinds.RenameRequest.{RenameRequest}
use Rattle.change_laws.specs.op_modify.ldap_msg.declared.kinds.Request.{Request}
use Rattle.change_laws.specs.op_modify.ldap_msg.declared.kinds.Request.TheVariants as request
use Rattle.change_laws.specs.op_modify.ldap_msg.declared.kinds.Update.{Update}
use Rattle.change_laws.specs.op_modify.ldap_msg.declared.kinds.Update.TheVariants as update

-- ---- what all have

-- the name of an entry: the empty one is no entry's
abbrev pub named : Result RdnSequence BadName → Result RdnSequence ResultCode
named (Err bad) = Err code.InvalidDnSyntax
named (Ok []) = Err code.UnwillingToPerform
named (Ok (rdn ∷ rdns)) = Ok (rdn ∷ rdns)

-- the name that the octets say
abbrev pub name_in : List ℕ → Result RdnSequence ResultCode
name_in octets = named (read_name octets)

-- the entry that was found
abbrev pub target_by : Option EntryInformation → Result EntryInformation ResultCode
target_by None = Err code.NoSuchObject
target_by (Some target) = Ok target

-- the entry of the name
abbrev pub target_in : List EntryInformation → RdnSequence → Result EntryInformation ResultCode
target_in entries name = target_by (named_in name entries)

-- another entry has the name, if one was found
abbrev pub taken_refusal : Option EntryInformation → Option ResultCode
taken_refusal None = None
taken_refusal (Some other) = Some code.EntryAlreadyExists

-- a rule is broken, if one is
abbrev pub rule_refusal : Option EntryRule → Option ResultCode
rule_refusal None = None
rule_refusal (Some rule) = Some (rule_code rule)

-- another entry in the target's place, unless it breaks a rule there
abbrev pub with_in_place : List EntryInformation → EntryInformation → EntryInformation → Result (List EntryInformation) ResultCode
with_in_place entries target entry =
    unless_refused (rule_refusal (broken_rule (Some target) (taken_out target.name entries) entry))
    (put_in entry (taken_out target.name entries))

-- ---- a delete

-- the table of a delete, over the entry that has the name
abbrev pub delete_rows : List EntryInformation → EntryInformation → List (Option ResultCode)
delete_rows entries target =
    -- it is the suffix
    when (is_suffix target.name entries) code.UnwillingToPerform
    -- entries stand below it
    ∷ when (has_below target.name entries) code.NotAllowedOnNonLeaf
    ∷ []

-- the entries without the target
abbrev pub without_target : List EntryInformation → EntryInformation → Result (List EntryInformation) ResultCode
without_target entries target = unless_refused (first_some (delete_rows entries target)) (taken_out target.name entries)

-- the entries without that of the name
abbrev pub without_named : List EntryInformation → RdnSequence → Result (List EntryInformation) ResultCode
without_named entries name = target_in entries name >>= without_target entries

-- what a delete leaves
unfoldable pub applied_delete : List EntryInformation → DeleteRequest → Result (List EntryInformation) ResultCode
applied_delete entries request = name_in request.name >>= without_named entries

-- ---- an add

-- the table of an add, over the new entry
abbrev pub add_rows : List EntryInformation → EntryInformation → List (Option ResultCode)
add_rows entries entry =
    -- an entry has the name
    taken_refusal (named_in entry.name entries)
    -- the superior is no entry
    ∷ when (not (has_name (superior_name entry.name) entries)) code.NoSuchObject
    -- a rule is broken
    ∷ rule_refusal (broken_rule None entries entry)
    ∷ []

-- the entries with a new one
abbrev pub with_new : List EntryInformation → EntryInformation → Result (List EntryInformation) ResultCode
with_new entries entry = unless_refused (first_some (add_rows entries entry)) (put_in entry entries)

-- the entries with one of the name, with the attributes
abbrev pub with_named : List EntryInformation → List KindValues → RdnSequence → Result (List EntryInformation) ResultCode
with_named entries given name = read_attributes given >>= λ attributes. with_new entries (new_entry name attributes)

-- what an add leaves
unfoldable pub applied_add : List EntryInformation → AddRequest → Result (List EntryInformation) ResultCode
applied_add entries request = name_in request.name >>= with_named entries request.attributes

-- ---- a modify

-- who grants everything
abbrev pub everything : Asker
everything = record { allows = λ item permission. true; adds = λ after kind value. true }

-- the entries with the target as the changes leave it
abbrev pub with_changed : List EntryInformation → List Modification → EntryInformation → Result (List EntryInformation) ResultCode
with_changed entries changes target = changed_by everything target changes >>= with_in_place entries target

-- the same of the entry of the name
abbrev pub with_changed_named : List EntryInformation → RdnSequence → List Modification → Result (List EntryInformation) ResultCode
with_changed_named entries name changes = target_in entries name >>= with_changed entries changes

-- the same by the changes that a request lists
abbrev pub with_modified : List EntryInformation → List Change → RdnSequence → Result (List EntryInformation) ResultCode
with_modified entries given name = read_changes given >>= with_changed_named entries name

-- what a modify leaves
unfoldable pub applied_modify : List EntryInformation → ModifyRequest → Result (List EntryInformation) ResultCode
applied_modify entries request = name_in request.name >>= with_modified entries request.changes

-- ---- a rename

-- the rows of a rename's table that the target and its superior decide
abbrev pub leaving_rows : List EntryInformation → Renaming → EntryInformation → List (Option ResultCode)
leaving_rows entries renaming target =
    -- it is the suffix, or its own new superior
    when (is_unmovable entries renaming target) code.UnwillingToPerform
    -- entries stand below it
    ∷ when (has_below target.name entries) code.NotAllowedOnNonLeaf
    -- the superior is no entry
    ∷ when (not (has_name (above renaming) entries)) code.NoSuchObject
    ∷ []

-- the entry that the target becomes
abbrev pub become : List EntryInformation → Renaming → EntryInformation → Result EntryInformation ResultCode
become entries renaming target =
    unless_refused (first_some (leaving_rows entries renaming target))
    (renamed_entry (new_name entries renaming) renaming.delete_old target)

-- the rows that the renamed entry decides
abbrev pub coming_rows : List EntryInformation → EntryInformation → EntryInformation → List (Option ResultCode)
coming_rows entries target entry =
    -- another entry has the new name
    taken_refusal (other_named entries target entry.name)
    -- a rule is broken
    ∷ rule_refusal (broken_rule (Some target) (taken_out target.name entries) entry)
    ∷ []

-- the entries with it in the target's place
abbrev pub with_moved : List EntryInformation → EntryInformation → EntryInformation → Result (List EntryInformation) ResultCode
with_moved entries target entry =
    unless_refused (first_some (coming_rows entries target entry)) (put_in entry (taken_out target.name entries))

-- the entries with the target renamed
abbrev pub with_renamed : List EntryInformation → Renaming → EntryInformation → Result (List EntryInformation) ResultCode
with_renamed entries renaming target = become entries renaming target >>= with_moved entries target

-- the same of the entry that has the name
abbrev pub with_renamed_named : List EntryInformation → Renaming → Result (List EntryInformation) ResultCode
with_renamed_named entries renaming = target_in entries renaming.name >>= with_renamed entries renaming

-- what is asked for: the root is no entry
abbrev pub renaming_by : Option Renaming → Result Renaming ResultCode
renaming_by None = Err code.InvalidDnSyntax
renaming_by (Some renaming) =
    if length renaming.name == 0 then Err code.UnwillingToPerform else Ok renaming

-- what a rename leaves
unfoldable pub applied_rename : List EntryInformation → RenameRequest → Result (List EntryInformation) ResultCode
applied_rename entries request = renaming_by (read_renaming request) >>= with_renamed_named entries

-- ---- any request

-- what a change leaves
abbrev pub applied_update : List EntryInformation → Update → Result (List EntryInformation) ResultCode
applied_update entries (update.Modify modify) = applied_modify entries modify
applied_update entries (update.Add add) = applied_add entries add
applied_update entries (update.Delete delete) = applied_delete entries delete
applied_update entries (update.Rename rename) = applied_rename entries rename

-- what a request leaves; one that changes nothing is none that may be applied
abbrev pub applied : List EntryInformation → Request → Result (List EntryInformation) ResultCode
applied entries (request.Update change) = applied_update entries change
applied entries other = Err code.ProtocolError
