-- Why an entry is not added (RFC 4511 4.7, X.511 11.1): a table by rows, of which the first that applies decides. Each
-- decision is taken over the entries without the new one. That a refused permission is told even where the entry could
-- not be known of is this profile's choice.
use Rattle.std.specs.Prelude.{Bool, not, ◌||◌, List, [], ◌∷◌, Option, Some, None, if◌then◌else◌}
use Rattle.std.specs.List.{list_any}
use Rattle.dir_tree.specs.dn_names.name.Names.{RdnSequence}
use Rattle.dir_tree.specs.Entry.{Attribute, EntryInformation}
use Rattle.dir_tree.specs.tree.Trees.{named_in, has_name, superior_name}
use Rattle.acdf_filters.specs.aci_item.Rules.{broken_rule}
use Rattle.acdf_filters.specs.aci_item.declared.entry_rule.EntryRule.{EntryRule}
use Rattle.acdf_filters.specs.aci_item.declared.permission.Permission.{Permission}
use Rattle.acdf_filters.specs.aci_item.declared.permission.Permission.TheVariants.{Add, DiscloseOnError}
use Rattle.acdf_filters.specs.declared.asking.Requester.{Requester}
use Rattle.acdf_filters.specs.Asking.{Protected, Entry, Kind, Value}
use Rattle.acdf_filters.specs.Granted.{granted, granted_new}
use Rattle.ldap_msg.specs.declared.operations.ResultCode.TheVariants as code
use Rattle.ldap_msg.specs.declared.kinds.LdapResult.{LdapResult}
use Rattle.read_model.specs.Views.{view_of, no_such_object, result_of}
use Rattle.ldap_msg.specs.plain_values.Refusals.{when, first_some}
use Rattle.op_add_delete.specs.RuleCodes.{rule_code}

-- what is answered where another entry has the name: as where there is none, if it may neither be known of nor be added
abbrev pub there_already : List EntryInformation → Requester → RdnSequence → EntryInformation → LdapResult
there_already entries who name other =
    if granted entries who other Entry DiscloseOnError || granted entries who other Entry Add
    then result_of code.EntryAlreadyExists
    else no_such_object (view_of entries who) name

-- the name is that of an entry, if there is one
abbrev pub taken_refusal : List EntryInformation → Requester → RdnSequence → Option EntryInformation → Option LdapResult
taken_refusal entries who name None = None
taken_refusal entries who name (Some other) = Some (there_already entries who name other)

-- the attribute may not be added: its type, or one of its values
abbrev pub refuses_attribute : (Protected → Permission → Bool) → Attribute → Bool
refuses_attribute allows attribute =
    not (allows (Kind attribute.kind) Add) || list_any (λ value. not (allows (Value attribute.kind value) Add)) attribute.values

-- the entry may not be added: itself, or one of its attributes
unfoldable pub refuses_entry : (Protected → Permission → Bool) → EntryInformation → Bool
refuses_entry allows entry = not (allows Entry Add) || list_any (refuses_attribute allows) entry.attributes

-- a rule is broken, if one is
abbrev pub rule_refusal : Option EntryRule → Option LdapResult
rule_refusal None = None
rule_refusal (Some rule) = Some (result_of (rule_code rule))

-- the table, over the new entry and its name
abbrev pub add_rows : List EntryInformation → Requester → RdnSequence → EntryInformation → List (Option LdapResult)
add_rows entries who name entry =
    -- an entry has the name
    taken_refusal entries who name (named_in name entries)
    -- the superior is no entry
    ∷ when (not (has_name (superior_name name) entries)) (no_such_object (view_of entries who) name)
    -- the entry, a type or a value may not be added
    ∷ when (refuses_entry (granted_new entries who entry) entry) (result_of code.InsufficientAccessRights)
    -- a rule is broken
    ∷ rule_refusal (broken_rule None entries entry)
    ∷ []

-- why the new entry of the name is not added
unfoldable pub add_refusal : List EntryInformation → Requester → RdnSequence → EntryInformation → Option LdapResult
add_refusal entries who name entry = first_some (add_rows entries who name entry)
