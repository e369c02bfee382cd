-- Why an entry is not deleted (RFC 4511 4.8, X.511 11.2): a table by rows, of which the first that applies decides. Each
-- decision is taken over all entries.
use Rattle.std.specs.Prelude.{not, List, [], ◌∷◌, Option}
use Rattle.dir_tree.specs.dn_names.name.Names.{RdnSequence}
use Rattle.dir_tree.specs.Entry.{EntryInformation}
use Rattle.dir_tree.specs.tree.Trees.{has_below}
use Rattle.acdf_filters.specs.aci_item.declared.permission.Permission.TheVariants.{Remove}
use Rattle.acdf_filters.specs.declared.asking.Requester.{Requester}
use Rattle.acdf_filters.specs.Asking.{Entry}
use Rattle.acdf_filters.specs.Granted.{granted}
use Rattle.ldap_msg.specs.declared.operations.ResultCode.TheVariants as code
use Rattle.ldap_msg.specs.declared.kinds.LdapResult.{LdapResult}
use Rattle.read_model.specs.Views.{view_of, hidden, result_of}
use Rattle.directory.specs.Targets.{is_suffix, not_leaf}
use Rattle.ldap_msg.specs.plain_values.Refusals.{when, first_some}

-- the table, over the entry that has the name
abbrev pub delete_rows : List EntryInformation → Requester → RdnSequence → EntryInformation → List (Option LdapResult)
delete_rows entries who name target =
    -- it may not be removed
    when (not (granted entries who target Entry Remove)) (hidden (view_of entries who) name)
    -- it is the suffix
    ∷ when (is_suffix target.name entries) (result_of code.UnwillingToPerform)
    -- entries stand below it
    ∷ when (has_below target.name entries) (not_leaf entries who name target)
    ∷ []

-- why the entry that has the name is not deleted
unfoldable pub delete_refusal : List EntryInformation → Requester → RdnSequence → EntryInformation → Option LdapResult
delete_refusal entries who name target = first_some (delete_rows entries who name target)
