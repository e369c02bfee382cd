-- What a target's place in the tree forbids.
use Rattle.std.specs.Prelude.{Bool, false, List, [], ◌∷◌, if◌then◌else◌}
use Rattle.dir_tree.specs.dn_names.name.Names.{RdnSequence}
use Rattle.dir_tree.specs.Entry.{EntryInformation}
use Rattle.dir_tree.specs.tree.Trees.{is_named}
use Rattle.acdf_filters.specs.aci_item.declared.permission.Permission.TheVariants.{DiscloseOnError}
use Rattle.acdf_filters.specs.declared.asking.Requester.{Requester}
use Rattle.acdf_filters.specs.Asking.{Entry}
use Rattle.acdf_filters.specs.Granted.{granted}
use Rattle.ldap_msg.specs.declared.operations.ResultCode.TheVariants as code
use Rattle.ldap_msg.specs.declared.kinds.LdapResult.{LdapResult}
use Rattle.read_model.specs.Views.{view_of, no_such_object, result_of}

-- the name is that of the first entry, the suffix
abbrev pub is_suffix : RdnSequence → List EntryInformation → Bool
is_suffix name [] = false
is_suffix name (first ∷ rest) = is_named name first

-- what is answered where entries stand below the target: as where there is none, if it may not be known of
abbrev pub not_leaf : List EntryInformation → Requester → RdnSequence → EntryInformation → LdapResult
not_leaf entries who name target =
    if granted entries who target Entry DiscloseOnError then result_of code.NotAllowedOnNonLeaf
    else no_such_object (view_of entries who) name
