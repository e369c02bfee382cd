-- What a compare is answered (RFC 4511 4.10, X.511 9.2): the first row of the table that applies.
use Rattle.std.specs.Prelude.{ℕ, Bool, not, ◌&&◌, List, [], ◌∷◌, filter, Option, Some, None, Result, Ok, Err, if◌then◌else◌}
use Rattle.std.specs.List.{list_any}
use Rattle.std.specs.Str.{bytes_eq}
use Rattle.dir_tree.specs.schema_tables.Attributes.{attr_of}
use Rattle.dir_tree.specs.dn_names.name.Names.{Keyed, RdnSequence}
use Rattle.dir_tree.specs.dn_names.declared.error.BadName.{BadName}
use Rattle.dir_tree.specs.dn_names.parsing.NameText.{read_name}
use Rattle.dir_tree.specs.dn_names.NameValues.{value_of}
use Rattle.dir_tree.specs.Entry.{values_of, has_kind}
use Rattle.acdf_filters.specs.aci_item.declared.permission.Permission.TheVariants.{Read, Compare, DiscloseOnError}
use Rattle.acdf_filters.specs.Asking.{Entry, Kind, Value}
use Rattle.ldap_msg.specs.declared.operations.ResultCode.TheVariants as code
use Rattle.ldap_msg.specs.declared.kinds.LdapResult.{LdapResult}
use Rattle.ldap_msg.specs.declared.kinds.CompareRequest.{CompareRequest}
use Rattle.read_model.specs.Views.{Row, View, has_name, hidden, result_of}

-- the entry has an equal value, and that may be compared
abbrev pub has_equal : ℕ → Keyed → Row → Bool
has_equal kind asserted row =
    list_any (λ value. bytes_eq asserted.key value.key && row.allows (Value kind value) Compare) (values_of kind row.entry.attributes)

-- the entry compared
unfoldable pub compared : ℕ → Keyed → Row → LdapResult
compared kind asserted row =
    -- the type may not be compared
    if not (row.allows (Kind kind) Compare) then
    (if row.allows (Kind kind) DiscloseOnError then result_of code.InsufficientAccessRights else result_of code.NoSuchAttribute)
    -- the entry has no such attribute
    else if not (has_kind kind row.entry.attributes) then result_of code.NoSuchAttribute
    -- it has an equal value or not
    else if has_equal kind asserted row then result_of code.CompareTrue
    else result_of code.CompareFalse

-- the first of the rows that have the name and may be read
abbrev pub readable : RdnSequence → Row → Bool
readable name row = has_name name row && row.allows Entry Read

-- the rows of the name that may be read: there is one, or the name is hidden
abbrev pub compared_in : View → RdnSequence → ℕ → Keyed → List Row → LdapResult
compared_in view name kind asserted [] = hidden view name
compared_in view name kind asserted (row ∷ rows) = compared kind asserted row

-- a compare with a value of a type's syntax, or none: the empty name is no entry's
abbrev pub compared_value : View → RdnSequence → ℕ → Option Keyed → LdapResult
compared_value view name kind None = result_of code.InvalidAttributeSyntax
compared_value view [] kind (Some asserted) = result_of code.UnwillingToPerform
compared_value view (rdn ∷ rdns) kind (Some asserted) =
    compared_in view (rdn ∷ rdns) kind asserted (filter (readable (rdn ∷ rdns)) view)

-- with a type, or none
abbrev pub compared_kind : View → RdnSequence → List ℕ → Option ℕ → LdapResult
compared_kind view name octets None = result_of code.UndefinedAttributeType
compared_kind view name octets (Some kind) = compared_value view name kind (value_of kind octets)

-- with a name, or none
abbrev pub compared_by : View → CompareRequest → Result RdnSequence BadName → LdapResult
compared_by view request (Err bad) = result_of code.InvalidDnSyntax
compared_by view request (Ok name) = compared_kind view name request.value (attr_of request.kind)

-- the result of a compare
unfoldable pub compare_result : View → CompareRequest → LdapResult
compare_result view request = compared_by view request (read_name request.name)
