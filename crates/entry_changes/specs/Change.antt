-- How a modify request changes an entry (RFC 4511 4.6, X.511 11.3): its changes in their order, each of which is refused or
-- made. Every decision is that over the directory before the first change; where it is on a value that a change adds, the
-- entry counts as the change would leave it. The values of a change are distinct, so each is judged against the values that
-- are there before the change, as if it came alone.
use Rattle.std.specs.Prelude.{ℕ, Bool, true, false, not, ◌&&◌, ◌||◌, List, [], ◌∷◌, ◌++◌, map, fold, Option, Some, None, Result, Ok, Err, if◌then◌else◌}
use Rattle.std.specs.List.{list_any}
use Rattle.std.specs.Str.{bytes_eq}
use Rattle.ldap_msg.specs.plain_values.Results.{◌>>=◌}
use Rattle.dir_tree.specs.dn_names.name.Names.{Keyed}
use Rattle.dir_tree.specs.Entry.{EntryInformation, values_of, has_key}
use Rattle.dir_tree.specs.attributes.Changes.{with_value, with_values, without_value, without_kind}
use Rattle.acdf_filters.specs.aci_item.declared.permission.Permission.{Permission}
use Rattle.acdf_filters.specs.aci_item.declared.permission.Permission.TheVariants.{Add, Remove, DiscloseOnError}
use Rattle.acdf_filters.specs.Asking.{Protected, Kind, Value}
use Rattle.ldap_msg.specs.declared.operations.ResultCode.{ResultCode}
use Rattle.ldap_msg.specs.declared.operations.ResultCode.TheVariants as code
use Rattle.entry_changes.specs.declared.kind.ChangeKind.{ChangeKind}
use Rattle.entry_changes.specs.declared.kind.ChangeKind.TheVariants as change_kind
use Rattle.entry_changes.specs.declared.fault.ChangeFault.{ChangeFault}
use Rattle.entry_changes.specs.declared.fault.ChangeFault.TheVariants as fault
use Rattle.ldap_msg.specs.plain_values.Refusals.{when, first_some}

-- what the requester has the permission for, of one entry
abbrev pub Asks : Type 0
Asks = Protected → Permission → Bool

-- who answers of one entry: for which permissions the requester has, and whether a value may be added to the entry, by what
-- it would be afterwards
pub record Asker : Type 0 where
  pub allows : Asks
  pub adds : EntryInformation → ℕ → Keyed → Bool

-- what the requester has the permission for in a change that leaves this
abbrev pub asks_after : Asker → EntryInformation → Asks
asks_after asker after (Value kind value) Add = asker.adds after kind value
asks_after asker after item permission = asker.allows item permission

-- a change: what is done, and the type and the values that it is done with
pub record Modification : Type 0 where
  pub change : ChangeKind
  pub kind : ℕ
  pub values : List Keyed

-- no values are there
abbrev pub are_none : List Keyed → Bool
are_none [] = true
are_none (first ∷ rest) = false

-- ---- refusals

-- an item may not be removed: insufficientAccessRights where it may be known of, and else noSuchAttribute, as where it is
-- not there
abbrev pub withheld : Asks → Protected → ResultCode
withheld asks item = if asks item DiscloseOnError then code.InsufficientAccessRights else code.NoSuchAttribute

-- a value is there already: attributeOrValueExists where it may be known of or be added, and else
-- insufficientAccessRights, as where it is not there
abbrev pub exists_already : Asks → ℕ → Keyed → ResultCode
exists_already asks kind value =
    if asks (Value kind value) DiscloseOnError || asks (Value kind value) Add then code.AttributeOrValueExists
    else code.InsufficientAccessRights

-- why a value is not added beside the old ones
abbrev pub add_value_refusal : Asks → ℕ → List Keyed → Keyed → Option ResultCode
add_value_refusal asks kind old value = first_some (
    -- a value that matches is there
    when (has_key value.key old) (exists_already asks kind value)
    -- it may not be added
    ∷ when (not (asks (Value kind value) Add)) code.InsufficientAccessRights
    ∷ []
    )

-- why values are not added: an attribute that is not there yet must be allowed as such
unfoldable pub add_refusal : Asks → ℕ → List Keyed → List Keyed → Option ResultCode
add_refusal asks kind old values = first_some (
    when (are_none old && not (asks (Kind kind) Add)) code.InsufficientAccessRights
    ∷ map (add_value_refusal asks kind old) values
    )

-- why a value is not deleted
abbrev pub delete_value_refusal : Asks → ℕ → List Keyed → Keyed → Option ResultCode
delete_value_refusal asks kind old value = first_some (
    -- it may not be removed
    when (not (asks (Value kind value) Remove)) (withheld asks (Value kind value))
    -- no value that matches is there
    ∷ when (not (has_key value.key old)) code.NoSuchAttribute
    ∷ []
    )

-- why values are not deleted, or, where none is named, the attribute
unfoldable pub delete_refusal : Asks → ℕ → List Keyed → List Keyed → Option ResultCode
delete_refusal asks kind old [] = first_some (
    -- the attribute may not be removed
    when (not (asks (Kind kind) Remove)) (withheld asks (Kind kind))
    -- it is not there
    ∷ when (are_none old) code.NoSuchAttribute
    ∷ []
    )
delete_refusal asks kind old (value ∷ values) = first_some (map (delete_value_refusal asks kind old) (value ∷ values))

-- one of the values has the value's octets, spelling included
abbrev pub has_octets : Keyed → List Keyed → Bool
has_octets value values = list_any (λ other. bytes_eq value.octets other.octets) values

-- why an old value is not replaced: it goes where no new one has its octets
abbrev pub goes_refusal : Asks → ℕ → List Keyed → Keyed → Option ResultCode
goes_refusal asks kind values value =
    when (not (has_octets value values) && not (asks (Value kind value) Remove)) (withheld asks (Value kind value))

-- why a new value does not take the place of old ones: it comes where no old one has its octets
abbrev pub comes_refusal : Asks → ℕ → List Keyed → Keyed → Option ResultCode
comes_refusal asks kind old value =
    when (not (has_octets value old) && not (asks (Value kind value) Add)) code.InsufficientAccessRights

-- why values don't take the place of those that are there
unfoldable pub replace_refusal : Asks → ℕ → List Keyed → List Keyed → Option ResultCode
replace_refusal asks kind old values = first_some (
    -- the attribute comes, and may not be added
    when (are_none old && (not (are_none values) && not (asks (Kind kind) Add))) code.InsufficientAccessRights
    -- it goes, and may not be removed
    ∷ when (not (are_none old) && (are_none values && not (asks (Kind kind) Remove))) (withheld asks (Kind kind))
    -- an old value may not be removed, or a new one not be added
    ∷ map (goes_refusal asks kind values) old ++ map (comes_refusal asks kind old) values
    )

-- why a change of this kind is not made, by the values of its type that are there
abbrev pub refusal_by : ChangeKind → Asks → ℕ → List Keyed → List Keyed → Option ResultCode
refusal_by change_kind.Add asks kind old values = add_refusal asks kind old values
refusal_by change_kind.Delete asks kind old values = delete_refusal asks kind old values
refusal_by change_kind.Replace asks kind old values = replace_refusal asks kind old values

-- the same of a change
abbrev pub change_refusal : Asks → Modification → List Keyed → Option ResultCode
change_refusal asks change old = refusal_by change.change asks change.kind old change.values

-- ---- effects

-- the entry with values of the type, last
abbrev pub with_each : ℕ → List Keyed → EntryInformation → EntryInformation
with_each kind values entry = fold (λ entry value. with_value kind value entry) entry values

-- the entry without those values of the type that match these
abbrev pub without_each : ℕ → List Keyed → EntryInformation → EntryInformation
without_each kind values entry = fold (λ entry value. without_value kind value.key entry) entry values

-- what a change of this kind leaves of an entry
abbrev pub left_by : ChangeKind → ℕ → List Keyed → EntryInformation → EntryInformation
left_by change_kind.Add kind values entry = with_each kind values entry
left_by change_kind.Delete kind [] entry = without_kind kind entry
left_by change_kind.Delete kind (value ∷ values) entry = without_each kind (value ∷ values) entry
left_by change_kind.Replace kind [] entry = without_kind kind entry
left_by change_kind.Replace kind (value ∷ values) entry = with_values kind (value ∷ values) entry

-- the entry with a change, were it not refused
abbrev pub made : Modification → EntryInformation → EntryInformation
made change entry = left_by change.change change.kind change.values entry

-- what is left, unless there is a refusal
abbrev pub unless_refused : {A : Type 0} → Option ResultCode → A → Result A ResultCode
unless_refused None left = Ok left
unless_refused (Some refusal) left = Err refusal

-- the entry with a change, or why it is not made
abbrev pub changed : Asker → EntryInformation → Modification → Result EntryInformation ResultCode
changed asker entry change =
    unless_refused (change_refusal (asks_after asker (made change entry)) change (values_of change.kind entry.attributes))
    (made change entry)

-- the entry with changes in their order, or why the first that is refused is not made
unfoldable pub changed_by : Asker → EntryInformation → List Modification → Result EntryInformation ResultCode
changed_by asker entry [] = Ok entry
changed_by asker entry (change ∷ changes) = changed asker entry change >>= λ left. changed_by asker left changes

-- the code of a fault; want of memory has none
abbrev pub cause_of : ChangeFault → Option ResultCode
cause_of (fault.Refused refusal) = Some refusal
cause_of fault.NoMemory = None
