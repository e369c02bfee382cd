-- How a change is taken step by step: what a call answers for each step.
use Rattle.std.specs.Prelude.{ℕ, Bool, not, List, [], ◌∷◌, ◌&&◌, map, filter, Option}
use Rattle.dir_tree.specs.dn_names.name.Names.{Keyed}
use Rattle.dir_tree.specs.Entry.{EntryInformation, has_key}
use Rattle.acdf_filters.specs.aci_item.declared.permission.Permission.TheVariants.{Add}
use Rattle.acdf_filters.specs.Asking.{Kind, Value}
use Rattle.ldap_msg.specs.plain_values.Refusals.{when, first_some}
use Rattle.ldap_msg.specs.declared.operations.ResultCode.{ResultCode}
use Rattle.ldap_msg.specs.declared.operations.ResultCode.TheVariants as code
use Rattle.entry_changes.specs.declared.pending.Pending.{Pending}
use Rattle.entry_changes.specs.Change.{Asks, exists_already, without_each}

-- whether each value is there: one of the old ones matches it
abbrev pub there_among : List Keyed → List Keyed → List Bool
there_among old values = map (λ value. has_key value.key old) values

-- why a value is not added, of which it is known whether it is there
abbrev pub add_row : Asks → ℕ → Bool → Keyed → Option ResultCode
add_row asks kind there value = first_some (
    when there (exists_already asks kind value)
    ∷ when (not (asks (Value kind value) Add)) code.InsufficientAccessRights
    ∷ []
    )

-- the same of each of the values
abbrev pub add_rows : Asks → ℕ → List Bool → List Keyed → List (Option ResultCode)
add_rows asks kind (there ∷ more) (value ∷ values) = add_row asks kind there value ∷ add_rows asks kind more values
add_rows asks kind (there ∷ more) [] = []
add_rows asks kind [] values = []

-- why values are not added, of which it is known whether each is there, and whether none of their type is
abbrev pub add_table : Asks → ℕ → Bool → List Bool → List Keyed → Option ResultCode
add_table asks kind absent there values = first_some (
    when (absent && not (asks (Kind kind) Add)) code.InsufficientAccessRights
    ∷ add_rows asks kind there values
    )

-- the values that match none of those that go
abbrev pub staying : List Keyed → List Keyed → List Keyed
staying gone values = filter (λ value. not (has_key value.key gone)) values

-- the entry that is meant: the values that are still to be taken out are none of it
abbrev pub left_in : Pending → EntryInformation
left_in pending = without_each pending.kind.0 pending.gone pending.entry
