-- When nothing refuses a change of an entry's attributes (RFC 4511 4.6, X.511 11.3): the decisions that it asks for are
-- granted, and the values are such that it can be made.
use Rattle.std.specs.Prelude.{◌≡◌, ◌≢◌, ℕ, true, false, List, [], ◌∷◌}
use Rattle.std.specs.List.{AllByRecursion}
use Rattle.dir_tree.specs.dn_names.name.Names.{Keyed}
use Rattle.dir_tree.specs.Entry.{EntryInformation, values_of, has_key}
use Rattle.acdf_filters.specs.aci_item.declared.permission.Permission.TheVariants as permission
use Rattle.acdf_filters.specs.Asking.{Kind, Value}
use Rattle.entry_changes.specs.declared.kind.ChangeKind.{ChangeKind}
use Rattle.entry_changes.specs.declared.kind.ChangeKind.TheVariants.{Add, Delete, Replace}
use Rattle.entry_changes.specs.Change.{Asks, Asker, Modification, asks_after, has_octets, made}

-- the value is none of those that are there, and may be added
pub record MayAddValue (asks : Asks) (kind : ℕ) (old : List Keyed) (value : Keyed) : Type 0 where
  pub new : has_key value.key old ≡ false
  pub allowed : asks (Value kind value) permission.Add ≡ true

-- values may be added: their type, where none of it is there, and each of them
pub record MayAddValues (asks : Asks) (kind : ℕ) (old given : List Keyed) : Type 0 where
  pub comes : old ≡ [] → asks (Kind kind) permission.Add ≡ true
  pub each : AllByRecursion (MayAddValue asks kind old) given

-- the value may be removed, and is there
pub record MayRemoveValue (asks : Asks) (kind : ℕ) (old : List Keyed) (value : Keyed) : Type 0 where
  pub allowed : asks (Value kind value) permission.Remove ≡ true
  pub there : has_key value.key old ≡ true

-- the attribute may be removed as a whole, and is there
pub record MayRemoveKind (asks : Asks) (kind : ℕ) (old : List Keyed) : Type 0 where
  pub allowed : asks (Kind kind) permission.Remove ≡ true
  pub there : old ≢ []

-- what is given may be removed: the attribute, where no value is given, and else each value
abbrev pub MayRemoveValues : Asks → ℕ → List Keyed → List Keyed → Type 0
MayRemoveValues asks kind old [] = MayRemoveKind asks kind old
MayRemoveValues asks kind old (value ∷ values) = AllByRecursion (MayRemoveValue asks kind old) (value ∷ values)

-- values may take the place of the old ones: their type may come and go, as it does, and so may each value. One that stays
-- with the same octets asks for nothing
pub record MayReplaceValues (asks : Asks) (kind : ℕ) (old given : List Keyed) : Type 0 where
  pub comes : old ≡ [] → given ≢ [] → asks (Kind kind) permission.Add ≡ true
  pub goes : old ≢ [] → given ≡ [] → asks (Kind kind) permission.Remove ≡ true
  pub each_goes : AllByRecursion (λ value. has_octets value given ≡ false → asks (Value kind value) permission.Remove ≡ true) old
  pub each_comes : AllByRecursion (λ value. has_octets value old ≡ false → asks (Value kind value) permission.Add ≡ true) given

-- what is done with values of the type may be done, where these are there
abbrev pub MayDo : ChangeKind → Asks → ℕ → List Keyed → List Keyed → Type 0
MayDo Add asks kind old given = MayAddValues asks kind old given
MayDo Delete asks kind old given = MayRemoveValues asks kind old given
MayDo Replace asks kind old given = MayReplaceValues asks kind old given

-- the change of the entry may be made: a value that comes is asked for by what the change leaves
abbrev pub MayChange : Asker → EntryInformation → Modification → Type 0
MayChange asker entry change =
    MayDo change.change (asks_after asker (made change entry)) change.kind (values_of change.kind entry.attributes) change.values

-- the changes may be made in their order, each of the entry that those before it left, and leave the last one
abbrev pub MayChangeEach : Asker → EntryInformation → List Modification → EntryInformation → Type 0
MayChangeEach asker entry [] left = entry ≡ left
MayChangeEach asker entry (change ∷ changes) left =
    MayChange asker entry change × MayChangeEach asker (made change entry) changes left
