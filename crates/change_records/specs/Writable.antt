-- The requests whose records say them: those that change something, with octets, types that have the form of one, and no
-- more than a record can say.
use Rattle.std.specs.Prelude.{◌≡◌, ℕ, ◌<◌, Bool, false, true, List, [], ◌∷◌, length, Option, Some, None}
use Rattle.std.specs.List.{AllByRecursion}
use Rattle.std.specs.Str.{bytes_eq}
use Rattle.base64.specs.GeneralPurpose.{IsBytes}
use Rattle.ldap_msg.specs.declared.kinds.KindValues.{KindValues}
use Rattle.ldap_msg.specs.declared.kinds.ModifyOperation.{ModifyOperation}
use Rattle.ldap_msg.specs.declared.kinds.ModifyOperation.TheVariants.{Add, Delete, Replace, Other}
use Rattle.ldap_msg.specs.declared.kinds.Change.{Change}
use Rattle.ldap_msg.specs.declared.kinds.Request.{Request}
use Rattle.ldap_msg.specs.declared.kinds.Request.TheVariants as request
use Rattle.ldap_msg.specs.declared.kinds.Update.TheVariants as update
use Rattle.ldif_records.specs.Fields.{is_kind, is_changetype}

-- a type that has its form, with values of octets
pub record IsWritableAttribute (given : KindValues) : Type 0 where
  pub kind : is_kind given.kind ≡ true
  pub values : AllByRecursion IsBytes given.values

-- the operation is one of the three that the standard has
abbrev pub is_standard : ModifyOperation → Bool
is_standard Add = true
is_standard Delete = true
is_standard Replace = true
is_standard (Other other) = false

-- one of the three operations on such an attribute, which may lack values (RFC 4511 4.6)
pub record IsWritableChange (change : Change) : Type 0 where
  pub operation : is_standard change.operation ≡ true
  pub body : IsWritableAttribute change.body

-- an attribute of a new entry: it has a value, and its type isn't `changetype`
pub record IsWritableGiven (given : KindValues) : Type 0 where
  pub body : IsWritableAttribute given
  pub filled : 0 < length given.values
  pub other : is_changetype given.kind ≡ false

-- neighbours have other types: two of one type would be read as one
abbrev pub AreApart : List KindValues → Type 0
AreApart [] = Unit {0}
AreApart (one ∷ []) = Unit {0}
AreApart (one ∷ other ∷ rest) = (bytes_eq other.kind one.kind ≡ false) × AreApart (other ∷ rest)

-- the octets, where there are some
abbrev pub AreBytes : Option (List ℕ) → Type 0
AreBytes None = Unit {0}
AreBytes (Some octets) = IsBytes octets

-- the request changes something, and can be written as a record
abbrev pub IsWritable : Request → Type 0
IsWritable (request.Bind bind) = ⊥
IsWritable request.Unbind = ⊥
IsWritable (request.Search search) = ⊥
IsWritable (request.Update (update.Modify modify)) = IsBytes modify.name × AllByRecursion IsWritableChange modify.changes
IsWritable (request.Update (update.Add add)) =
    IsBytes add.name × AllByRecursion IsWritableGiven add.attributes × AreApart add.attributes
IsWritable (request.Update (update.Delete delete)) = IsBytes delete.name
IsWritable (request.Update (update.Rename rename)) = IsBytes rename.name × IsBytes rename.new_rdn × AreBytes rename.superior
IsWritable (request.Compare compare) = ⊥
IsWritable (request.Abandon id) = ⊥
IsWritable (request.Extended name value) = ⊥

-- 32 octets
pub record IsDigest (digest : List ℕ) : Type 0 where
  pub size : length digest ≡ 32
  pub octets : IsBytes digest
