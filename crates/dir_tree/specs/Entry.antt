-- What entries are (X.501 8.2 and 9.4): a name, and attributes, the earlier ones first.
use Rattle.std.specs.Prelude.{◌≢◌, ℕ, ◌==◌, Bool, if◌then◌else◌, List, [], ◌∷◌, map}
use Rattle.std.specs.List.{AllByRecursion, IsDistinct, list_any}
use Rattle.std.specs.Str.{bytes_eq}
use Rattle.dn_names.specs.name.Names.{Keyed, RdnSequence}

-- an attribute: its type, by its number in the table, and its values, the earlier ones first
pub record Attribute : Type 0 where
  pub kind : ℕ
  pub values : List Keyed

-- an entry
pub record EntryInformation : Type 0 where
  pub name : RdnSequence
  pub attributes : List Attribute

-- the types of the attributes
abbrev pub kinds_of : List Attribute → List ℕ
kinds_of attributes = map (λ attribute. attribute.kind) attributes

-- one of the attributes is of the type
abbrev pub has_kind : ℕ → List Attribute → Bool
has_kind kind attributes = list_any (λ other. kind == other) (kinds_of attributes)

-- the values of the type: none where it isn't there
abbrev pub values_of : ℕ → List Attribute → List Keyed
values_of kind [] = []
values_of kind (first ∷ rest) = if kind == first.kind then first.values else values_of kind rest

-- one of the values has the key
abbrev pub has_key : List ℕ → List Keyed → Bool
has_key key values = list_any (λ value. bytes_eq key value.key) values

-- two values match: their keys are equal
abbrev pub is_match : Keyed → Keyed → Bool
is_match one other = bytes_eq one.key other.key

-- an attribute has a value, and no two of its values match
pub record IsGoodAttribute (attribute : Attribute) : Type 0 where
  pub filled : attribute.values ≢ []
  pub distinct : IsDistinct is_match attribute.values

-- each attribute is so, and no two are of one type
pub record IsGoodAttributes (attributes : List Attribute) : Type 0 where
  pub good : AllByRecursion IsGoodAttribute attributes
  pub distinct : IsDistinct (λ one other. one == other) (kinds_of attributes)
