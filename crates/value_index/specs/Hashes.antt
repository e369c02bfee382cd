-- The hashes under which an entry is posted: one for each value of an attribute, and where it has many values one for the
-- attribute. How values are hashed is this server's choice; a hash says nothing but where to look.
use Rattle.std.specs.Prelude.{ℕ, ◌+◌, ◌*◌, ◌%◌, ◌==◌, nat_le, Bool, not, List, [], ◌∷◌, length, map, flat_map, fold, if◌then◌else◌}
use Rattle.std.specs.List.{list_any}
use Rattle.dir_tree.specs.Entry.{Attribute, EntryInformation}
use Rattle.dir_tree.specs.EntryClasses.{object_class}

-- how many values of an attribute are posted each, at most
abbrev pub most_values : ℕ
most_values = 32

-- the hash of what was hashed and an octet more, of 32 bits
unfoldable pub hash_step : ℕ → ℕ → ℕ
hash_step hash octet = (hash * 16777619 + octet) % 4294967296

-- the hash of an attribute type and the key of a value
unfoldable pub hash_of : ℕ → List ℕ → ℕ
hash_of kind key = fold hash_step (hash_step 2166136261 kind) key

-- the hash of an attribute type alone
abbrev pub type_hash : ℕ → ℕ
type_hash kind = hash_of kind []

-- whether values of the type are posted: of all but objectClass, where a class stands for those above it too
abbrev pub is_indexed : ℕ → Bool
is_indexed kind = not (kind == object_class)

-- the hashes of an attribute whose type is posted: of each value, or of the type alone where there are many values
abbrev pub value_hashes : Attribute → List ℕ
value_hashes attribute =
    if nat_le (length attribute.values) most_values then map (λ value. hash_of attribute.kind value.key) attribute.values
    else type_hash attribute.kind ∷ []

-- the hashes of an attribute
abbrev pub attribute_hashes : Attribute → List ℕ
attribute_hashes attribute = if is_indexed attribute.kind then value_hashes attribute else []

-- the hashes of an entry
abbrev pub hashes_of : EntryInformation → List ℕ
hashes_of entry = flat_map attribute_hashes entry.attributes

-- whether the hash is one of them
abbrev pub has_hash : ℕ → List ℕ → Bool
has_hash hash hashes = list_any (λ other. other == hash) hashes
