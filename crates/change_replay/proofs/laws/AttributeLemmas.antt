-- The attributes that are read of a request are good, and so are those of the entry that it describes.
use Rattle.std.proofs.Common.{◌≡◌, ◌≢◌, ℕ, ◌==◌, Bool, true, false, List, [], ◌∷◌, length, if◌then◌else◌, Option, Some, None, Ok, Err, refl, subst, ◌∙◌}
use Rattle.std.specs.List.{AllByRecursion, list_any}
use Rattle.std.proofs.lemmas.Bool.{or_parts}
use Rattle.dir_tree.specs.plain_values.Results.{◌>>=◌}
use Rattle.dir_tree.proofs.plain_values_proofs.Theorems.{both_given}
use Rattle.dir_tree.specs.schema_tables.Attributes.{attr_of}
use Rattle.dir_tree.specs.dn_names.name.Names.{RdnSequence, last_rdn}
use Rattle.dir_tree.specs.Entry.{Attribute, kinds_of, is_match, IsGoodAttribute, IsGoodAttributes}
use Rattle.op_add_delete.proofs.ldif_load_proofs.Theorems.{name-with_pairs, good-with_pairs}
use Rattle.change_laws.specs.op_modify.ldap_msg.declared.operations.ResultCode.{ResultCode}
use Rattle.change_laws.specs.op_modify.ldap_msg.declared.kinds.KindValues.{KindValues}
use Rattle.op_add_delete.specs.reading.NewEntries.{read_values, read_known, read_attribute, read_each, repeats, has_twice, without_twice, lacks_values, read_attributes, new_entry}
use Rattle.op_add_delete.proofs.Theorems.{distinct-repeats as IsDistinct-from_repeats, values-filled as filled-read_values}

-- the attribute has a value
abbrev IsFilled : Attribute → Type 0
IsFilled attribute = attribute.values ≢ []

filled-read_known :
    (given : List (List ℕ)) (kind : Option ℕ) (attribute : Attribute) → (length given == 0) ≡ false
    → read_known given kind ≡ Ok attribute → IsFilled attribute
filled-read_known given None attribute some is = absurd cc
filled-read_known given (Some kind) attribute some is =
    let read = both_given (read_values kind given) (λ values. Ok (record { kind = kind; values = values })) attribute is in
    let same : record { kind = kind; values = read.0 } ≡ attribute = cc read.2 in
    subst IsFilled same (filled-read_values kind given read.0 some read.1)

filled-read_each :
    (given : List KindValues) (attributes : List Attribute) → list_any lacks_values given ≡ false
    → read_each given ≡ Ok attributes → AllByRecursion IsFilled attributes
unfolding read_each
filled-read_each [] attributes some is =
    let same : [] ≡ attributes = cc in
    subst (λ attributes. AllByRecursion IsFilled attributes) same tt
filled-read_each (one ∷ rest) attributes some is =
    let parts = or_parts (lacks_values one) (list_any lacks_values rest) some in
    let first = both_given (read_attribute one) (λ attribute. read_each rest >>= λ attributes. Ok (attribute ∷ attributes)) attributes is in
    let later = both_given (read_each rest) (λ attributes. Ok (first.0 ∷ attributes)) attributes first.2 in
    let same : first.0 ∷ later.0 ≡ attributes = cc later.2 in
    subst (λ attributes. AllByRecursion IsFilled attributes) same
    (filled-read_known one.values (attr_of one.kind) first.0 parts.0 first.1, filled-read_each rest later.0 parts.1 later.1)

-- items of which none repeats are distinct
good_each :
    (attributes : List Attribute) → AllByRecursion IsFilled attributes
    → list_any (λ attribute. repeats is_match attribute.values) attributes ≡ false → AllByRecursion IsGoodAttribute attributes
good_each [] filled none = tt
good_each (first ∷ rest) filled none =
    let parts = or_parts (repeats is_match first.values) (list_any (λ attribute. repeats is_match attribute.values) rest) none in
    (record { filled = filled.0; distinct = IsDistinct-from_repeats is_match first.values parts.0 }, good_each rest filled.1 parts.1)

good_once :
    (twice : Bool) (found attributes : List Attribute) (fault : ResultCode) → has_twice found ≡ twice
    → AllByRecursion IsFilled found
    → (if twice then Err fault else Ok found) ≡ Ok attributes → IsGoodAttributes attributes
good_once true found attributes fault twice filled is = absurd cc
good_once false found attributes fault twice filled is =
    let same : found ≡ attributes = cc in
    let parts = or_parts (repeats (λ one other. one == other) (kinds_of found)) (list_any (λ attribute. repeats is_match attribute.values) found) twice in
    subst IsGoodAttributes same (record {
      good = good_each found filled parts.1;
      distinct = IsDistinct-from_repeats (λ one other. one == other) (kinds_of found) parts.0;
    })

good_where_filled :
    (lacks : Bool) (given : List KindValues) (attributes : List Attribute) (fault : ResultCode) → list_any lacks_values given ≡ lacks
    → (if lacks then Err fault else (read_each given >>= without_twice)) ≡ Ok attributes → IsGoodAttributes attributes
good_where_filled true given attributes fault lacks is = absurd cc
good_where_filled false given attributes fault lacks is =
    let read = both_given (read_each given) without_twice attributes is in
    good_once (has_twice read.0) read.0 attributes _ refl (filled-read_each given read.0 lacks read.1) read.2

pub IsGoodAttributes-read :
    (given : List KindValues) (attributes : List Attribute) → read_attributes given ≡ Ok attributes → IsGoodAttributes attributes
unfolding read_attributes
IsGoodAttributes-read given attributes is =
    good_where_filled (list_any lacks_values given) given attributes _ refl is

-- so has the entry that a request describes
pub name-new_entry : (name : RdnSequence) (attributes : List Attribute) → (new_entry name attributes).name ≡ name
name-new_entry name attributes = name-with_pairs (record { name = name; attributes = attributes }) (last_rdn name)

pub good-new_entry :
    (name : RdnSequence) (given : List KindValues) (attributes : List Attribute) → read_attributes given ≡ Ok attributes
    → IsGoodAttributes (new_entry name attributes).attributes
good-new_entry name given attributes is =
    good-with_pairs (record { name = name; attributes = attributes }) (last_rdn name) (IsGoodAttributes-read given attributes is)
