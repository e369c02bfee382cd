-- What a change leaves in the map is what it leaves of the attributes.
use Rattle.std.proofs.Common.{◌≡◌, ℕ, ◌==◌, nat_lt, Bool, true, false, ◌||◌, cond, filter, map, length, List, [], ◌∷◌, ◌++◌, Some, None, is_some, refl, ◌∙◌, append_assoc, arith}
use Rattle.std.specs.List.{AllByRecursion, IsDistinct}
use Rattle.std.specs.Map.{lookup, keys_of, set_value, remove_entry}
use Rattle.std.proofs.lemmas.Bool.Decides.{nat_tests}
use Rattle.indexmap.specs.IndexMap.{insert_entry}
use Rattle.schema_tables.specs.declared.kinds.AttrId.{AttrId}
use Rattle.dn_names.specs.name.Names.{Keyed}
use Rattle.dir_tree.specs.Entry.{Attribute, kinds_of, has_kind}
use Rattle.dir_tree.specs.attributes.Changes.{put_value, without_key, cut_attribute, is_filled, other_attributes}
use Rattle.dir_tree.specs.attributes.Rows.{attributes_of}
use Rattle.dir_tree.proofs.entry.RowLemmas.{is_kind}

-- a key like the first one is apart from the later ones
later-apart :
    (kind other : AttrId) (keys : List AttrId) → is_kind kind other ≡ true
    → AllByRecursion (λ later. is_kind other later ≡ false) keys
    → AllByRecursion (λ later. is_kind kind later ≡ false) keys
later-apart kind other [] is apart = tt
later-apart kind other (key ∷ keys) is apart =
    (grind (arith, nat_tests, apart.0), later-apart kind other keys is apart.1)

-- a new type goes last
pub put_value-new :
    (kind : ℕ) (value : Keyed) (attributes : List Attribute) → has_kind kind attributes ≡ false
    → put_value kind value attributes ≡ attributes ++ record { kind = kind; values = value ∷ [] } ∷ []
put_value-new kind value [] new = refl
put_value-new kind value (first ∷ rest) new = grind (arith, put_value-new kind value rest)

-- the type of an attribute is not there before it
before_case :
    (here first : ℕ) (before : List Attribute) → (first == here) ≡ false → has_kind here before ≡ false
    → ((here == first) || has_kind here before) ≡ false
before_case here first before apart none = grind (arith, nat_tests)

middle_apart :
    (number : ℕ) (before : List Attribute) (here : Attribute) (later : List Attribute)
    → AllByRecursion (λ other. (number == other) ≡ false) (kinds_of (before ++ here ∷ later))
    → (number == here.kind) ≡ false
middle_apart number [] here later all = all.0
middle_apart number (first ∷ before) here later all = middle_apart number before here later all.1

pub has_kind-before :
    (before : List Attribute) (here : Attribute) (later : List Attribute)
    → IsDistinct (λ one other. one == other) (kinds_of (before ++ here ∷ later)) → has_kind here.kind before ≡ false
unfolding IsDistinct
has_kind-before [] here later distinct = refl
has_kind-before (first ∷ before) here later distinct =
    before_case here.kind first.kind before (middle_apart first.kind before here later distinct.0)
    (has_kind-before before here later distinct.1)

-- a copy of an attribute after those before it leaves what follows
pub append-copy :
    (all done later : List Attribute) (kind : ℕ) (values copy : List Keyed)
    → done ++ record { kind = kind; values = values } ∷ later ≡ all → copy ≡ values
    → (done ++ record { kind = kind; values = copy } ∷ []) ++ later ≡ all
append-copy all done later kind values copy whole is = rw is (append_assoc done _ later ∙ whole)

-- a type is there where the map has the key
pub has_kind-rows :
    (kind : AttrId) (rows : List (AttrId × List Keyed))
    → has_kind kind.0 (attributes_of rows) ≡ is_some (lookup (is_kind kind) rows)
has_kind-rows kind [] = refl
has_kind-rows kind (row ∷ rows) = grind (arith, has_kind-rows kind rows)

-- a new key goes last
pub attributes_of-insert_entry :
    (kind : AttrId) (values : List Keyed) (rows : List (AttrId × List Keyed))
    → has_kind kind.0 (attributes_of rows) ≡ false
    → attributes_of (insert_entry is_kind rows kind values)
    ≡ attributes_of rows ++ record { kind = kind.0; values = values } ∷ []
attributes_of-insert_entry kind values [] new = refl
attributes_of-insert_entry kind values (row ∷ rows) new =
    grind (arith, attributes_of-insert_entry kind values rows)

-- values that gained one are the attribute with the value last
pub put_value-set_value :
    (kind : AttrId) (old new : List Keyed) (value : Keyed) (rows : List (AttrId × List Keyed))
    → Some old ≡ lookup (is_kind kind) rows → new ≡ old ++ value ∷ []
    → attributes_of (set_value (is_kind kind) rows new) ≡ put_value kind.0 value (attributes_of rows)
put_value-set_value kind old new value [] found is = cc
put_value-set_value kind old new value (row ∷ rows) found is =
    grind (arith, put_value-set_value kind old new value rows)

-- values that stayed leave the attributes
pub attributes_of-set_value :
    (kind : AttrId) (old new : List Keyed) (rows : List (AttrId × List Keyed))
    → Some old ≡ lookup (is_kind kind) rows → new ≡ old
    → attributes_of (set_value (is_kind kind) rows new) ≡ attributes_of rows
attributes_of-set_value kind old new [] found is = cc
attributes_of-set_value kind old new (row ∷ rows) found is =
    grind (arith, attributes_of-set_value kind old new rows)

-- a filter of the map by values is one of the attributes
pub filter-rows :
    (rows : List (AttrId × List Keyed))
    → attributes_of (filter (λ row. nat_lt 0 (length row.1)) rows) ≡ filter is_filled (attributes_of rows)
filter-rows [] = refl
filter-rows (row ∷ rows) = grind (arith, filter-rows rows)

-- attributes of other types have no values cut, and none is dropped for its type
cut-apart :
    (kind : AttrId) (key : List ℕ) (rows : List (AttrId × List Keyed))
    → AllByRecursion (λ other. is_kind kind other ≡ false) (keys_of rows)
    → map (cut_attribute kind.0 key) (attributes_of rows) ≡ attributes_of rows
cut-apart kind key [] apart = refl
cut-apart kind key (row ∷ rows) apart = grind (arith, apart.0, cut-apart kind key rows apart.1)

kept-apart :
    (kind : AttrId) (rows : List (AttrId × List Keyed))
    → AllByRecursion (λ other. is_kind kind other ≡ false) (keys_of rows)
    → other_attributes kind.0 (attributes_of rows) ≡ attributes_of rows
kept-apart kind [] apart = refl
kept-apart kind (row ∷ rows) apart = grind (arith, apart.0, kept-apart kind rows apart.1)

-- where the map has not the key, no values are cut
pub cut-none :
    (kind : AttrId) (key : List ℕ) (rows : List (AttrId × List Keyed)) → None ≡ lookup (is_kind kind) rows
    → map (cut_attribute kind.0 key) (attributes_of rows) ≡ attributes_of rows
cut-none kind key [] none = refl
cut-none kind key (row ∷ rows) none = grind (arith, cut-none kind key rows)

-- the first attribute cut, or the later ones
cut_case :
    (b : Bool) (kind : AttrId) (key : List ℕ) (old new : List Keyed) (row : AttrId × List Keyed)
    (rows changed : List (AttrId × List Keyed)) → is_kind kind row.0 ≡ b → new ≡ without_key key old
    → (b ≡ true → map (cut_attribute kind.0 key) (attributes_of rows) ≡ attributes_of rows)
    → (b ≡ true → old ≡ row.1)
    → (b ≡ false → attributes_of changed ≡ map (cut_attribute kind.0 key) (attributes_of rows))
    → attributes_of (cond b ((row.0, new) ∷ rows) (row ∷ changed))
    ≡ map (cut_attribute kind.0 key) (attributes_of (row ∷ rows))
cut_case true kind key old new row rows changed test is same here more =
    let rest = same refl in
    let first = here refl in
    grind arith
cut_case false kind key old new row rows changed test is same here more =
    let rest = more refl in
    grind arith

-- values that lost a key are the attribute cut
pub cut-set_value :
    (kind : AttrId) (key : List ℕ) (old new : List Keyed) (rows : List (AttrId × List Keyed))
    → IsDistinct is_kind (keys_of rows)
    → Some old ≡ lookup (is_kind kind) rows → new ≡ without_key key old
    → attributes_of (set_value (is_kind kind) rows new) ≡ map (cut_attribute kind.0 key) (attributes_of rows)
unfolding IsDistinct
cut-set_value kind key old new [] distinct found is = cc
cut-set_value kind key old new (row ∷ rows) distinct found is =
    cut_case (is_kind kind row.0) kind key old new row rows (set_value (is_kind kind) rows new) refl is
    (λ here. cut-apart kind key rows (later-apart kind row.0 (keys_of rows) here distinct.0))
    (λ here. let first = rw here at found in cc)
    (λ later. cut-set_value kind key old new rows distinct.1 (rw later at found) is)

-- the first attribute taken out, or a later one
kept_case :
    (b : Bool) (kind : AttrId) (row : AttrId × List Keyed) (rows left : List (AttrId × List Keyed))
    → is_kind kind row.0 ≡ b
    → (b ≡ true → other_attributes kind.0 (attributes_of rows) ≡ attributes_of rows)
    → (b ≡ false → attributes_of left ≡ other_attributes kind.0 (attributes_of rows))
    → attributes_of (cond b rows (row ∷ left))
    ≡ other_attributes kind.0 (attributes_of (row ∷ rows))
kept_case true kind row rows left test same more =
    let rest = same refl in
    grind arith
kept_case false kind row rows left test same more =
    let rest = more refl in
    grind arith

-- taking the key out of the map takes out the attribute
pub kept-remove_entry :
    (kind : AttrId) (rows : List (AttrId × List Keyed)) → IsDistinct is_kind (keys_of rows)
    → attributes_of (remove_entry (is_kind kind) rows)
    ≡ other_attributes kind.0 (attributes_of rows)
unfolding IsDistinct
kept-remove_entry kind [] distinct = refl
kept-remove_entry kind (row ∷ rows) distinct =
    kept_case (is_kind kind row.0) kind row rows (remove_entry (is_kind kind) rows) refl
    (λ here. kept-apart kind rows (later-apart kind row.0 (keys_of rows) here distinct.0))
    (λ later. kept-remove_entry kind rows distinct.1)
