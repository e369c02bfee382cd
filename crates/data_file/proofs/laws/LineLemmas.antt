-- The lines of good attributes, put in one after the other, give the attributes in their order.
use Rattle.std.proofs.Common.{◌≡◌, ◌≢◌, ℕ, ◌+◌, ◌==◌, nat_le, Bool, true, false, if◌then◌else◌, List, [], ◌∷◌, ◌++◌, map, length, Option, Some, None, Result, Ok, refl, sym, ap, subst, ◌∙◌}
use Rattle.std.specs.List.{AllByRecursion, IsDistinct}
use Rattle.std.proofs.lemmas.Bool.{eq-eqb}
use Rattle.std.proofs.lemmas.List.{append_assoc, append-nil}
use Rattle.std.proofs.lemmas.Option.{none-some, slice_get_within}
use Rattle.dir_tree.specs.schema_tables.Attributes.{attributes, IsAttrId, attribute_at, attr_of, name_of}
use Rattle.dir_tree.specs.schema_tables.Attributes as table
use Rattle.dir_tree.proofs.schema_tables_proofs.Theorems.{attr_of-name_of}
use Rattle.dir_tree.specs.dn_names.name.Names.{Keyed, RdnSequence}
use Rattle.dir_tree.specs.dn_names.NameValues.{value_of}
use Rattle.dir_tree.specs.Entry.{Attribute, EntryInformation, kinds_of, values_of, has_key, is_match, IsGoodAttribute}
use Rattle.dir_tree.specs.attributes.Changes.{put_value}
use Rattle.ldif_load.specs.ldif_records.declared.types.RecordLine.{RecordLine}
use Rattle.ldif_load.specs.ldif_records.writing.WrittenFile.{TypeAndOctets, values_in, lines_from}
use Rattle.ldif_load.specs.load.Loading.{RecordFault}
use Rattle.ldif_load.specs.load.Loading.{◌>>=◌, loaded_value, with_new_value, with_new_kind, with_line, with_lines}
use Rattle.data_file.specs.Loadable.{IsLoadableValue}
use Rattle.dir_tree.proofs.base_laws_proofs.Theorems.{text_apart, number_apart}

-- the type of a value that is read is in the table
read_row :
    (kind : ℕ) (octets : List ℕ) (value : Keyed) (row : Option table.Attribute) → attribute_at kind ≡ row
    → value_of kind octets ≡ Some value → IsAttrId kind
unfolding value_of
read_row kind octets value None is found = absurd (none-some value (rw is at found))
read_row kind octets value (Some row) is found = slice_get_within attributes kind row is

pub IsAttrId-from_loaded_value :
    (kind : ℕ) (octets : List ℕ) (value : Keyed) → loaded_value kind octets ≡ Some value → IsAttrId kind
IsAttrId-from_loaded_value kind octets value found =
    (elim (nat_le (length octets) 65536) as (λ b. (if b then value_of kind octets else None) ≡ Some value → IsAttrId kind) [
      | true ↦ λ here. read_row kind octets value (attribute_at kind) refl here
      | false ↦ λ none. absurd (none-some value none)
    ]) found

-- none of the attributes is of the type
abbrev IsApart : ℕ → List Attribute → Type 0
IsApart kind attributes = AllByRecursion (λ other. (kind == other) ≡ false) (kinds_of attributes)

-- the value is put in a new attribute, or last in its own
put_value-new :
    (kind : ℕ) (value : Keyed) (done : List Attribute) → IsApart kind done
    → put_value kind value done ≡ done ++ record { kind = kind; values = value ∷ [] } ∷ []
put_value-new kind value [] apart = refl
put_value-new kind value (first ∷ done) apart =
    rw apart.0 (ap (λ later. first ∷ later) (put_value-new kind value done apart.1))

put_value-last :
    (kind : ℕ) (value : Keyed) (done : List Attribute) (mine : List Keyed) → IsApart kind done
    → put_value kind value (done ++ record { kind = kind; values = mine } ∷ [])
    ≡ done ++ record { kind = kind; values = mine ++ value ∷ [] } ∷ []
put_value-last kind value [] mine apart = rw (eq-eqb kind kind refl) refl
put_value-last kind value (first ∷ done) mine apart =
    rw apart.0 (ap (λ later. first ∷ later) (put_value-last kind value done mine apart.1))

-- and so are the values of the type
values_of-none : (kind : ℕ) (done : List Attribute) → IsApart kind done → values_of kind done ≡ []
values_of-none kind [] apart = refl
values_of-none kind (first ∷ done) apart = rw apart.0 (values_of-none kind done apart.1)

values_of-last :
    (kind : ℕ) (done : List Attribute) (mine : List Keyed) → IsApart kind done
    → values_of kind (done ++ record { kind = kind; values = mine } ∷ []) ≡ mine
values_of-last kind [] mine apart = rw (eq-eqb kind kind refl) refl
values_of-last kind (first ∷ done) mine apart = rw apart.0 (values_of-last kind done mine apart.1)

-- what is distinct from those before it
module _ {A : Type 0} where
  last_apart :
      (eq : A → A → Bool) (one : A) (front back : List A) (x : A)
      → AllByRecursion (λ other. eq one other ≡ false) (front ++ x ∷ back) → eq one x ≡ false
  last_apart eq one [] back x apart = apart.0
  last_apart eq one (first ∷ front) back x apart = last_apart eq one front back x apart.1

has_key-before :
    (front back : List Keyed) (value : Keyed) → IsDistinct is_match (front ++ value ∷ back)
    → has_key value.key front ≡ false
unfolding IsDistinct
has_key-before [] back value distinct = refl
has_key-before (first ∷ front) back value distinct =
    rw (text_apart first.key value.key (last_apart is_match first front back value distinct.0))
    (has_key-before front back value distinct.1)

kind_after :
    (kind : ℕ) (front back : List Attribute) (attribute : Attribute)
    → AllByRecursion (λ other. (kind == other) ≡ false) (kinds_of (front ++ attribute ∷ back)) → (kind == attribute.kind) ≡ false
kind_after kind [] back attribute apart = apart.0
kind_after kind (first ∷ front) back attribute apart = kind_after kind front back attribute apart.1

apart-before :
    (front back : List Attribute) (attribute : Attribute)
    → IsDistinct (λ one other. one == other) (kinds_of (front ++ attribute ∷ back)) → IsApart attribute.kind front
unfolding IsDistinct
apart-before [] back attribute distinct = tt
apart-before (first ∷ front) back attribute distinct = (
  number_apart first.kind attribute.kind (kind_after first.kind front back attribute distinct.0),
  apart-before front back attribute distinct.1,
)

-- the line of a value that the entry lacks
with_line-new :
    (name : RdnSequence) (done more : List Attribute) (line : RecordLine) (kind : ℕ) (value : Keyed)
    → attr_of line.kind ≡ Some kind → loaded_value kind line.value ≡ Some value
    → has_key value.key (values_of kind done) ≡ false → put_value kind value done ≡ more
    → with_line (record { name = name; attributes = done }) line ≡ Ok (record { name = name; attributes = more })
with_line-new name done more line kind value known found new put =
    ap (with_new_kind (record { name = name; attributes = done }) line) known
    ∙ ap (with_new_value (record { name = name; attributes = done }) line.line kind) found
    ∙ rw new (ap (λ attributes. Ok (record { name = name; attributes = attributes })) put)

-- an entry whose last attribute has these values
abbrev so_far : RdnSequence → List Attribute → ℕ → List Keyed → EntryInformation
so_far name done kind mine = record { name = name; attributes = done ++ record { kind = kind; values = mine } ∷ [] }

-- the lines of values of one type
abbrev of_kind : ℕ → List Keyed → List TypeAndOctets
of_kind kind values = map (λ value. record { kind = name_of kind; value = value.octets }) values

-- further values of the last attribute
with_lines-more :
    (name : RdnSequence) (done : List Attribute) (kind number : ℕ) (mine left : List Keyed) (later : List TypeAndOctets)
    (answer : Result EntryInformation RecordFault) → IsAttrId kind → IsApart kind done → IsDistinct is_match (mine ++ left)
    → AllByRecursion (IsLoadableValue kind) left
    → ((next : ℕ) → with_lines (so_far name done kind (mine ++ left)) (lines_from next later) ≡ answer)
    → with_lines (so_far name done kind mine) (lines_from number (of_kind kind left ++ later)) ≡ answer
unfolding with_lines
with_lines-more name done kind number mine [] later answer known apart distinct good after =
    ap (λ values. with_lines (so_far name done kind values) (lines_from number later)) (sym (append-nil mine)) ∙ after number
with_lines-more name done kind number mine (value ∷ left) later answer known apart distinct good after =
    let new : has_key value.key (values_of kind (done ++ record { kind = kind; values = mine } ∷ [])) ≡ false =
    ap (has_key value.key) (values_of-last kind done mine apart) ∙ has_key-before mine left value distinct in
    let joined : (mine ++ value ∷ []) ++ left ≡ mine ++ value ∷ left = append_assoc mine (value ∷ []) left in
    ap (λ first. first >>= λ more. with_lines more (lines_from (number + 1) (of_kind kind left ++ later)))
    (with_line-new name (done ++ record { kind = kind; values = mine } ∷ [])
    (done ++ record { kind = kind; values = mine ++ value ∷ [] } ∷ [])
    (record { line = number; kind = name_of kind; value = value.octets }) kind value (attr_of-name_of kind known)
    good.0.value_read new (put_value-last kind value done mine apart))
    ∙ with_lines-more name done kind (number + 1) (mine ++ value ∷ []) left later answer known apart
    (subst (IsDistinct is_match) (sym joined) distinct) good.1
    (λ next. ap (λ values. with_lines (so_far name done kind values) (lines_from next later)) joined ∙ after next)

-- all values of a new attribute
with_lines-attribute :
    (name : RdnSequence) (done : List Attribute) (kind number : ℕ) (values : List Keyed) (later : List TypeAndOctets)
    (answer : Result EntryInformation RecordFault) → IsApart kind done → values ≢ [] → IsDistinct is_match values
    → AllByRecursion (IsLoadableValue kind) values
    → ((next : ℕ) → with_lines (so_far name done kind values) (lines_from next later) ≡ answer)
    → with_lines (record { name = name; attributes = done }) (lines_from number (of_kind kind values ++ later)) ≡ answer
unfolding with_lines
with_lines-attribute name done kind number [] later answer apart filled distinct good after = absurd (filled refl)
with_lines-attribute name done kind number (value ∷ values) later answer apart filled distinct good after =
    let known = IsAttrId-from_loaded_value kind value.octets value good.0.value_read in
    let new : has_key value.key (values_of kind done) ≡ false = ap (has_key value.key) (values_of-none kind done apart) in
    ap (λ first. first >>= λ more. with_lines more (lines_from (number + 1) (of_kind kind values ++ later)))
    (with_line-new name done (done ++ record { kind = kind; values = value ∷ [] } ∷ [])
    (record { line = number; kind = name_of kind; value = value.octets }) kind value (attr_of-name_of kind known)
    good.0.value_read new (put_value-new kind value done apart))
    ∙ with_lines-more name done kind (number + 1) (value ∷ []) values later answer known apart distinct good.1 after

-- all attributes that are left
pub with_lines-values_in :
    (name : RdnSequence) (done left : List Attribute) (number : ℕ) → AllByRecursion IsGoodAttribute left
    → IsDistinct (λ one other. one == other) (kinds_of (done ++ left))
    → AllByRecursion (λ attribute. AllByRecursion (IsLoadableValue attribute.kind) attribute.values) left
    → with_lines (record { name = name; attributes = done }) (lines_from number (values_in left))
    ≡ Ok (record { name = name; attributes = done ++ left })
unfolding with_lines
with_lines-values_in name done [] number good distinct loadable =
    ap (λ attributes. Ok (record { name = name; attributes = attributes })) (sym (append-nil done))
with_lines-values_in name done (attribute ∷ left) number good distinct loadable =
    let joined : (done ++ attribute ∷ []) ++ left ≡ done ++ attribute ∷ left = append_assoc done (attribute ∷ []) left in
    let P : List Attribute → Type 0 = λ attributes. IsDistinct (λ one other. one == other) (kinds_of attributes) in
    with_lines-attribute name done attribute.kind number attribute.values (values_in left)
    (Ok (record { name = name; attributes = done ++ attribute ∷ left }))
    (apart-before done left attribute distinct) good.0.filled good.0.distinct loadable.0
    (λ next. with_lines-values_in name (done ++ attribute ∷ []) left next good.1 (subst P (sym joined) distinct) loadable.1
    ∙ ap (λ attributes. Ok (record { name = name; attributes = attributes })) joined)
