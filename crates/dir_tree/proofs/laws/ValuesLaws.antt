-- Which values a change leaves of each type.
use Rattle.std.proofs.Common.{◌≡◌, ◌≢◌, ℕ, zero, suc, ◌==◌, nat_lt, slice_get, Some, Bool, true, false, cond, length, List, [], ◌∷◌, ◌++◌, refl, sym, ◌∙◌, arith, if◌then◌else◌}
use Rattle.std.specs.List.{AllByRecursion, IsDistinct}
use Rattle.std.proofs.lemmas.Bool.Decides.{nat_tests}
use Rattle.dn_names.specs.name.Names.{Keyed}
use Rattle.dir_tree.specs.Entry.{Attribute, kinds_of, values_of, has_kind, IsGoodAttribute}
use Rattle.dir_tree.specs.attributes.Changes.{put_value, without_key, cut_attribute, is_filled, cut_attributes, other_attributes}

-- the type that gains a value
pub values_of-put_value :
    (kind : ℕ) (value : Keyed) (attributes : List Attribute)
    → values_of kind (put_value kind value attributes) ≡ values_of kind attributes ++ value ∷ []
values_of-put_value kind value [] = grind (arith, nat_tests)
values_of-put_value kind value (first ∷ rest) = grind (arith, nat_tests, values_of-put_value kind value rest)

-- the others
pub values_of-put_other :
    (kind other : ℕ) (value : Keyed) (attributes : List Attribute) → other ≢ kind
    → values_of other (put_value kind value attributes) ≡ values_of other attributes
values_of-put_other kind other value [] apart = grind (arith, nat_tests)
values_of-put_other kind other value (first ∷ rest) apart =
    grind (arith, nat_tests, values_of-put_other kind other value rest apart)

-- without an attribute
pub values_of-dropped :
    (kind : ℕ) (attributes : List Attribute) → values_of kind (other_attributes kind attributes) ≡ []
values_of-dropped kind [] = refl
values_of-dropped kind (first ∷ rest) = grind (arith, nat_tests, values_of-dropped kind rest)

pub values_of-dropped_other :
    (kind other : ℕ) (attributes : List Attribute) → other ≢ kind
    → values_of other (other_attributes kind attributes) ≡ values_of other attributes
values_of-dropped_other kind other [] apart = refl
values_of-dropped_other kind other (first ∷ rest) apart =
    grind (arith, nat_tests, values_of-dropped_other kind other rest apart)

-- an attribute that the type is apart from says nothing of it
pub values_of-cut_none :
    (kind : ℕ) (key : List ℕ) (attributes : List Attribute) → has_kind kind attributes ≡ false
    → values_of kind (cut_attributes kind key attributes) ≡ []
values_of-cut_none kind key [] none = refl
values_of-cut_none kind key (first ∷ rest) none = grind (arith, nat_tests, values_of-cut_none kind key rest)

-- no values, or some
no_values : (values : List Keyed) → nat_lt 0 (length values) ≡ false → values ≡ []
no_values [] none = refl
no_values (value ∷ values) none = grind (arith, nat_tests)

some_values : (values : List Keyed) → values ≢ [] → nat_lt 0 (length values) ≡ true
some_values [] filled = absurd (filled refl)
some_values (value ∷ values) filled = grind (arith, nat_tests)

-- the first attribute is of the type and is left with values, or with none; or it is of another type
cut_case :
    (mine filled : Bool) (kind : ℕ) (key : List ℕ) (first : Attribute) (left : List Attribute) (later : List Keyed)
    → (kind == first.kind) ≡ mine → is_filled (cut_attribute kind key first) ≡ filled → is_filled first ≡ true
    → (mine ≡ true → values_of kind left ≡ []) → (mine ≡ false → values_of kind left ≡ without_key key later)
    → values_of kind (cond filled (cut_attribute kind key first ∷ left) left)
    ≡ without_key key (if mine then first.values else later)
cut_case true true kind key first left later is has full none more = grind (arith, none refl)
cut_case true false kind key first left later is has full none more =
    let lost : nat_lt 0 (length (without_key key first.values)) ≡ false = rw is at has in
    none refl ∙ sym (no_values (without_key key first.values) lost)
cut_case false true kind key first left later is has full none more = let same = more refl in grind arith
cut_case false false kind key first left later is has full none more =
    let lost : is_filled first ≡ false = rw is at has in cc

-- a type like the first one is not there later
none_later :
    (kind first : ℕ) (rest : List Attribute) → (kind == first) ≡ true
    → AllByRecursion (λ other. (first == other) ≡ false) (kinds_of rest) → has_kind kind rest ≡ false
none_later kind first [] is apart = refl
none_later kind first (next ∷ rest) is apart =
    let here = apart.0 in
    let later = none_later kind first rest is apart.1 in
    grind (arith, nat_tests)

-- the values of the type that are left
pub values_of-cut :
    (kind : ℕ) (key : List ℕ) (attributes : List Attribute) → AllByRecursion IsGoodAttribute attributes
    → IsDistinct (λ one other. one == other) (kinds_of attributes)
    → values_of kind (cut_attributes kind key attributes) ≡ without_key key (values_of kind attributes)
unfolding IsDistinct
values_of-cut kind key [] good distinct = refl
values_of-cut kind key (first ∷ rest) good distinct =
    cut_case (kind == first.kind) (is_filled (cut_attribute kind key first)) kind key first
    (cut_attributes kind key rest) (values_of kind rest) refl refl (some_values first.values good.0.filled)
    (λ mine. values_of-cut_none kind key rest (none_later kind first.kind rest mine distinct.0))
    (λ _. values_of-cut kind key rest good.1 distinct.1)

other_case :
    (filled : Bool) (kind other : ℕ) (key : List ℕ) (first : Attribute) (left : List Attribute) (later : List Keyed)
    → is_filled (cut_attribute kind key first) ≡ filled → is_filled first ≡ true → other ≢ kind
    → values_of other left ≡ later
    → values_of other (cond filled (cut_attribute kind key first ∷ left) left)
    ≡ (if other == first.kind then first.values else later)
other_case true kind other key first left later has full apart same = grind (arith, nat_tests)
other_case false kind other key first left later has full apart same = grind (arith, nat_tests)

-- and those of other types
pub values_of-cut_other :
    (kind other : ℕ) (key : List ℕ) (attributes : List Attribute) → AllByRecursion IsGoodAttribute attributes
    → other ≢ kind → values_of other (cut_attributes kind key attributes) ≡ values_of other attributes
values_of-cut_other kind other key [] good apart = refl
values_of-cut_other kind other key (first ∷ rest) good apart =
    other_case (is_filled (cut_attribute kind key first)) kind other key first (cut_attributes kind key rest)
    (values_of other rest) refl (some_values first.values good.0.filled) apart
    (values_of-cut_other kind other key rest good.1 apart)

-- a type apart from all is apart from the one at a place
apart_at :
    (number : ℕ) (attributes : List Attribute) (index : ℕ) (attribute : Attribute)
    → AllByRecursion (λ other. (number == other) ≡ false) (kinds_of attributes)
    → slice_get attributes index ≡ Some attribute → (number == attribute.kind) ≡ false
apart_at number [] index attribute all is = cc
apart_at number (first ∷ rest) zero attribute all is =
    let same : first ≡ attribute = cc in
    rw same at all.0
apart_at number (first ∷ rest) (suc index) attribute all is = apart_at number rest index attribute all.1 is

-- the values of an attribute are those of its type
pub values_of-slice_get :
    (attributes : List Attribute) (index : ℕ) (attribute : Attribute)
    → IsDistinct (λ one other. one == other) (kinds_of attributes) → slice_get attributes index ≡ Some attribute
    → values_of attribute.kind attributes ≡ attribute.values
unfolding IsDistinct
values_of-slice_get [] index attribute distinct is = cc
values_of-slice_get (first ∷ rest) zero attribute distinct is =
    let same : first ≡ attribute = cc in
    rw same (grind (arith, nat_tests))
values_of-slice_get (first ∷ rest) (suc index) attribute distinct is =
    let apart = apart_at first.kind rest index attribute distinct.0 is in
    let later = values_of-slice_get rest index attribute distinct.1 is in
    grind (arith, nat_tests)
