-- Values that are taken out one by one leave what those that stay, put in their place, leave.
use Rattle.std.proofs.Common.{◌≡◌, ◌≢◌, inl, inr, ℕ, ◌==◌, nat_lt, length, Bool, true, false, not, ◌&&◌, ◌||◌, cond, List, [], ◌∷◌, ◌++◌, filter, append_assoc, refl, sym, ap, ◌∙◌, subst, arith}
use Rattle.std.specs.List.{AllByRecursion, IsDistinct}
use Rattle.std.specs.Str.{bytes_eq}
use Rattle.std.proofs.lemmas.Bool.{cases_Bool, eqb-true}
use Rattle.std.proofs.lemmas.Bool.Decides.{nat_tests}
use Rattle.std.proofs.lemmas.Slice.Eq.{bytes_eq-Decides}
use Rattle.dir_tree.specs.dn_names.name.Names.{Keyed}
use Rattle.dir_tree.specs.Entry.{Attribute, EntryInformation, kinds_of, values_of, has_key, is_match, IsGoodAttribute, IsGoodAttributes}
use Rattle.dir_tree.specs.attributes.Changes.{set_in, without_key, cut_attribute, cut_attributes, is_filled, other_attributes, without_value}
use Rattle.dir_tree.proofs.Theorems.{values_of-cut, good-without_value}
use Rattle.dir_tree.proofs.base_laws_proofs.Theorems.{text_apart, all_filter}
use Rattle.entry_changes.specs.declared.kind.ChangeKind.TheVariants.{Replace}
use Rattle.entry_changes.specs.Change.{without_each, left_by}
use Rattle.entry_changes.specs.Steps.{staying}

-- ---- the values that stay

same_test : (one other : List ℕ) → bytes_eq one other ≡ bytes_eq other one
same_test one other = elim (cases_Bool (bytes_eq other one)) [
  | inl e ↦ (bytes_eq-Decides one other).1 (sym ((bytes_eq-Decides other one).0 e)) ∙ sym e
  | inr e ↦ text_apart other one e ∙ sym e
]

-- one more that goes
staying-more : (value : Keyed) (gone old : List Keyed) → staying gone (without_key value.key old) ≡ staying (value ∷ gone) old
staying-more value gone [] = refl
staying-more value gone (first ∷ old) = rw (same_test value.key first.key) (elim (cases_Bool (bytes_eq first.key value.key)) [
  | inl e ↦ rw e (staying-more value gone old)
  | inr e ↦ rw (e, staying-more value gone old) refl
])

-- one more of the values
staying-cons : (gone : List Keyed) (value : Keyed) (more : List Keyed) → staying gone (value ∷ more) ≡ staying gone (value ∷ []) ++ staying gone more
staying-cons gone value more = elim (cases_Bool (has_key value.key gone)) [
  | inl e ↦ rw e refl
  | inr e ↦ rw e refl
]

pub staying-next : (gone left next rest : List Keyed) (value : Keyed) (more : List Keyed) → rest ≡ value ∷ more → next ≡ left ++ staying gone (value ∷ [])
    → left ++ staying gone rest ≡ next ++ staying gone more
staying-next gone left next rest value more is put =
    ap (λ rest. left ++ staying gone rest) is
    ∙ ap (λ stays. left ++ stays) (staying-cons gone value more)
    ∙ sym (append_assoc left (staying gone (value ∷ [])) (staying gone more))
    ∙ ap (λ front. front ++ staying gone more) (sym put)

staying-none : (old : List Keyed) → staying [] old ≡ old
staying-none [] = refl
staying-none (first ∷ old) = ap (λ old. first ∷ old) (staying-none old)

-- a value is among those that stay where it is there and doesn't go
stays_case :
    (same goes there gone left : Bool) → (same ≡ true → goes ≡ gone) → left ≡ (there && not gone)
    → cond (not goes) (same || left) left ≡ ((same || there) && not gone)
stays_case true true true gone left is more = grind (arith, nat_tests, is refl)
stays_case true true false gone left is more = grind (arith, nat_tests, is refl)
stays_case true false there gone left is more = grind (arith, nat_tests, is refl)
stays_case false true there gone left is more = more
stays_case false false there gone left is more = more

has_key-cond : (key : List ℕ) (test : Bool) (first : Keyed) (left : List Keyed) → has_key key (cond test (first ∷ left) left) ≡ cond test (bytes_eq key first.key || has_key key left) (has_key key left)
has_key-cond key true first left = refl
has_key-cond key false first left = refl

pub has_key-staying : (key : List ℕ) (gone old : List Keyed) → has_key key (staying gone old) ≡ (has_key key old && not (has_key key gone))
has_key-staying key gone [] = refl
has_key-staying key gone (first ∷ old) =
    has_key-cond key (not (has_key first.key gone)) first (staying gone old)
    ∙ stays_case (bytes_eq key first.key) (has_key first.key gone) (has_key key old) (has_key key gone) (has_key key (staying gone old))
    (λ same. ap (λ key. has_key key gone) (sym ((bytes_eq-Decides key first.key).0 same))) (has_key-staying key gone old)

-- they are distinct as all are
distinct-filter : {A : Type 0} (same : A → A → Bool) (test : A → Bool) (xs : List A) → IsDistinct same xs → IsDistinct same (filter test xs)
unfolding IsDistinct
distinct-filter same test [] distinct = tt
distinct-filter same test (x ∷ xs) distinct = elim (cases_Bool (test x)) [
  | inl e ↦ rw e (all_filter (λ y. same x y ≡ false) test xs distinct.0, distinct-filter same test xs distinct.1)
  | inr e ↦ rw e (distinct-filter same test xs distinct.1)
]

distinct-values_of : (kind : ℕ) (attributes : List Attribute) → AllByRecursion IsGoodAttribute attributes → IsDistinct is_match (values_of kind attributes)
unfolding IsDistinct
distinct-values_of kind [] good = tt
distinct-values_of kind (first ∷ rest) good = elim (cases_Bool (kind == first.kind)) [
  | inl e ↦ rw e good.0.distinct
  | inr e ↦ rw e (distinct-values_of kind rest good.1)
]

pub distinct-staying : (kind : ℕ) (gone : List Keyed) (attributes : List Attribute) → IsGoodAttributes attributes → IsDistinct is_match (staying gone (values_of kind attributes))
distinct-staying kind gone attributes good = distinct-filter is_match _ (values_of kind attributes) (distinct-values_of kind attributes good.good)

-- ---- values of the type are taken out

pub values_of-without_each : (kind : ℕ) (gone : List Keyed) (entry : EntryInformation) → IsGoodAttributes entry.attributes
    → values_of kind (without_each kind gone entry).attributes ≡ staying gone (values_of kind entry.attributes)
values_of-without_each kind [] entry good = sym (staying-none (values_of kind entry.attributes))
values_of-without_each kind (value ∷ gone) entry good =
    values_of-without_each kind gone (without_value kind value.key entry) (good-without_value kind value.key entry good)
    ∙ ap (staying gone) (values_of-cut kind value.key entry.attributes good.good good.distinct)
    ∙ staying-more value gone (values_of kind entry.attributes)

pub without_each-append : (kind : ℕ) (gone more : List Keyed) (entry : EntryInformation) → without_each kind (gone ++ more) entry ≡ without_each kind more (without_each kind gone entry)
without_each-append kind [] more entry = refl
without_each-append kind (value ∷ gone) more entry = without_each-append kind gone more (without_value kind value.key entry)

-- ---- what stays is put in the place of all

-- its own values leave an attribute as it is
set_in-own : (kind : ℕ) (values : List Keyed) (attributes : List Attribute) → values_of kind attributes ≡ values → values ≢ [] → set_in kind values attributes ≡ attributes
set_in-own kind values [] is some = absurd (some (sym is))
set_in-own kind values (first ∷ rest) is some = elim (cases_Bool (kind == first.kind)) [
  | inl here ↦ (let own : first.values ≡ values = rw here at is in rw here (ap (λ values. record first { values = values } ∷ rest) (sym own)))
  | inr other ↦ (let later : values_of kind rest ≡ values = rw other at is in rw other (ap (λ rest. first ∷ rest) (set_in-own kind values rest later some)))
]

-- a type without values is none of the attributes
other-none : (kind : ℕ) (attributes : List Attribute) → AllByRecursion IsGoodAttribute attributes → values_of kind attributes ≡ [] → other_attributes kind attributes ≡ attributes
other-none kind [] good none = refl
other-none kind (first ∷ rest) good none = elim (cases_Bool (kind == first.kind)) [
  | inl is ↦ absurd (good.0.filled (rw is at none))
  | inr is ↦ (let later : values_of kind rest ≡ [] = rw is at none in rw is (ap (λ rest. first ∷ rest) (other-none kind rest good.1 later)))
]

full : (values : List Keyed) → values ≢ [] → nat_lt 0 (length values) ≡ true
full [] some = absurd (some refl)
full (value ∷ values) some = grind (arith, nat_tests)

-- a cut does nothing to attributes of other types
cut-apart : (kind : ℕ) (key : List ℕ) (attributes : List Attribute) → AllByRecursion IsGoodAttribute attributes
    → AllByRecursion (λ other. (kind == other) ≡ false) (kinds_of attributes) → cut_attributes kind key attributes ≡ attributes
cut-apart kind key [] good apart = refl
cut-apart kind key (first ∷ rest) good apart =
    let more = cut-apart kind key rest good.1 apart.1 in
    rw apart.0 (rw (full first.values good.0.filled) (ap (λ rest. first ∷ rest) more))

values_of-apart : (kind : ℕ) (attributes : List Attribute) → AllByRecursion (λ other. (kind == other) ≡ false) (kinds_of attributes) → values_of kind attributes ≡ []
values_of-apart kind [] apart = refl
values_of-apart kind (first ∷ rest) apart = rw apart.0 (values_of-apart kind rest apart.1)

-- the others are as they were
other_case :
    (mine filled : Bool) (kind : ℕ) (key : List ℕ) (first : Attribute) (left later : List Attribute)
    → (kind == first.kind) ≡ mine → is_filled (cut_attribute kind key first) ≡ filled → is_filled first ≡ true
    → other_attributes kind left ≡ later
    → other_attributes kind (cond filled (cut_attribute kind key first ∷ left) left) ≡ cond (not (kind == first.kind)) (first ∷ later) later
other_case true true kind key first left later is has all more = rw (is, is) more
other_case true false kind key first left later is has all more = rw is more
other_case false true kind key first left later is has all more = rw (is, is) (ap (λ later. first ∷ later) more)
other_case false false kind key first left later is has all more = let lost : is_filled first ≡ false = rw is at has in absurd cc

other-cut : (kind : ℕ) (key : List ℕ) (attributes : List Attribute) → AllByRecursion IsGoodAttribute attributes
    → other_attributes kind (cut_attributes kind key attributes) ≡ other_attributes kind attributes
other-cut kind key [] good = refl
other-cut kind key (first ∷ rest) good =
    other_case (kind == first.kind) (is_filled (cut_attribute kind key first)) kind key first (cut_attributes kind key rest) (other_attributes kind rest)
    refl refl (full first.values good.0.filled) (other-cut kind key rest good.1)

-- the attribute stands where it stood, as long as it has a value
set_case :
    (mine filled : Bool) (kind : ℕ) (key : List ℕ) (values : List Keyed) (first : Attribute) (left rest : List Attribute)
    → (kind == first.kind) ≡ mine → is_filled (cut_attribute kind key first) ≡ filled → is_filled first ≡ true
    → (mine ≡ true → left ≡ rest) → (mine ≡ true → values_of kind rest ≡ [])
    → (mine ≡ false → values_of kind left ≢ [] → set_in kind values left ≡ set_in kind values rest)
    → values_of kind (cond filled (cut_attribute kind key first ∷ left) left) ≢ []
    → set_in kind values (cond filled (cut_attribute kind key first ∷ left) left) ≡ set_in kind values (first ∷ rest)
set_case true true kind key values first left rest is has all same none more some = rw (is, is) (ap (λ rest. record first { values = values } ∷ rest) (same refl))
set_case true false kind key values first left rest is has all same none more some = absurd (some (ap (values_of kind) (same refl) ∙ none refl))
set_case false true kind key values first left rest is has all same none more some =
    let others : values_of kind left ≢ [] = rw (is, is) at some in
    rw (is, is) (ap (λ rest. first ∷ rest) (more refl others))
set_case false false kind key values first left rest is has all same none more some = let lost : is_filled first ≡ false = rw is at has in absurd cc

set_in-cut : (kind : ℕ) (key : List ℕ) (values : List Keyed) (attributes : List Attribute) → AllByRecursion IsGoodAttribute attributes
    → IsDistinct (λ one other. one == other) (kinds_of attributes)
    → values_of kind (cut_attributes kind key attributes) ≢ [] → set_in kind values (cut_attributes kind key attributes) ≡ set_in kind values attributes
unfolding IsDistinct
set_in-cut kind key values [] good distinct some = refl
set_in-cut kind key values (first ∷ rest) good distinct some =
    let apart : (kind == first.kind) ≡ true → AllByRecursion (λ other. (kind == other) ≡ false) (kinds_of rest) =
    λ same. subst (λ (kind : ℕ). AllByRecursion (λ other. (kind == other) ≡ false) (kinds_of rest)) (sym (eqb-true kind first.kind same)) distinct.0 in
    set_case (kind == first.kind) (is_filled (cut_attribute kind key first)) kind key values first (cut_attributes kind key rest) rest
    refl refl (full first.values good.0.filled) (λ same. cut-apart kind key rest good.1 (apart same)) (λ same. values_of-apart kind rest (apart same))
    (λ other left. set_in-cut kind key values rest good.1 distinct.1 left) some

own : (kind : ℕ) (values : List Keyed) (entry : EntryInformation) → IsGoodAttributes entry.attributes → values_of kind entry.attributes ≡ values
    → left_by Replace kind values entry ≡ entry
own kind [] entry good is = ap (λ attributes. record entry { attributes = attributes }) (other-none kind entry.attributes good.good is)
own kind (value ∷ values) entry good is =
    ap (λ attributes. record entry { attributes = attributes }) (set_in-own kind (value ∷ values) entry.attributes is (λ none. cc))

later : (kind : ℕ) (key : List ℕ) (values : List Keyed) (entry : EntryInformation) → IsGoodAttributes entry.attributes
    → (values ≢ [] → values_of kind (cut_attributes kind key entry.attributes) ≢ [])
    → left_by Replace kind values (without_value kind key entry) ≡ left_by Replace kind values entry
later kind key [] entry good some = ap (λ attributes. record entry { attributes = attributes }) (other-cut kind key entry.attributes good.good)
later kind key (value ∷ values) entry good some =
    ap (λ attributes. record entry { attributes = attributes }) (set_in-cut kind key (value ∷ values) entry.attributes good.good good.distinct (some (λ none. cc)))

some_stay : (gone old : List Keyed) → staying gone old ≢ [] → old ≢ []
some_stay gone [] some = some
some_stay gone (first ∷ old) some = λ none. cc

pub keeping : (kind : ℕ) (gone : List Keyed) (entry : EntryInformation) → IsGoodAttributes entry.attributes
    → left_by Replace kind (staying gone (values_of kind entry.attributes)) entry ≡ without_each kind gone entry
keeping kind [] entry good =
    ap (λ values. left_by Replace kind values entry) (staying-none (values_of kind entry.attributes))
    ∙ own kind (values_of kind entry.attributes) entry good refl
keeping kind (value ∷ gone) entry good =
    let cut = values_of-cut kind value.key entry.attributes good.good good.distinct in
    let left = staying gone (values_of kind (cut_attributes kind value.key entry.attributes)) in
    ap (λ values. left_by Replace kind values entry) (sym (ap (staying gone) cut ∙ staying-more value gone (values_of kind entry.attributes)))
    ∙ sym (later kind value.key left entry good (some_stay gone (values_of kind (cut_attributes kind value.key entry.attributes))))
    ∙ keeping kind gone (without_value kind value.key entry) (good-without_value kind value.key entry good)
