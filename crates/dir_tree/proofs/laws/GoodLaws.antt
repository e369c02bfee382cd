-- A change leaves attributes of distinct types.
use Rattle.std.proofs.Common.{◌≡◌, ℕ, ◌==◌, Bool, true, false, not, cond, filter, map, List, [], ◌∷◌, ◌++◌, refl, arith, if◌then◌else◌}
use Rattle.std.specs.List.{AllByRecursion, IsDistinct}
use Rattle.base_laws.proofs.Theorems.{all_filter, number_apart}
use Rattle.dn_names.specs.name.Names.{Keyed}
use Rattle.dir_tree.specs.Entry.{Attribute, EntryInformation, kinds_of, values_of, has_key, IsGoodAttribute, IsGoodAttributes}
use Rattle.dir_tree.specs.attributes.Changes.{put_value, with_value, cut_attribute, is_filled, without_value, without_kind}
use Rattle.dir_tree.proofs.entry.GoodLemmas.{good-put_value, good-cut_attributes}

apart_case :
    (mine : Bool) (number kind : ℕ) (value : Keyed) (first : Attribute) (rest later : List Attribute)
    → (number == first.kind) ≡ false → AllByRecursion (λ other. (number == other) ≡ false) (kinds_of rest)
    → AllByRecursion (λ other. (number == other) ≡ false) (kinds_of later)
    → AllByRecursion (λ other. (number == other) ≡ false)
    (kinds_of (if mine then record first { values = first.values ++ value ∷ [] } ∷ rest else first ∷ later))
apart_case true number kind value first rest later here same more = (here, same)
apart_case false number kind value first rest later here same more = (here, more)

-- a number that is no type stays none, where it isn't the type that gains a value
apart-put_value :
    (number kind : ℕ) (value : Keyed) (attributes : List Attribute) → (number == kind) ≡ false
    → AllByRecursion (λ other. (number == other) ≡ false) (kinds_of attributes)
    → AllByRecursion (λ other. (number == other) ≡ false) (kinds_of (put_value kind value attributes))
apart-put_value number kind value [] new apart = (new, tt)
apart-put_value number kind value (first ∷ rest) new apart =
    apart_case (kind == first.kind) number kind value first rest (put_value kind value rest) apart.0 apart.1
    (apart-put_value number kind value rest new apart.1)

put_case :
    (mine : Bool) (kind : ℕ) (value : Keyed) (first : Attribute) (rest later : List Attribute)
    → AllByRecursion (λ other. (first.kind == other) ≡ false) (kinds_of rest)
    → (mine ≡ false → AllByRecursion (λ other. (first.kind == other) ≡ false) (kinds_of later))
    → IsDistinct (λ one other. one == other) (kinds_of rest)
    → IsDistinct (λ one other. one == other) (kinds_of later)
    → IsDistinct (λ one other. one == other)
    (kinds_of (if mine then record first { values = first.values ++ value ∷ [] } ∷ rest else first ∷ later))
unfolding IsDistinct
put_case true kind value first rest later apart more same distinct = (apart, same)
put_case false kind value first rest later apart more same distinct = (more refl, distinct)

pub distinct-put_value :
    (kind : ℕ) (value : Keyed) (attributes : List Attribute)
    → IsDistinct (λ one other. one == other) (kinds_of attributes)
    → IsDistinct (λ one other. one == other) (kinds_of (put_value kind value attributes))
unfolding IsDistinct
distinct-put_value kind value [] distinct = (tt, tt)
distinct-put_value kind value (first ∷ rest) distinct =
    put_case (kind == first.kind) kind value first rest (put_value kind value rest) distinct.0
    (λ other. apart-put_value first.kind kind value rest (number_apart kind first.kind other) distinct.0)
    distinct.1 (distinct-put_value kind value rest distinct.1)

-- a filter
all_case :
    (kept : Bool) (P : ℕ → Type 0) (first : Attribute) (rest : List Attribute) → P first.kind
    → AllByRecursion P (kinds_of rest) → AllByRecursion P (kinds_of (cond kept (first ∷ rest) rest))
all_case true P first rest here later = (here, later)
all_case false P first rest here later = later

all_kinds :
    (P : ℕ → Type 0) (test : Attribute → Bool) (attributes : List Attribute)
    → AllByRecursion P (kinds_of attributes) → AllByRecursion P (kinds_of (filter test attributes))
all_kinds P test [] all = tt
all_kinds P test (first ∷ rest) all =
    all_case (test first) P first (filter test rest) all.0 (all_kinds P test rest all.1)

filter_case :
    (kept : Bool) (first : Attribute) (rest : List Attribute)
    → AllByRecursion (λ other. (first.kind == other) ≡ false) (kinds_of rest)
    → IsDistinct (λ one other. one == other) (kinds_of rest)
    → IsDistinct (λ one other. one == other) (kinds_of (cond kept (first ∷ rest) rest))
unfolding IsDistinct
filter_case true first rest apart distinct = (apart, distinct)
filter_case false first rest apart distinct = distinct

pub distinct-filter_kinds :
    (test : Attribute → Bool) (attributes : List Attribute)
    → IsDistinct (λ one other. one == other) (kinds_of attributes)
    → IsDistinct (λ one other. one == other) (kinds_of (filter test attributes))
unfolding IsDistinct
distinct-filter_kinds test [] distinct = tt
distinct-filter_kinds test (first ∷ rest) distinct =
    filter_case (test first) first (filter test rest)
    (all_kinds (λ other. (first.kind == other) ≡ false) test rest distinct.0)
    (distinct-filter_kinds test rest distinct.1)

kinds_of-cut :
    (kind : ℕ) (key : List ℕ) (attributes : List Attribute)
    → kinds_of (map (cut_attribute kind key) attributes) ≡ kinds_of attributes
kinds_of-cut kind key [] = refl
kinds_of-cut kind key (first ∷ rest) = grind (arith, kinds_of-cut kind key rest)

-- each change leaves good attributes
with_case :
    (there : Bool) (kind : ℕ) (value : Keyed) (entry : EntryInformation)
    → has_key value.key (values_of kind entry.attributes) ≡ there → IsGoodAttributes entry.attributes
    → IsGoodAttributes (if there then entry else record entry { attributes = put_value kind value entry.attributes }).attributes
with_case true kind value entry is good = good
with_case false kind value entry is good = record {
  good = good-put_value kind value entry.attributes is good.good;
  distinct = distinct-put_value kind value entry.attributes good.distinct;
}

pub good-with_value :
    (kind : ℕ) (value : Keyed) (entry : EntryInformation) → IsGoodAttributes entry.attributes
    → IsGoodAttributes (with_value kind value entry).attributes
good-with_value kind value entry good =
    with_case (has_key value.key (values_of kind entry.attributes)) kind value entry refl good

pub good-without_value :
    (kind : ℕ) (key : List ℕ) (entry : EntryInformation) → IsGoodAttributes entry.attributes
    → IsGoodAttributes (without_value kind key entry).attributes
good-without_value kind key entry good = record {
  good = good-cut_attributes kind key entry.attributes good.good;
  distinct =
      distinct-filter_kinds is_filled (map (cut_attribute kind key) entry.attributes)
      (rw (kinds_of-cut kind key entry.attributes) good.distinct);
}

pub good-without_kind :
    (kind : ℕ) (entry : EntryInformation) → IsGoodAttributes entry.attributes
    → IsGoodAttributes (without_kind kind entry).attributes
good-without_kind kind entry good = record {
  good = all_filter IsGoodAttribute (λ attribute. not (kind == attribute.kind)) entry.attributes good.good;
  distinct = distinct-filter_kinds (λ attribute. not (kind == attribute.kind)) entry.attributes good.distinct;
}
