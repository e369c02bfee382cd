-- Attributes stay good: each has a value, and no two of its values match.
use Rattle.std.proofs.Common.{◌≡◌, ◌≢◌, ℕ, ◌==◌, nat_lt, Bool, true, false, cond, filter, length, List, [], ◌∷◌, ◌++◌, refl, if◌then◌else◌}
use Rattle.std.specs.Cmp.{IsEquivalence}
use Rattle.std.specs.Cmp.Lexicographic.{nat_list_eq_equiv}
use Rattle.std.specs.List.{AllByRecursion, IsDistinct}
use Rattle.std.specs.Map.{keys_of}
use Rattle.std.proofs.lemmas.Cmp.{on_equiv}
use Rattle.std.proofs.lemmas.Map.Keys.{IsDistinct-push}
use Rattle.base_laws.proofs.Theorems.{all_filter}
use Rattle.schema_tables.specs.declared.kinds.AttrId.{AttrId}
use Rattle.dn_names.specs.name.Names.{Keyed}
use Rattle.dir_tree.specs.Entry.{Attribute, kinds_of, values_of, has_key, is_match, IsGoodAttribute}
use Rattle.dir_tree.specs.attributes.Changes.{put_value, without_key, cut_attribute, is_filled, cut_attributes}
use Rattle.dir_tree.specs.attributes.Rows.{attributes_of}
use Rattle.dir_tree.proofs.entry.RowLemmas.{is_kind}

-- matching is an equivalence
is_match-equivalence : IsEquivalence is_match
is_match-equivalence = on_equiv (λ (value : Keyed). value.key) nat_list_eq_equiv

-- what is appended is no empty list
filled : {A : Type 0} (xs : List A) (x : A) → xs ++ x ∷ [] ≢ []
filled [] x is = cc
filled (y ∷ ys) x is = cc

-- the first attribute with the value, or the later ones with it
put_case :
    (b : Bool) (value : Keyed) (first : Attribute) (rest later : List Attribute) (mine : List Keyed)
    → has_key value.key (if b then first.values else mine) ≡ false
    → IsGoodAttribute first → AllByRecursion IsGoodAttribute rest
    → (has_key value.key mine ≡ false → AllByRecursion IsGoodAttribute later)
    → AllByRecursion IsGoodAttribute
    (if b then record first { values = first.values ++ value ∷ [] } ∷ rest else first ∷ later)
put_case true value first rest later mine new good goods more = (
  record {
    filled = filled first.values value;
    distinct = IsDistinct-push is_match-equivalence first.values value good.distinct new;
  },
  goods,
)
put_case false value first rest later mine new good goods more = (good, more new)

-- a value that none of its type matches leaves the attributes good
pub good-put_value :
    (kind : ℕ) (value : Keyed) (attributes : List Attribute)
    → has_key value.key (values_of kind attributes) ≡ false
    → AllByRecursion IsGoodAttribute attributes
    → AllByRecursion IsGoodAttribute (put_value kind value attributes)
unfolding IsDistinct
good-put_value kind value [] new good = (record { filled = filled [] value; distinct = (tt, tt) }, tt)
good-put_value kind value (first ∷ rest) new good =
    put_case (kind == first.kind) value first rest (put_value kind value rest) (values_of kind rest) new good.0 good.1
    (λ absent. good-put_value kind value rest absent good.1)

-- of what is chosen or left out
module _ {A : Type 0} where
  all_case :
      (b : Bool) (P : A → Type 0) (x : A) (xs : List A) → (b ≡ true → P x) → AllByRecursion P xs
      → AllByRecursion P (cond b (x ∷ xs) xs)
  all_case true P x xs here rest = (here refl, rest)
  all_case false P x xs here rest = rest

  distinct_case :
      (b : Bool) (eq : A → A → Bool) (x : A) (xs : List A) → AllByRecursion (λ y. eq x y ≡ false) xs
      → IsDistinct eq xs → IsDistinct eq (cond b (x ∷ xs) xs)
  unfolding IsDistinct
  distinct_case true eq x xs here rest = (here, rest)
  distinct_case false eq x xs here rest = rest

  -- and what is distinct stays so
  pub distinct-filter :
      (eq : A → A → Bool) (test : A → Bool) (xs : List A) → IsDistinct eq xs → IsDistinct eq (filter test xs)
  unfolding IsDistinct
  distinct-filter eq test [] distinct = tt
  distinct-filter eq test (x ∷ xs) distinct =
      distinct_case (test x) eq x (filter test xs)
      (all_filter (λ y. eq x y ≡ false) test xs distinct.0) (distinct-filter eq test xs distinct.1)

-- an attribute that is cut keeps distinct values
cut-distinct :
    (b : Bool) (key : List ℕ) (attribute : Attribute) → IsDistinct is_match attribute.values
    → IsDistinct is_match (if b then record attribute { values = without_key key attribute.values } else attribute).values
cut-distinct true key attribute distinct = distinct-filter is_match _ attribute.values distinct
cut-distinct false key attribute distinct = distinct

-- what is filled is no empty list
not_empty : (values : List Keyed) → nat_lt 0 (length values) ≡ true → values ≢ []
not_empty [] filled is = cc
not_empty (value ∷ values) filled is = cc

-- the attributes that are left with values are good
pub good-cut_attributes :
    (kind : ℕ) (key : List ℕ) (attributes : List Attribute) → AllByRecursion IsGoodAttribute attributes
    → AllByRecursion IsGoodAttribute (cut_attributes kind key attributes)
good-cut_attributes kind key [] good = tt
good-cut_attributes kind key (first ∷ rest) good =
    all_case (is_filled (cut_attribute kind key first)) IsGoodAttribute (cut_attribute kind key first)
    (cut_attributes kind key rest)
    (λ filled. record {
      filled = not_empty (cut_attribute kind key first).values filled;
      distinct = cut-distinct (kind == first.kind) key first good.0.distinct;
    })
    (good-cut_attributes kind key rest good.1)

apart-kinds :
    (kind : AttrId) (rows : List (AttrId × List Keyed))
    → AllByRecursion (λ other. is_kind kind other ≡ false) (keys_of rows)
    → AllByRecursion (λ other. (kind.0 == other) ≡ false) (kinds_of (attributes_of rows))
apart-kinds kind [] apart = tt
apart-kinds kind (row ∷ rows) apart = (apart.0, apart-kinds kind rows apart.1)

-- distinct keys are distinct types
pub distinct-kinds :
    (rows : List (AttrId × List Keyed)) → IsDistinct is_kind (keys_of rows)
    → IsDistinct (λ one other. one == other) (kinds_of (attributes_of rows))
unfolding IsDistinct
distinct-kinds [] distinct = tt
distinct-kinds (row ∷ rows) distinct = (apart-kinds row.0 rows distinct.0, distinct-kinds rows distinct.1)
