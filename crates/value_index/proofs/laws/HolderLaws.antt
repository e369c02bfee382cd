-- A holder of a value is posted under one of two hashes.
use Rattle.std.proofs.Common.{◌≡◌, ◌⊎◌, inl, inr, ℕ, Bool, true, false, ◌||◌, ◌==◌, nat_le, if◌then◌else◌, List, [], ◌∷◌, ◌++◌, map, length, refl, sym, ap, ◌∙◌}
use Rattle.std.specs.Prelude.{flat_map}
use Rattle.std.specs.Str.{bytes_eq}
use Rattle.std.proofs.lemmas.Bool.{cases_Bool, eqb-true, eq-eqb}
use Rattle.std.proofs.lemmas.List.Folds.{list_any-append}
use Rattle.std.proofs.lemmas.Slice.Eq.{bytes_eq-Decides}
use Rattle.dir_tree.specs.dn_names.name.Names.{Keyed}
use Rattle.dir_tree.specs.Entry.{Attribute, EntryInformation, values_of, has_key}
use Rattle.value_index.specs.Hashes.{most_values, hash_of, type_hash, is_indexed, value_hashes, attribute_hashes, hashes_of, has_hash}

or_true : (o : Bool) → (o || true) ≡ true
or_true true = refl
or_true false = refl

-- the hash of the key of a value is among those of the values
among-values : (kind : ℕ) (key : List ℕ) (values : List Keyed) → has_key key values ≡ true → has_hash (hash_of kind key) (map (λ value. hash_of kind value.key) values) ≡ true
among-values kind key [] holds = absurd cc
among-values kind key (value ∷ values) holds = elim (cases_Bool (bytes_eq key value.key)) [
  | inl e ↦ (
      let is : hash_of kind value.key ≡ hash_of kind key = ap (hash_of kind) (sym ((bytes_eq-Decides key value.key).0 e)) in
      rw (eq-eqb (hash_of kind value.key) (hash_of kind key) is) refl)
  | inr e ↦ (
      let later : has_key key values ≡ true = rw e at holds in
      ap (λ (b : Bool). hash_of kind value.key == hash_of kind key || b) (among-values kind key values later) ∙ or_true (hash_of kind value.key == hash_of kind key))
]

-- one of the two hashes is among some
abbrev has_either : ℕ → List ℕ → List ℕ → Bool
has_either kind key hashes = has_hash (hash_of kind key) hashes || has_hash (type_hash kind) hashes

-- the hash of one that has the value is among those of its attribute
among-attribute : (kind : ℕ) (key : List ℕ) (attribute : Attribute) → kind ≡ attribute.kind → is_indexed kind ≡ true → has_key key attribute.values ≡ true → has_either kind key (attribute_hashes attribute) ≡ true
among-attribute kind key attribute is indexed holds =
    ap (λ (b : Bool). has_either kind key (if b then value_hashes attribute else [])) (ap is_indexed (sym is) ∙ indexed)
    ∙ by (cases_Bool (nat_le (length attribute.values) most_values))
  where
    few : List ℕ
    few = map (λ value. hash_of attribute.kind value.key) attribute.values

    among-few : has_hash (hash_of kind key) few ≡ true
    among-few = ap (λ (k : ℕ). has_hash (hash_of k key) few) is ∙ among-values attribute.kind key attribute.values holds

    many : List ℕ
    many = type_hash attribute.kind ∷ []

    among-many : has_hash (type_hash kind) many ≡ true
    among-many = ap (λ (b : Bool). b || false) (eq-eqb (type_hash attribute.kind) (type_hash kind) (ap type_hash (sym is)))

    by : ((nat_le (length attribute.values) most_values ≡ true) ⊎ (nat_le (length attribute.values) most_values ≡ false)) → has_either kind key (value_hashes attribute) ≡ true
    by (inl e) =
        ap (λ (b : Bool). has_either kind key (if b then few else many)) e
        ∙ ap (λ (b : Bool). b || has_hash (type_hash kind) few) among-few
    by (inr e) =
        ap (λ (b : Bool). has_either kind key (if b then few else many)) e
        ∙ ap (λ (b : Bool). has_hash (hash_of kind key) many || b) among-many
        ∙ or_true (has_hash (hash_of kind key) many)

-- what is among some is among more
either-front : (kind : ℕ) (key xs ys : List ℕ) → has_either kind key xs ≡ true → has_either kind key (xs ++ ys) ≡ true
either-front kind key xs ys e =
    ap (λ (b : Bool). b || has_hash (type_hash kind) (xs ++ ys)) (list_any-append (λ other. other == hash_of kind key) xs ys)
    ∙ ap (λ (b : Bool). (has_hash (hash_of kind key) xs || has_hash (hash_of kind key) ys) || b) (list_any-append (λ other. other == type_hash kind) xs ys)
    ∙ more (has_hash (hash_of kind key) xs) (has_hash (hash_of kind key) ys) (has_hash (type_hash kind) xs) (has_hash (type_hash kind) ys) e
  where
    more : (a b c d : Bool) → (a || c) ≡ true → ((a || b) || (c || d)) ≡ true
    more true b c d e = refl
    more false true c d e = refl
    more false false true d e = refl
    more false false false d e = absurd cc

either-back : (kind : ℕ) (key xs ys : List ℕ) → has_either kind key ys ≡ true → has_either kind key (xs ++ ys) ≡ true
either-back kind key xs ys e =
    ap (λ (b : Bool). b || has_hash (type_hash kind) (xs ++ ys)) (list_any-append (λ other. other == hash_of kind key) xs ys)
    ∙ ap (λ (b : Bool). (has_hash (hash_of kind key) xs || has_hash (hash_of kind key) ys) || b) (list_any-append (λ other. other == type_hash kind) xs ys)
    ∙ more (has_hash (hash_of kind key) xs) (has_hash (hash_of kind key) ys) (has_hash (type_hash kind) xs) (has_hash (type_hash kind) ys) e
  where
    more : (a b c d : Bool) → (b || d) ≡ true → ((a || b) || (c || d)) ≡ true
    more true b c d e = refl
    more false true c d e = refl
    more false false true d e = refl
    more false false false d e = e

holder-attributes : (kind : ℕ) (key : List ℕ) (attributes : List Attribute) → is_indexed kind ≡ true → has_key key (values_of kind attributes) ≡ true → has_either kind key (flat_map attribute_hashes attributes) ≡ true
holder-attributes kind key [] indexed holds = absurd cc
holder-attributes kind key (x ∷ attributes) indexed holds = elim (cases_Bool (kind == x.kind)) [
  | inl e ↦ (
      let here : has_key key x.values ≡ true = rw e at holds in
      either-front kind key (attribute_hashes x) (flat_map attribute_hashes attributes) (among-attribute kind key x (eqb-true kind x.kind e) indexed here))
  | inr e ↦ (
      let later : has_key key (values_of kind attributes) ≡ true = rw e at holds in
      either-back kind key (attribute_hashes x) (flat_map attribute_hashes attributes) (holder-attributes kind key attributes indexed later))
]

pub holder-posted : (kind : ℕ) (key : List ℕ) (entry : EntryInformation) → is_indexed kind ≡ true → has_key key (values_of kind entry.attributes) ≡ true → (has_hash (hash_of kind key) (hashes_of entry) || has_hash (type_hash kind) (hashes_of entry)) ≡ true
holder-posted kind key entry indexed holds = holder-attributes kind key entry.attributes indexed holds
