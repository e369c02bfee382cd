-- The types of an entry that meets the rules on classes are in the table.
use Rattle.std.proofs.Common.{◌≡◌, ℕ, ◌==◌, ◌<◌, Bool, true, false, not, ◌&&◌, ◌||◌, List, [], ◌∷◌, ◌++◌, Option, Some, None, refl, sym, subst, ◌∙◌, inl, inr, append_assoc, arith}
use Rattle.std.specs.List.{AllByRecursion, filter_map, list_any}
use Rattle.std.specs.Option.{option_map_or}
use Rattle.std.proofs.lemmas.Bool.{or_cases, or_parts, eqb-true, and_parts}
use Rattle.dir_tree.specs.schema_tables.Attributes.{IsAttrId, attributes, attr_of}
use Rattle.dir_tree.specs.schema_tables.classes.Classes.{Class, class_at, numbers_of, required_of, allowed_of}
use Rattle.dir_tree.proofs.schema_tables_proofs.Theorems.{IsAttrId-from_attr_of}
use Rattle.dir_tree.specs.Entry.{EntryInformation}
use Rattle.ldif_load.specs.ldif_records.writing.Written.{AreInTable}
use Rattle.aci_item.specs.Listed.{is_among, all_classes, permitted_by}
use Rattle.aci_item.specs.Rules.{is_permitted_besides, breaks_classes, MeetsRules, AreGood}
use Rattle.ldif_load.proofs.schema_rules_proofs.Theorems.{Meets-from_broken_rule}

-- numbers that are told by names
numbers_known : (names : List (List ℕ)) → AllByRecursion IsAttrId (numbers_of names)
numbers_known [] = tt
numbers_known (name ∷ names) = by (attr_of name) refl (numbers_known names)
  where
    by : (found : Option ℕ) → attr_of name ≡ found → AllByRecursion IsAttrId (filter_map attr_of names) → AllByRecursion IsAttrId (filter_map attr_of (name ∷ names))
    by None is later = rw is later
    by (Some number) is later = rw is (IsAttrId-from_attr_of name number is, later)

-- what classes require and allow
required_known : (class : ℕ) → AllByRecursion IsAttrId (required_of class)
required_known class = by (class_at class)
  where
    by : (found : Option Class) → AllByRecursion IsAttrId (option_map_or (λ row. numbers_of row.required) found [])
    by None = tt
    by (Some row) = numbers_known row.required

allowed_known : (class : ℕ) → AllByRecursion IsAttrId (allowed_of class)
allowed_known class = by (class_at class)
  where
    by : (found : Option Class) → AllByRecursion IsAttrId (option_map_or (λ row. numbers_of row.allowed) found [])
    by None = tt
    by (Some row) = numbers_known row.allowed

all_both : (one other : List ℕ) → AllByRecursion IsAttrId one → AllByRecursion IsAttrId other → AllByRecursion IsAttrId (one ++ other)
all_both [] other h k = k
all_both (x ∷ one) other h k = (h.0, all_both one other h.1 k)

permitted_known : (classes : List ℕ) → AllByRecursion IsAttrId (permitted_by classes)
permitted_known [] = tt
permitted_known (class ∷ classes) =
    all_both (required_of class ++ allowed_of class) (permitted_by classes)
    (all_both (required_of class) (allowed_of class) (required_known class) (allowed_known class)) (permitted_known classes)

-- a number among such numbers
among_known : (kind : ℕ) (kinds : List ℕ) → is_among kind kinds ≡ true → AllByRecursion IsAttrId kinds → IsAttrId kind
among_known kind [] is all = absurd cc
among_known kind (first ∷ kinds) is all = elim (or_cases (kind == first) (is_among kind kinds) is) [
  | inl here ↦ (let same = eqb-true kind first here in subst IsAttrId (sym same) all.0)
  | inr later ↦ among_known kind kinds later all.1
]

-- and the four that stand besides
besides_known : (kind : ℕ) (entry : EntryInformation) → is_permitted_besides kind entry ≡ true → IsAttrId kind
unfolding attributes
besides_known kind entry is = elim (or_cases _ _ is) [
  | inl e ↦ (let same = eqb-true kind 33 e in subst IsAttrId (sym same) (omega arith))
  | inr f ↦ elim (or_cases _ _ (and_parts _ _ f).0) [
    | inl g ↦ elim (or_cases _ _ g) [
      | inl e ↦ (let same = eqb-true kind 29 e in subst IsAttrId (sym same) (omega arith))
      | inr e ↦ (let same = eqb-true kind 31 e in subst IsAttrId (sym same) (omega arith))
    ]
    | inr e ↦ (let same = eqb-true kind 34 e in subst IsAttrId (sym same) (omega arith))
  ]
]

-- so all types of the entry
kinds_known :
    (entry : EntryInformation) (kinds : List ℕ)
    → list_any (λ kind. not (is_among kind (permitted_by (all_classes entry.attributes)) || is_permitted_besides kind entry)) kinds ≡ false
    → AllByRecursion IsAttrId kinds
kinds_known entry [] none = tt
kinds_known entry (kind ∷ kinds) none =
    let parts = or_parts _ _ none in
    let here : IsAttrId kind = elim (or_cases _ _ (kept _ parts.0)) [
      | inl among ↦ among_known kind (permitted_by (all_classes entry.attributes)) among (permitted_known (all_classes entry.attributes))
      | inr besides ↦ besides_known kind entry besides
    ] in
    (here, kinds_known entry kinds parts.1)
  where
    kept : (b : Bool) → not b ≡ false → b ≡ true
    kept true e = refl
    kept false e = absurd cc

in_table : (entry : EntryInformation) → breaks_classes entry ≡ false → AreInTable entry.attributes
unfolding breaks_classes
in_table entry unbroken = kinds_known entry _ (or_parts _ _ (or_parts _ _ unbroken).0).1

-- of all entries
all_in_table :
    (all front back : List EntryInformation) → all ≡ front ++ back → MeetsRules all
    → AllByRecursion (λ (entry : EntryInformation). AreInTable entry.attributes) back
all_in_table all front [] is meets = tt
all_in_table all front (entry ∷ back) is meets =
    let unbroken = Meets-from_broken_rule None (front ++ back) entry (meets front back entry is) in (
      in_table entry unbroken.classes,
      all_in_table all (front ++ entry ∷ []) back (is ∙ sym (append_assoc front (entry ∷ []) back)) meets,
    )

pub types_in_table : (entries : List EntryInformation) → AreGood entries → AllByRecursion (λ (entry : EntryInformation). AreInTable entry.attributes) entries
types_in_table entries good = all_in_table entries [] entries refl good.meets
