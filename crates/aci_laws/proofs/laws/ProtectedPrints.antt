-- Printed protected items are read as they were.
use Rattle.std.proofs.Common.{◌≡◌, ℕ, true, List, [], ◌∷◌, ◌++◌, refl, sym, subst}
use Rattle.std.proofs.lemmas.List.{append-nil}
use Rattle.std.specs.Prelude.{codes, map, Option, Some}
use Rattle.gser_tree.specs.Lexemes.{Lexeme, class_of, is_word}
use Rattle.gser_tree.specs.looking.Shapes.{Shape, Braces, gathered}
use Rattle.gser_tree.specs.Writing.{print_filled, print_flag}
use Rattle.gser_tree.proofs.Theorems.{listed_gathered, AreWritten, FlagRead, IsRead, OptionalRead, Prints, Skips, braces_are_written, flag_is_written, none_are_written, optional_is_written, skips_end}
use Rattle.aci_laws.proofs.laws.FlagPrints.{flag_reads}
use Rattle.aci_laws.proofs.laws.SetPrints.{optional_set_prints}
use Rattle.dir_tree.specs.schema_tables.Attributes.{IsAttrId}
use Rattle.aci_item.specs.AciText.{items, kinds, sorted_set}
use Rattle.aci_laws.specs.GoodItems.{IsGoodItems, IsGoodMaxValueCount, IsGoodRestrictedValue, IsGoodValue}
use Rattle.aci_item.specs.members.ItemParts.{kind, kind_and_value}
use Rattle.aci_item.specs.members.Limits.{max_value_count, restricted_value}
use Rattle.aci_item.specs.ItemPrinted.{print_item_list, print_items, print_kind, print_max_value_count, print_restricted_value, print_set, print_value}
use Rattle.aci_item.specs.item.Items.{ProtectedItems}
use Rattle.aci_laws.proofs.laws.LimitPrints.{max_value_count_prints, restricted_value_prints}
use Rattle.aci_laws.proofs.laws.PartPrints.{kind_prints, value_prints}

entry_word : is_word (codes "entry") ≡ true
unfolding class_of
entry_word = refl

all_kinds_word : is_word (codes "allUserAttributeTypes") ≡ true
unfolding class_of
all_kinds_word = refl

kinds_word : is_word (codes "attributeType") ≡ true
unfolding class_of
kinds_word = refl

all_values_word : is_word (codes "allAttributeValues") ≡ true
unfolding class_of
all_values_word = refl

all_kinds_and_values_word : is_word (codes "allUserAttributeTypesAndValues") ≡ true
unfolding class_of
all_kinds_and_values_word = refl

values_word : is_word (codes "attributeValue") ≡ true
unfolding class_of
values_word = refl

self_values_word : is_word (codes "selfValue") ≡ true
unfolding class_of
self_values_word = refl

max_counts_word : is_word (codes "maxValueCount") ≡ true
unfolding class_of
max_counts_word = refl

restricted_word : is_word (codes "restrictedBy") ≡ true
unfolding class_of
restricted_word = refl

-- ---- the names before each component

abbrev before0 : List (List ℕ)
before0 = []

abbrev before1 : List (List ℕ)
before1 = codes "entry" ∷ before0

abbrev before2 : List (List ℕ)
before2 = codes "allUserAttributeTypes" ∷ before1

abbrev before3 : List (List ℕ)
before3 = codes "attributeType" ∷ before2

abbrev before4 : List (List ℕ)
before4 = codes "allAttributeValues" ∷ before3

abbrev before5 : List (List ℕ)
before5 = codes "allUserAttributeTypesAndValues" ∷ before4

abbrev before6 : List (List ℕ)
before6 = codes "attributeValue" ∷ before5

abbrev before7 : List (List ℕ)
before7 = codes "selfValue" ∷ before6

abbrev before8 : List (List ℕ)
before8 = codes "maxValueCount" ∷ before7

abbrev before9 : List (List ℕ)
before9 = codes "restrictedBy" ∷ before8

-- ---- what is printed from each component on

abbrev printed8 : ProtectedItems → List (List Lexeme)
printed8 value = print_set (codes "restrictedBy") print_restricted_value value.restricted

abbrev printed7 : ProtectedItems → List (List Lexeme)
printed7 value = print_set (codes "maxValueCount") print_max_value_count value.max_counts ++ printed8 value

abbrev printed6 : ProtectedItems → List (List Lexeme)
printed6 value = print_set (codes "selfValue") print_kind value.self_values ++ printed7 value

abbrev printed5 : ProtectedItems → List (List Lexeme)
printed5 value = print_set (codes "attributeValue") print_value value.values ++ printed6 value

abbrev printed4 : ProtectedItems → List (List Lexeme)
printed4 value = print_flag (codes "allUserAttributeTypesAndValues") value.all_kinds_and_values ++ printed5 value

abbrev printed3 : ProtectedItems → List (List Lexeme)
printed3 value = print_set (codes "allAttributeValues") print_kind value.all_values ++ printed4 value

abbrev printed2 : ProtectedItems → List (List Lexeme)
printed2 value = print_set (codes "attributeType") print_kind value.kinds ++ printed3 value

abbrev printed1 : ProtectedItems → List (List Lexeme)
printed1 value = print_flag (codes "allUserAttributeTypes") value.all_kinds ++ printed2 value

abbrev printed0 : ProtectedItems → List (List Lexeme)
printed0 value = print_flag (codes "entry") value.entry ++ printed1 value

-- ---- the members from each component on

abbrev IsEnd : List Shape → Type 0
IsEnd members = members ≡ []

abbrev From8 : ProtectedItems → List Shape → Type 0
From8 value members = OptionalRead before8 (codes "restrictedBy") [] (sorted_set print_restricted_value restricted_value) value.restricted IsEnd members

abbrev From7 : ProtectedItems → List Shape → Type 0
From7 value members = OptionalRead before7 (codes "maxValueCount") [] (sorted_set print_max_value_count max_value_count) value.max_counts (From8 value) members

abbrev From6 : ProtectedItems → List Shape → Type 0
From6 value members = OptionalRead before6 (codes "selfValue") [] kinds value.self_values (From7 value) members

abbrev From5 : ProtectedItems → List Shape → Type 0
From5 value members = OptionalRead before5 (codes "attributeValue") [] (sorted_set print_value kind_and_value) value.values (From6 value) members

abbrev From4 : ProtectedItems → List Shape → Type 0
From4 value members = FlagRead before4 (codes "allUserAttributeTypesAndValues") value.all_kinds_and_values (From5 value) members

abbrev From3 : ProtectedItems → List Shape → Type 0
From3 value members = OptionalRead before3 (codes "allAttributeValues") [] kinds value.all_values (From4 value) members

abbrev From2 : ProtectedItems → List Shape → Type 0
From2 value members = OptionalRead before2 (codes "attributeType") [] kinds value.kinds (From3 value) members

abbrev From1 : ProtectedItems → List Shape → Type 0
From1 value members = FlagRead before1 (codes "allUserAttributeTypes") value.all_kinds (From2 value) members

abbrev From0 : ProtectedItems → List Shape → Type 0
From0 value members = FlagRead before0 (codes "entry") value.entry (From1 value) members

-- ---- they are written

written8 : (value : ProtectedItems) → IsGoodItems value → AreWritten 66 (From8 value) (printed8 value)
written8 value good =
    subst (λ (items : List (List Lexeme)). AreWritten 66 (From8 value) items) (append-nil (printed8 value))
    (optional_is_written 66 before8 (codes "restrictedBy") [] (sorted_set print_restricted_value restricted_value) (print_filled (map print_restricted_value value.restricted)) value.restricted IsEnd [] restricted_word (refl, (refl, (refl, (refl, (refl, (refl, (refl, (refl, tt))))))))
    (λ members ends. subst (λ (m : List Shape). Skips before9 m) (sym ends) (skips_end before9))
    (optional_set_prints 65 restricted_value print_restricted_value IsGoodRestrictedValue (λ value good. restricted_value_prints 64 value good) value.restricted good.restricted) (none_are_written 66 IsEnd refl))

written7 : (value : ProtectedItems) → IsGoodItems value → AreWritten 66 (From7 value) (printed7 value)
written7 value good =
    optional_is_written 66 before7 (codes "maxValueCount") [] (sorted_set print_max_value_count max_value_count) (print_filled (map print_max_value_count value.max_counts)) value.max_counts (From8 value) (printed8 value)
    max_counts_word (refl, (refl, (refl, (refl, (refl, (refl, (refl, tt))))))) (λ members has. has.skips)
    (optional_set_prints 65 max_value_count print_max_value_count IsGoodMaxValueCount (λ value good. max_value_count_prints 64 value good) value.max_counts good.max_counts) (written8 value good)

written6 : (value : ProtectedItems) → IsGoodItems value → AreWritten 66 (From6 value) (printed6 value)
written6 value good =
    optional_is_written 66 before6 (codes "selfValue") [] kinds (print_filled (map print_kind value.self_values)) value.self_values (From7 value) (printed7 value)
    self_values_word (refl, (refl, (refl, (refl, (refl, (refl, tt)))))) (λ members has. has.skips)
    (optional_set_prints 65 kind print_kind IsAttrId (λ value good. kind_prints 65 value good) value.self_values good.self_values) (written7 value good)

written5 : (value : ProtectedItems) → IsGoodItems value → AreWritten 66 (From5 value) (printed5 value)
written5 value good =
    optional_is_written 66 before5 (codes "attributeValue") [] (sorted_set print_value kind_and_value) (print_filled (map print_value value.values)) value.values (From6 value) (printed6 value)
    values_word (refl, (refl, (refl, (refl, (refl, tt))))) (λ members has. has.skips)
    (optional_set_prints 65 kind_and_value print_value IsGoodValue (λ value good. value_prints 64 value good) value.values good.values) (written6 value good)

written4 : (value : ProtectedItems) → IsGoodItems value → AreWritten 66 (From4 value) (printed4 value)
written4 value good =
    flag_is_written 66 before4 (codes "allUserAttributeTypesAndValues") value.all_kinds_and_values (From5 value) (printed5 value) all_kinds_and_values_word (refl, (refl, (refl, (refl, tt))))
    (λ members has. has.skips) (written5 value good)

written3 : (value : ProtectedItems) → IsGoodItems value → AreWritten 66 (From3 value) (printed3 value)
written3 value good =
    optional_is_written 66 before3 (codes "allAttributeValues") [] kinds (print_filled (map print_kind value.all_values)) value.all_values (From4 value) (printed4 value)
    all_values_word (refl, (refl, (refl, tt))) (λ members has. has.skips)
    (optional_set_prints 65 kind print_kind IsAttrId (λ value good. kind_prints 65 value good) value.all_values good.all_values) (written4 value good)

written2 : (value : ProtectedItems) → IsGoodItems value → AreWritten 66 (From2 value) (printed2 value)
written2 value good =
    optional_is_written 66 before2 (codes "attributeType") [] kinds (print_filled (map print_kind value.kinds)) value.kinds (From3 value) (printed3 value)
    kinds_word (refl, (refl, tt)) (λ members has. has.skips)
    (optional_set_prints 65 kind print_kind IsAttrId (λ value good. kind_prints 65 value good) value.kinds good.kinds) (written3 value good)

written1 : (value : ProtectedItems) → IsGoodItems value → AreWritten 66 (From1 value) (printed1 value)
written1 value good =
    flag_is_written 66 before1 (codes "allUserAttributeTypes") value.all_kinds (From2 value) (printed2 value) all_kinds_word (refl, tt)
    (λ members has. has.skips) (written2 value good)

written0 : (value : ProtectedItems) → IsGoodItems value → AreWritten 66 (From0 value) (printed0 value)
written0 value good =
    flag_is_written 66 before0 (codes "entry") value.entry (From1 value) (printed1 value) entry_word tt
    (λ members has. has.skips) (written1 value good)

items_read : (value : ProtectedItems) (members : List Shape) → From0 value members → (bad : Option ℕ)
    → items (Braces (gathered members)) bad ≡ Some (record { value = value; bad = bad })
unfolding items
items_read value members has bad =
    let has1 = has.behind in
    let has2 = has1.behind in
    let has3 = has2.behind in
    let has4 = has3.behind in
    let has5 = has4.behind in
    let has6 = has5.behind in
    let has7 = has6.behind in
    let has8 = has7.behind in
    let has9 = has8.behind in
    rw (
      listed_gathered members,
      flag_reads (codes "entry") value.entry _ _ has.read has.kept,
      flag_reads (codes "allUserAttributeTypes") value.all_kinds _ _ has1.read has1.kept,
      has2.read bad,
      has3.read bad,
      flag_reads (codes "allUserAttributeTypesAndValues") value.all_kinds_and_values _ _ has4.read has4.kept,
      has5.read bad,
      has6.read bad,
      has7.read bad,
      has8.read bad,
      has9,
    ) refl

pub items_print : (value : ProtectedItems) → IsGoodItems value → Prints 67 items (print_items value) value
unfolding print_items
items_print value good =
    braces_are_written 66 (From0 value) (IsRead items value) (print_item_list value) (written0 value good) (λ members has bad. items_read value members has bad)
