-- Printed limits on values are read as they were.
use Rattle.std.proofs.Common.{◌≡◌, ℕ, suc, ◌≤◌, true, List, [], ◌∷◌, codes, refl, arith}
use Rattle.dir_tree.specs.schema_tables.Attributes.{name_of, IsAttrId}
use Rattle.dir_tree.proofs.schema_tables_proofs.Theorems.{attr_of-name_of}
use Rattle.gser_tree.specs.Lexemes.{class_of, is_word}
use Rattle.gser_tree.specs.looking.Shapes.{Shape}
use Rattle.gser_tree.specs.Writing.{print_component, print_number}
use Rattle.gser_tree.proofs.Theorems.{listed_gathered, IsRead, Prints, RequiredRead, braces_are_written, none_are_written, number_prints, required_is_written, word_is_written}
use Rattle.subtree_spec.specs.Parts.{oid}
use Rattle.aci_item.specs.item.Items.{MaxValueCount, RestrictedValue}
use Rattle.aci_item.specs.members.ItemParts.{kind}
use Rattle.aci_item.specs.members.Limits.{have_same_syntax, kind_alike, count, max_value_count, restricted_value}
use Rattle.aci_item.specs.ItemPrinted.{print_kind, print_max_value_count, print_restricted_value}
use Rattle.aci_laws.specs.GoodItems.{IsGoodMaxValueCount, IsGoodRestrictedValue}
use Rattle.aci_laws.proofs.laws.PartPrints.{is_oid-name_of, is_word-name_of, kind_prints}

type_word : is_word (codes "type") ≡ true
unfolding class_of
type_word = refl

max_count_word : is_word (codes "maxCount") ≡ true
unfolding class_of
max_count_word = refl

values_in_word : is_word (codes "valuesIn") ≡ true
unfolding class_of
values_in_word = refl

-- nothing is left
abbrev IsEnd : List Shape → Type 0
IsEnd members = members ≡ []

count_prints : (most number : ℕ) → number ≤ 2147483647 → Prints most count (print_number number) number
count_prints most number fits = number_prints most 2147483647 number fits (omega (arith, fits))

kind_alike_prints : (most first other : ℕ) → IsAttrId other → have_same_syntax first other ≡ true → Prints most (kind_alike first) (print_kind other) other
unfolding kind_alike oid
kind_alike_prints most first other within same =
    word_is_written most (IsRead (kind_alike first) other) (name_of other) (is_word-name_of other within)
    (λ place bad. rw (is_oid-name_of other within, attr_of-name_of other within, same) refl)

pub max_value_count_prints : (most : ℕ) (limit : MaxValueCount) → IsGoodMaxValueCount limit
    → Prints (suc most) max_value_count (print_max_value_count limit) limit
unfolding max_value_count
max_value_count_prints most limit good =
    braces_are_written most (RequiredRead [] (codes "type") kind limit.kind (RequiredRead [] (codes "maxCount") count limit.max_count IsEnd))
    (IsRead max_value_count limit)
    (print_component (codes "type") (print_kind limit.kind) ∷ print_component (codes "maxCount") (print_number limit.max_count) ∷ [])
    (required_is_written most [] (codes "type") kind (print_kind limit.kind) limit.kind (RequiredRead [] (codes "maxCount") count limit.max_count IsEnd)
    (print_component (codes "maxCount") (print_number limit.max_count) ∷ []) type_word tt (kind_prints most limit.kind good.kind)
    (required_is_written most [] (codes "maxCount") count (print_number limit.max_count) limit.max_count IsEnd [] max_count_word tt
    (count_prints most limit.max_count good.max_count) (none_are_written most IsEnd refl)))
    (λ members has bad. rw (listed_gathered members, has.read bad, has.behind.read bad, has.behind.behind) refl)

pub restricted_value_prints : (most : ℕ) (limit : RestrictedValue) → IsGoodRestrictedValue limit
    → Prints (suc most) restricted_value (print_restricted_value limit) limit
unfolding restricted_value
restricted_value_prints most limit good =
    braces_are_written most (RequiredRead [] (codes "type") kind limit.kind (RequiredRead [] (codes "valuesIn") (kind_alike limit.kind) limit.values_in IsEnd))
    (IsRead restricted_value limit)
    (print_component (codes "type") (print_kind limit.kind) ∷ print_component (codes "valuesIn") (print_kind limit.values_in) ∷ [])
    (required_is_written most [] (codes "type") kind (print_kind limit.kind) limit.kind
    (RequiredRead [] (codes "valuesIn") (kind_alike limit.kind) limit.values_in IsEnd)
    (print_component (codes "valuesIn") (print_kind limit.values_in) ∷ []) type_word tt (kind_prints most limit.kind good.kind)
    (required_is_written most [] (codes "valuesIn") (kind_alike limit.kind) (print_kind limit.values_in) limit.values_in IsEnd [] values_in_word tt
    (kind_alike_prints most limit.kind limit.values_in good.values_in good.same_syntax) (none_are_written most IsEnd refl)))
    (λ members has bad. rw (listed_gathered members, has.read bad, has.behind.read bad, has.behind.behind) refl)
