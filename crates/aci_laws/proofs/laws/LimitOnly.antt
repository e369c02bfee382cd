-- What is read of limits on values is good.
use Rattle.std.proofs.Common.{◌≡◌, ◌≤◌, ℕ, Bool, true, false, List, codes, refl, subst}
use Rattle.std.specs.Prelude.{Option, Some, None, option_and_then, if◌then◌else◌}
use Rattle.std.proofs.lemmas.Option.{same_Some}
use Rattle.dir_tree.specs.schema_tables.Attributes.{attr_of, IsAttrId}
use Rattle.dir_tree.proofs.schema_tables_proofs.Theorems.{IsAttrId-from_attr_of}
use Rattle.gser_tree.specs.Reading.{part, required}
use Rattle.gser_tree.proofs.Theorems.{gives_both, gives_end, gives_part, gives_weaker, number_is_at_most}
use Rattle.subtree_spec.specs.Parts.{oid}
use Rattle.aci_item.specs.AciText.{sorted_set}
use Rattle.aci_item.specs.item.Items.{MaxValueCount, RestrictedValue}
use Rattle.aci_item.specs.members.ItemParts.{kind}
use Rattle.aci_item.specs.members.Limits.{have_same_syntax, of_same_syntax, kind_alike, count, max_value_count, restricted_value}
use Rattle.aci_item.specs.ItemPrinted.{print_max_value_count, print_restricted_value}
use Rattle.aci_laws.specs.GoodItems.{IsGoodMaxValueCount, IsGoodRestrictedValue, IsSetOf}
use Rattle.aci_laws.proofs.laws.OnlyLemmas.{OnlyTexts, gives_members, gives_next, gives_required_texts, set_is_good}
use Rattle.aci_laws.proofs.laws.PartOnly.{kind_is_good, oid_is_some}
use Rattle.aci_laws.proofs.laws.StringLemmas.{HasTexts, HaveTexts}

-- an attribute type of the syntax of another
abbrev IsAlike : ℕ → ℕ → Type 0
IsAlike first other = IsAttrId other × (have_same_syntax first other ≡ true)

alike : (first : ℕ) (text : List ℕ) (other : ℕ) → option_and_then (of_same_syntax first) (attr_of text) ≡ Some other → IsAlike first other
alike first text other h = inner (attr_of text) refl h
  where
    same : (one : ℕ) (b : Bool) → have_same_syntax first one ≡ b → IsAttrId one → (if b then Some one else None) ≡ Some other → IsAlike first other
    same one false is within h = cc
    same one true is within h = subst (IsAlike first) (same_Some one other h) (within, is)

    inner : (found : Option ℕ) → attr_of text ≡ found → option_and_then (of_same_syntax first) found ≡ Some other → IsAlike first other
    inner None is h = cc
    inner (Some one) is h = same one (have_same_syntax first one) refl (IsAttrId-from_attr_of text one is) h

kind_alike_is_good : (first : ℕ) → OnlyTexts (IsAlike first) (kind_alike first)
unfolding kind_alike
kind_alike_is_good first shape =
    gives_both (λ _. Unit {0}) (λ value. HasTexts shape → IsAlike first value) (oid shape)
    (λ word. part word.place 0 (option_and_then (of_same_syntax first) (attr_of word.text))) (oid_is_some shape)
    (λ word. gives_part (λ value. Unit {0} → HasTexts shape → IsAlike first value) word.place 0 (option_and_then (of_same_syntax first) (attr_of word.text))
    (λ value is _ _. alike first word.text value is))

count_is_good : OnlyTexts (λ number. number ≤ 2147483647) count
count_is_good shape =
    gives_weaker (λ number. number ≤ 2147483647) (λ number. HasTexts shape → number ≤ 2147483647) (count shape) (λ number h _. h) (number_is_at_most 2147483647 shape)

max_value_count_is_good : OnlyTexts IsGoodMaxValueCount max_value_count
unfolding max_value_count
max_value_count_is_good shape =
    gives_members IsGoodMaxValueCount shape _
    (λ members. gives_next IsAttrId IsGoodMaxValueCount members (required (codes "type") kind members) _ (gives_required_texts IsAttrId (codes "type") kind members kind_is_good)
    (λ type. gives_next (λ number. number ≤ 2147483647) (λ final. IsAttrId type.value → IsGoodMaxValueCount final) type.rest (required (codes "maxCount") count type.rest) _
    (gives_required_texts (λ number. number ≤ 2147483647) (codes "maxCount") count type.rest count_is_good)
    (λ most. gives_end (λ final. HaveTexts most.rest → most.value ≤ 2147483647 → IsAttrId type.value → IsGoodMaxValueCount final) most.rest
    (record { kind = type.value; max_count = most.value }) (λ texts fits typed. record { kind = typed; max_count = fits }))))

restricted_value_is_good : OnlyTexts IsGoodRestrictedValue restricted_value
unfolding restricted_value
restricted_value_is_good shape =
    gives_members IsGoodRestrictedValue shape _
    (λ members. gives_next IsAttrId IsGoodRestrictedValue members (required (codes "type") kind members) _ (gives_required_texts IsAttrId (codes "type") kind members kind_is_good)
    (λ type. gives_next (IsAlike type.value) (λ final. IsAttrId type.value → IsGoodRestrictedValue final) type.rest
    (required (codes "valuesIn") (kind_alike type.value) type.rest) _
    (gives_required_texts (IsAlike type.value) (codes "valuesIn") (kind_alike type.value) type.rest (kind_alike_is_good type.value))
    (λ other. gives_end (λ final. HaveTexts other.rest → IsAlike type.value other.value → IsAttrId type.value → IsGoodRestrictedValue final) other.rest
    (record { kind = type.value; values_in = other.value }) (λ texts alike typed. record { kind = typed; values_in = alike.0; same_syntax = alike.1 }))))

abbrev pub AreMaxValueCounts : List MaxValueCount → Type 0
AreMaxValueCounts limits = IsSetOf print_max_value_count IsGoodMaxValueCount limits

abbrev pub AreRestrictedValues : List RestrictedValue → Type 0
AreRestrictedValues limits = IsSetOf print_restricted_value IsGoodRestrictedValue limits

pub max_value_counts_are_good : OnlyTexts AreMaxValueCounts (sorted_set print_max_value_count max_value_count)
max_value_counts_are_good shape = set_is_good print_max_value_count IsGoodMaxValueCount max_value_count max_value_count_is_good shape

pub restricted_values_are_good : OnlyTexts AreRestrictedValues (sorted_set print_restricted_value restricted_value)
restricted_values_are_good shape = set_is_good print_restricted_value IsGoodRestrictedValue restricted_value restricted_value_is_good shape
