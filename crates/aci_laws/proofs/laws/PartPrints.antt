-- Printed levels, users, attribute types, values and subtrees are read as they were.
use Rattle.std.proofs.Common.{◌≡◌, ℕ, suc, ◌≤◌, true, List, [], ◌∷◌, Option, Some, None, codes, refl, ap, ◌∙◌, arith}
use Rattle.std.specs.Option.{option_map_or}
use Rattle.std.specs.Prelude.{find, option_and_then, option_map}
use Rattle.std.specs.List.{list_all}
use Rattle.std.specs.Str.{bytes_eq}
use Rattle.std.proofs.lemmas.Bool.{or_right}
use Rattle.dir_tree.specs.schema_tables.Attributes.{attributes, name_of, IsAttrId}
use Rattle.dir_tree.specs.schema_tables.Naming.{is_keystring}
use Rattle.dir_tree.specs.schema_tables.Oids.{is_dotted_oid}
use Rattle.dir_tree.proofs.schema_tables_proofs.Theorems.{attribute_at-Some, attr_of-name_of, is_keystring-name_of}
use Rattle.dir_tree.specs.dn_names.name.GoodNames.{IsGoodName}
use Rattle.dir_tree.specs.dn_names.name.Names.{RdnSequence, TypeAndValue}
use Rattle.gser_tree.specs.Lexemes.{class_of, is_word}
use Rattle.gser_tree.specs.Reading.{Found}
use Rattle.gser_tree.specs.looking.Shapes.{Shape}
use Rattle.gser_tree.specs.Writing.{print_braces, print_component, print_number, print_string, print_word}
use Rattle.gser_tree.proofs.Theorems.{listed_gathered, IsRead, Prints, PrintsOptional, RequiredRead, braces_are_written, choice_is_written, none_are_written, number_prints, required_is_written, string_is_written, word_is_written}
use Rattle.subtree_spec.specs.GoodSubtrees.{IfThere}
use Rattle.subtree_spec.specs.Parts.{name, is_oid, oid}
use Rattle.subtree_spec.specs.SubtreePrinted.{print_dn, print_subtree}
use Rattle.subtree_spec.specs.SubtreeText.{there}
use Rattle.subtree_spec.specs.Subtrees.{Subtree}
use Rattle.subtree_spec.proofs.Theorems.{name_prints, there_prints}
use Rattle.subtree_spec.proofs.Theorems.{subtree_prints}
use Rattle.aci_item.specs.declared.level.Level.{Level}
use Rattle.aci_item.specs.declared.level.Level.TheVariants.{Anyone, Simple, Strong}
use Rattle.aci_item.specs.AciText.{precedence}
use Rattle.aci_laws.specs.GoodItems.{IsGoodClassSubtree, IsGoodValue}
use Rattle.aci_item.specs.members.ItemParts.{assertion, basic_levels, class_subtree, kind, kind_and_value, level, level_word, named_user, unrefined, user}
use Rattle.aci_item.specs.ItemPrinted.{level_name, print_kind, print_level, print_user, print_value}
use Rattle.aci_item.specs.Level.{levels}
use Rattle.dir_tree.proofs.base_laws_proofs.Theorems.{passes_at}

-- ---- words

level_component : is_word (codes "level") ≡ true
unfolding class_of
level_component = refl

basic_word : is_word (codes "basicLevels") ≡ true
unfolding class_of
basic_word = refl

dn_word : is_word (codes "dn") ≡ true
unfolding class_of
dn_word = refl

type_word : is_word (codes "type") ≡ true
unfolding class_of
type_word = refl

value_word : is_word (codes "value") ≡ true
unfolding class_of
value_word = refl

-- nothing is left
abbrev IsEnd : List Shape → Type 0
IsEnd members = members ≡ []

-- ---- levels

level_is_word : (value : Level) → is_word (level_name value) ≡ true
unfolding class_of
level_is_word Anyone = refl
level_is_word Simple = refl
level_is_word Strong = refl

level_found : (value : Level) → find (λ level. bytes_eq (level_name value) (level_name level)) levels ≡ Some value
level_found Anyone = refl
level_found Simple = refl
level_found Strong = refl

level_word_prints : (most : ℕ) (value : Level) → Prints most level_word (print_word (level_name value)) value
unfolding level_word
level_word_prints most value =
    word_is_written most (IsRead level_word value) (level_name value) (level_is_word value) (λ place bad. rw (level_found value) refl)

basic_levels_print : (most : ℕ) (value : Level)
    → Prints (suc most) basic_levels (print_braces (print_component (codes "level") (print_word (level_name value)) ∷ [])) value
unfolding basic_levels
basic_levels_print most value =
    braces_are_written most (RequiredRead [] (codes "level") level_word value IsEnd) (IsRead basic_levels value)
    (print_component (codes "level") (print_word (level_name value)) ∷ [])
    (required_is_written most [] (codes "level") level_word (print_word (level_name value)) value IsEnd [] level_component tt (level_word_prints most value)
    (none_are_written most IsEnd refl))
    (λ members has bad. rw (listed_gathered members, has.read bad, has.behind) refl)

pub level_prints : (most : ℕ) (value : Level) → Prints (suc most) level (print_level value) value
unfolding level
level_prints most value =
    choice_is_written (suc most) (IsRead basic_levels value) (IsRead level value) (codes "basicLevels")
    (print_braces (print_component (codes "level") (print_word (level_name value)) ∷ [])) basic_word (basic_levels_print most value)
    (λ place shape read bad. read bad)

-- ---- users

pub user_prints : (most : ℕ) (value : RdnSequence) → IsGoodName value → Prints (suc most) user (print_user value) value
unfolding user named_user
user_prints most value good =
    braces_are_written most (RequiredRead [] (codes "dn") name value IsEnd) (IsRead user value) (print_component (codes "dn") (print_dn value) ∷ [])
    (required_is_written most [] (codes "dn") name (print_dn value) value IsEnd [] dn_word tt (name_prints most value good) (none_are_written most IsEnd refl))
    (λ members has bad. rw (listed_gathered members, has.read bad, has.behind) refl)

-- ---- attribute types and values

names_are_words : list_all (λ row. is_word row.name) attributes ≡ true
unfolding attributes class_of
names_are_words = refl

pub is_word-name_of : (number : ℕ) → IsAttrId number → is_word (name_of number) ≡ true
is_word-name_of number within =
    let row = attribute_at-Some number within in
    ap (λ found. is_word (option_map_or (λ row. row.name) found [])) row.1 ∙ passes_at (λ row. is_word row.name) attributes number row.0 names_are_words row.1

pub is_oid-name_of : (number : ℕ) → IsAttrId number → is_oid (name_of number) ≡ true
is_oid-name_of number within = or_right (is_dotted_oid (name_of number)) (is_keystring (name_of number)) (is_keystring-name_of number within)

pub kind_prints : (most : ℕ) (number : ℕ) → IsAttrId number → Prints most kind (print_kind number) number
unfolding kind oid
kind_prints most number within =
    word_is_written most (IsRead kind number) (name_of number) (is_word-name_of number within)
    (λ place bad. rw (is_oid-name_of number within, attr_of-name_of number within) refl)

assertion_prints : (most : ℕ) (pair : TypeAndValue) → IsGoodValue pair → Prints most (assertion pair.kind) (print_string pair.value.octets) pair.value
unfolding assertion
assertion_prints most pair good =
    string_is_written most (IsRead (assertion pair.kind) pair.value) pair.value.octets good.text (λ place bad. rw good.value refl)

pub value_prints : (most : ℕ) (pair : TypeAndValue) → IsGoodValue pair → Prints (suc most) kind_and_value (print_value pair) pair
unfolding kind_and_value
value_prints most pair good =
    braces_are_written most (RequiredRead [] (codes "type") kind pair.kind (RequiredRead [] (codes "value") (assertion pair.kind) pair.value IsEnd))
    (IsRead kind_and_value pair)
    (print_component (codes "type") (print_kind pair.kind) ∷ print_component (codes "value") (print_string pair.value.octets) ∷ [])
    (required_is_written most [] (codes "type") kind (print_kind pair.kind) pair.kind (RequiredRead [] (codes "value") (assertion pair.kind) pair.value IsEnd)
    (print_component (codes "value") (print_string pair.value.octets) ∷ []) type_word tt (kind_prints most pair.kind good.kind)
    (required_is_written most [] (codes "value") (assertion pair.kind) (print_string pair.value.octets) pair.value IsEnd [] value_word tt
    (assertion_prints most pair good) (none_are_written most IsEnd refl)))
    (λ members has bad. rw (listed_gathered members, has.read bad, has.behind.read bad, has.behind.behind) refl)

-- ---- subtrees

pub class_subtree_prints : (spec : Subtree) → IsGoodClassSubtree spec → Prints 65 class_subtree (print_subtree spec) spec
unfolding class_subtree
class_subtree_prints spec good = λ place.
    let inner = subtree_prints spec good.good place in
    record {
      shape = inner.shape;
      proper = inner.proper;
      placed = inner.placed;
      nested = inner.nested;
      has = λ bad.
          ap (option_and_then (λ (found : Found Subtree). unrefined inner.shape found.value found.value.filter found.bad)) (inner.has bad)
          ∙ ap (λ filter. unrefined inner.shape spec filter bad) good.unrefined;
    }

-- ---- precedences

pub precedence_prints : (most number : ℕ) → number ≤ 255 → Prints most precedence (print_number number) number
precedence_prints most number fits = number_prints most 255 number fits (omega (arith, fits))

pub own_prints : (most : ℕ) (own : Option ℕ) → IfThere (λ number. number ≤ 255) own
    → PrintsOptional most None (there precedence) (option_map print_number own) own
own_prints most None fits = refl
own_prints most (Some number) fits = there_prints most precedence (print_number number) number (precedence_prints most number fits)
