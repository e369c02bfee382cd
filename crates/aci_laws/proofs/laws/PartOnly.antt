-- What is read of bits, attribute types, values and users is good.
use Rattle.std.proofs.Common.{◌≡◌, ◌≤◌, ℕ, true, List, [], ◌∷◌, codes, refl, sym, ap, ◌∙◌}
use Rattle.std.specs.Prelude.{Option, Some, None, if◌then◌else◌}
use Rattle.std.specs.Str.{bytes_eq, is_utf8}
use Rattle.dir_tree.specs.schema_tables.Attributes.{attr_of, IsAttrId}
use Rattle.dir_tree.proofs.schema_tables_proofs.Theorems.{IsAttrId-from_attr_of}
use Rattle.dir_tree.specs.dn_names.name.GoodNames.{IsGoodName}
use Rattle.dir_tree.specs.dn_names.name.Names.{Keyed}
use Rattle.dir_tree.specs.dn_names.NameValues.{value_of}
use Rattle.dir_tree.proofs.dn_names_proofs.Theorems.{value_of-octets}
use Rattle.gser_tree.specs.declared.part.Part.{Part}
use Rattle.gser_tree.specs.looking.Looking.{chosen_in, members_in, word_in, string_in}
use Rattle.gser_tree.specs.Reading.{expect, give, part, required}
use Rattle.gser_tree.specs.looking.Shapes.{Shape}
use Rattle.gser_tree.proofs.Theorems.{Gives, Only, gives_both, gives_choice, gives_end, gives_expected, gives_nothing, gives_part, gives_required, gives_value, gives_weaker, number_is_at_most}
use Rattle.subtree_spec.specs.GoodSubtrees.{IfThere}
use Rattle.subtree_spec.specs.Parts.{is_oid, name, oid}
use Rattle.subtree_spec.specs.SubtreeText.{there}
use Rattle.subtree_spec.proofs.Theorems.{name_is_good}
use Rattle.aci_item.specs.declared.level.Level.{Level}
use Rattle.aci_item.specs.AciText.{precedence}
use Rattle.aci_laws.specs.GoodItems.{AreGoodBits, IsGoodValue}
use Rattle.aci_item.specs.members.ItemParts.{assertion, basic_levels, bit, bits, kind, kind_and_value, level, level_by, level_word, named_user, no_octets, user, user_by}
use Rattle.aci_item.specs.Permission.{Bit, all_bits, bit_place, in_order, is_among, put_bit}
use Rattle.aci_item.specs.Sets.{gather_into}
use Rattle.std.specs.Prelude.{◌==◌}
use Rattle.std.specs.List.{list_any}
use Rattle.aci_item.proofs.Theorems.{among_filtered, filtered}
use Rattle.aci_laws.proofs.laws.OnlyLemmas.{OnlyTexts, gives_members, gives_next, gives_required_texts}
use Rattle.aci_laws.proofs.laws.StringLemmas.{HasTexts, HaveTexts, string_text}

-- ---- bits

in_order-twice : (values : List Bit) → in_order (in_order values) ≡ in_order values
in_order-twice values =
    filtered (is_among (in_order values)) (is_among values) (λ b. among_filtered (λ place. list_any (λ other. place == bit_place other) values) b) all_bits

bit_is_some : Only (λ _. Unit {0}) bit
unfolding bit
bit_is_some shape =
    gives_both (λ _. Unit {0}) (λ _. Unit {0}) (expect (word_in shape)) _ (gives_expected (λ _. Unit {0}) (word_in shape) (λ value is. tt))
    (λ word. gives_expected (λ _. Unit {0} → Unit {0}) _ (λ value is _. tt))

bits_gathered : (members : List Shape) (seen : List Bit) → Gives (λ values. AreGoodBits seen → AreGoodBits values) (gather_into put_bit bit seen members)
bits_gathered [] seen = gives_value (λ values. AreGoodBits seen → AreGoodBits values) seen (λ h. h)
bits_gathered (shape ∷ members) seen =
    gives_both (λ _. Unit {0}) (λ values. AreGoodBits seen → AreGoodBits values) (bit shape) (λ value. gather_into put_bit bit (put_bit value seen) members)
    (bit_is_some shape)
    (λ value. gives_weaker (λ values. AreGoodBits (put_bit value seen) → AreGoodBits values) (λ values. Unit {0} → AreGoodBits seen → AreGoodBits values)
    (gather_into put_bit bit (put_bit value seen) members) (λ values h _ _. h (in_order-twice (value ∷ seen))) (bits_gathered members (put_bit value seen)))

pub bits_are_good : OnlyTexts AreGoodBits bits
unfolding bits
bits_are_good shape =
    gives_both (λ _. Unit {0}) (λ values. HasTexts shape → AreGoodBits values) (expect (members_in shape)) (gather_into put_bit bit [])
    (gives_expected (λ _. Unit {0}) (members_in shape) (λ value is. tt))
    (λ members. gives_weaker (λ values. AreGoodBits [] → AreGoodBits values) (λ values. Unit {0} → HasTexts shape → AreGoodBits values)
    (gather_into put_bit bit [] members) (λ values h _ _. h refl) (bits_gathered members []))

-- ---- users

named_user_is_good : (members : List Shape) → Gives IsGoodName (named_user members)
unfolding named_user
named_user_is_good members =
    gives_both (λ found. IsGoodName found.value) IsGoodName (required (codes "dn") name members) _ (gives_required IsGoodName (codes "dn") name members name_is_good)
    (λ dn. gives_end (λ value. IsGoodName dn.value → IsGoodName value) dn.rest dn.value (λ h. h))

pub user_is_good : OnlyTexts IsGoodName user
unfolding user
user_is_good shape = gives_weaker IsGoodName (λ value. HasTexts shape → IsGoodName value) (user_by (members_in shape) shape) (λ value h _. h) (inner (members_in shape))
  where
    inner : (found : Option (List Shape)) → Gives IsGoodName (user_by found shape)
    inner None = name_is_good shape
    inner (Some members) = named_user_is_good members

-- ---- attribute types and values

pub oid_is_some : Only (λ _. Unit {0}) oid
unfolding oid
oid_is_some shape =
    gives_both (λ _. Unit {0}) (λ (_ : Part). Unit {0}) (expect (word_in shape)) (λ word. if is_oid word.text then give word else λ bad. None)
    (gives_expected (λ _. Unit {0}) (word_in shape) (λ value is. tt))
    (λ word. gives_choice (λ _. Unit {0} → Unit {0}) (is_oid word.text) (give word) (λ bad. None)
    (λ _. gives_value (λ _. Unit {0} → Unit {0}) word (λ _. tt)) (λ _. gives_nothing (λ _. Unit {0} → Unit {0})))

pub kind_is_good : OnlyTexts IsAttrId kind
unfolding kind
kind_is_good shape =
    gives_both (λ _. Unit {0}) (λ value. HasTexts shape → IsAttrId value) (oid shape) (λ word. part word.place 0 (attr_of word.text)) (oid_is_some shape)
    (λ word. gives_part (λ value. Unit {0} → HasTexts shape → IsAttrId value) word.place 0 (attr_of word.text)
    (λ value is _ _. IsAttrId-from_attr_of word.text value is))

abbrev IsValueOf : ℕ → Keyed → Type 0
IsValueOf number value = (value_of number value.octets ≡ Some value) × (is_utf8 value.octets ≡ true)

assertion_is_good : (number : ℕ) → OnlyTexts (IsValueOf number) (assertion number)
unfolding assertion
assertion_is_good number shape =
    gives_both (λ (string : Part). HasTexts shape → is_utf8 string.text ≡ true) (λ value. HasTexts shape → IsValueOf number value) (expect (string_in shape)) _
    (gives_expected (λ (string : Part). HasTexts shape → is_utf8 string.text ≡ true) (string_in shape) (λ string is. string_text shape string is))
    (λ string. gives_part (λ value. (HasTexts shape → is_utf8 string.text ≡ true) → HasTexts shape → IsValueOf number value) string.place no_octets
    (value_of number string.text)
    (λ value is h texts.
    let same = sym (value_of-octets number string.text value is) in
    (ap (value_of number) (sym same) ∙ is, ap is_utf8 (sym same) ∙ h texts)))

pub value_is_good : OnlyTexts IsGoodValue kind_and_value
unfolding kind_and_value
value_is_good shape =
    gives_members IsGoodValue shape _
    (λ members. gives_next IsAttrId IsGoodValue members (required (codes "type") kind members) _ (gives_required_texts IsAttrId (codes "type") kind members kind_is_good)
    (λ type. gives_next (IsValueOf type.value) (λ final. IsAttrId type.value → IsGoodValue final) type.rest (required (codes "value") (assertion type.value) type.rest) _
    (gives_required_texts (IsValueOf type.value) (codes "value") (assertion type.value) type.rest (assertion_is_good type.value))
    (λ value. gives_end (λ final. HaveTexts value.rest → IsValueOf type.value value.value → IsAttrId type.value → IsGoodValue final) value.rest
    (record { kind = type.value; value = value.value }) (λ texts valued typed. record { kind = typed; value = valued.0; text = valued.1 }))))

-- ---- precedences

pub own_is_good : OnlyTexts (IfThere (λ number. number ≤ 255)) (there precedence)
own_is_good shape =
    gives_both (λ number. number ≤ 255) (λ own. HasTexts shape → IfThere (λ number. number ≤ 255) own) (precedence shape) (λ number. give (Some number))
    (number_is_at_most 255 shape)
    (λ number. gives_value (λ own. number ≤ 255 → HasTexts shape → IfThere (λ number. number ≤ 255) own) (Some number) (λ h _. h))

pub precedence_is_good : OnlyTexts (λ number. number ≤ 255) precedence
precedence_is_good shape =
    gives_weaker (λ number. number ≤ 255) (λ number. HasTexts shape → number ≤ 255) (precedence shape) (λ number h _. h) (number_is_at_most 255 shape)

-- ---- levels

abbrev AnyLevel : Level → Type 0
AnyLevel value = Unit {0}

level_word_is_some : Only AnyLevel level_word
unfolding level_word
level_word_is_some shape =
    gives_both (λ _. Unit {0}) AnyLevel (expect (word_in shape)) _ (gives_expected (λ _. Unit {0}) (word_in shape) (λ value is. tt))
    (λ word. gives_expected (λ _. Unit {0} → Unit {0}) _ (λ value is _. tt))

basic_levels_are_some : Only AnyLevel basic_levels
unfolding basic_levels
basic_levels_are_some shape =
    gives_both (λ _. Unit {0}) AnyLevel (expect (members_in shape)) _ (gives_expected (λ _. Unit {0}) (members_in shape) (λ value is. tt))
    (λ members. gives_both (λ _. Unit {0}) (λ _. Unit {0} → Unit {0}) (required (codes "level") level_word members) _
    (gives_required AnyLevel (codes "level") level_word members level_word_is_some)
    (λ level. gives_end (λ _. Unit {0} → Unit {0} → Unit {0}) level.rest level.value (λ _ _. tt)))

pub level_is_good : OnlyTexts AnyLevel level
unfolding level
level_is_good shape = gives_weaker AnyLevel (λ value. HasTexts shape → Unit {0}) (level_by (chosen_in shape) shape) (λ value _ _. tt) (inner (chosen_in shape))
  where
    inner : (found : Option (Part × Shape)) → Gives AnyLevel (level_by found shape)
    inner None = level_word_is_some shape
    inner (Some chosen) =
        gives_choice AnyLevel (bytes_eq chosen.0.text (codes "basicLevels")) _ _ (λ _. basic_levels_are_some chosen.1) (λ _. gives_nothing AnyLevel)
