-- Printed names, object identifiers and classes are read as they were, and what is read of a part is good.
use Prim.Native.Nat.{zero}
use Rattle.std.proofs.Common.{◌≡◌, ℕ, suc, ◌≤◌, ◌<◌, Bool, true, false, List, [], ◌∷◌, ◌++◌, length, All, Option, Some, None, option_map, option_and_then, refl, sym, ap, ◌∙◌, subst, arith}
use Rattle.std.specs.Prelude.{◌&&◌, Result, Ok, Err, slice_get, if◌then◌else◌}
use Rattle.std.specs.Char.{IsAsciiDigit}
use Rattle.std.specs.List.{list_all, join_with_byte}
use Rattle.std.specs.Result.{result_ok}
use Rattle.std.specs.Str.{is_utf8}
use Rattle.std.proofs.lemmas.List.Elements.{All-head, All-tail}
use Rattle.std.proofs.lemmas.Str.{is_utf8-from_IsUtf8}
use Rattle.std.proofs.lemmas.Bool.{and_parts}
use Rattle.schema_tables.specs.classes.Classes.{Class, classes, class_at, class_of, class_oid_of}
use Rattle.schema_tables.specs.Oids.{IsNumber, is_dotted_oid}
use Rattle.schema_tables.proofs.Theorems.{IsDottedOid-from, digit_passes}
use Rattle.dn_names.specs.declared.error.BadName.{BadName}
use Rattle.dn_names.specs.name.Names.{RdnSequence, IsTextRdn}
use Rattle.dn_names.specs.name.GoodNames.{IsGoodName}
use Rattle.dn_names.specs.parsing.NameText.{read_name}
use Rattle.dn_names.specs.Printing.{print_name}
use Rattle.dn_names.proofs.Theorems.{read_name-print_name, NameText-read_name, IsGoodName-from_NameText, IsUtf8-print_name, all_reverse, text_name}
use Rattle.gser_tree.specs.Lexemes as lexemes
use Rattle.gser_tree.specs.Lexemes.{is_letter, is_word}
use Rattle.gser_tree.specs.declared.part.Part.{Part}
use Rattle.gser_tree.specs.looking.Looking.{string_in, word_in}
use Rattle.gser_tree.specs.Reading.{expect, part, give}
use Rattle.gser_tree.specs.Writing.{print_word}
use Rattle.gser_tree.proofs.Theorems.{IsRead, Prints, word_is_written, string_is_written, is_letter-digit, is_letter-dot, Only, Gives, gives_both, gives_choice, gives_expected, gives_part, gives_value, gives_nothing}
use Rattle.subtree_spec.specs.Parts.{name, name_of, is_oid, oid, class_oid}
use Rattle.subtree_spec.specs.SubtreeText.{item}
use Rattle.subtree_spec.specs.SubtreePrinted.{print_dn}

-- ---- names

-- the printed form of a name is a text
pub is_utf8-print_name : (value : RdnSequence) → IsGoodName value → is_utf8 (print_name value) ≡ true
is_utf8-print_name value good =
    is_utf8-from_IsUtf8 (print_name value) (IsUtf8-print_name value (all_reverse IsTextRdn value (text_name value good.good)))

name_of-print_name : (value : RdnSequence) → IsGoodName value → name_of (print_name value) ≡ Some value
unfolding name_of
name_of-print_name value good = ap result_ok (read_name-print_name value good)

-- a printed name is read as it was
pub name_prints : (most : ℕ) (value : RdnSequence) → IsGoodName value → Prints most name (print_dn value) value
unfolding name
name_prints most value good =
    string_is_written most (IsRead name value) (print_name value) (is_utf8-print_name value good)
    (λ place bad. rw (name_of-print_name value good) refl)

good_name_of : (text : List ℕ) (value : RdnSequence) → name_of text ≡ Some value → IsGoodName value
unfolding name_of
good_name_of text value h = inner (read_name text) refl h
  where
    inner : (found : Result RdnSequence BadName) → read_name text ≡ found → result_ok found ≡ Some value → IsGoodName value
    inner (Ok other) is h =
        let same : other ≡ value = cc in
        subst IsGoodName same (IsGoodName-from_NameText other text (NameText-read_name other text is))
    inner (Err cause) is h = cc

-- a name that is read is good
pub name_is_good : Only IsGoodName name
unfolding name
name_is_good shape =
    gives_both (λ _. Unit {0}) IsGoodName (expect (string_in shape)) (λ string. part string.place [] (name_of string.text))
    (gives_expected (λ _. Unit {0}) (string_in shape) (λ value is. tt))
    (λ string. gives_part (λ value. Unit {0} → IsGoodName value) string.place [] (name_of string.text) (λ value is _. good_name_of string.text value is))

-- ---- object identifiers

abbrev are_letters : List ℕ → Bool
are_letters octets = list_all (λ x. is_letter (lexemes.class_of x)) octets

letters_append : (one other : List ℕ) → are_letters one ≡ true → are_letters other ≡ true → are_letters (one ++ other) ≡ true
letters_append [] other h k = k
letters_append (x ∷ one) other h k = inner (is_letter (lexemes.class_of x)) h (λ rest. letters_append one other rest k)
  where
    inner : (b : Bool) → (b && are_letters one) ≡ true → (are_letters one ≡ true → are_letters (one ++ other) ≡ true) → (b && are_letters (one ++ other)) ≡ true
    inner true h again = again h
    inner false h again = cc

digits_letters : (digits : List ℕ) → All IsAsciiDigit digits → are_letters digits ≡ true
digits_letters [] all = refl
digits_letters (x ∷ digits) all =
    rw (is_letter-digit x (digit_passes x (All-head IsAsciiDigit x digits all))) (digits_letters digits (All-tail IsAsciiDigit x digits all))

joined_letters : (numbers : List (List ℕ)) → All IsNumber numbers → are_letters (join_with_byte 46 numbers) ≡ true
joined_letters [] all = refl
joined_letters (number ∷ []) all = digits_letters number (All-head IsNumber number [] all).all
joined_letters (number ∷ next ∷ numbers) all =
    letters_append number (46 ∷ join_with_byte 46 (next ∷ numbers)) (digits_letters number (All-head IsNumber number (next ∷ numbers) all).all)
    (rw is_letter-dot (joined_letters (next ∷ numbers) (All-tail IsNumber number (next ∷ numbers) all)))

word_of_letters : (text : List ℕ) → 0 < length text → are_letters text ≡ true → is_word text ≡ true
word_of_letters [] some h = absurd (omega arith)
word_of_letters (x ∷ text) some h = h

joined_some : (numbers : List (List ℕ)) → 2 ≤ length numbers → All IsNumber numbers → 0 < length (join_with_byte 46 numbers)
joined_some [] two all = absurd (omega arith)
joined_some (number ∷ []) two all = absurd (omega arith)
joined_some (number ∷ next ∷ numbers) two all =
    filled number (46 ∷ join_with_byte 46 (next ∷ numbers)) (All-head IsNumber number (next ∷ numbers) all).some
  where
    filled : (one other : List ℕ) → 0 < length one → 0 < length (one ++ other)
    filled [] other h = absurd (omega arith)
    filled (x ∷ one) other h = omega arith

-- a dotted object identifier is a word
pub is_word-dotted : (text : List ℕ) → is_dotted_oid text ≡ true → is_word text ≡ true
is_word-dotted text dotted =
    let is = IsDottedOid-from text dotted in
    word_of_letters text (subst (λ (t : List ℕ). 0 < length t) (sym is.3) (joined_some is.0 is.1 is.2))
    (ap are_letters is.3 ∙ joined_letters is.0 is.2)

class_oid-dotted : (text : List ℕ) → is_dotted_oid text ≡ true → class_oid text ≡ Some text
unfolding class_oid
class_oid-dotted text dotted = rw dotted refl

-- a dotted object identifier is read as an item, as it was
pub item_prints : (most : ℕ) (text : List ℕ) → is_dotted_oid text ≡ true → Prints most item (print_word text) text
unfolding item oid
item_prints most text dotted = word_is_written most (IsRead item text) text (is_word-dotted text dotted) (λ place bad. rw (dotted, class_oid-dotted text dotted) refl)

classes-are_dotted : list_all (λ row. is_dotted_oid row.oid) classes ≡ true
unfolding classes is_dotted_oid
classes-are_dotted = refl

passes_at : (P : Class → Bool) (rows : List Class) (number : ℕ) (row : Class) → list_all P rows ≡ true → slice_get rows number ≡ Some row → P row ≡ true
passes_at P [] number row all there = absurd cc
passes_at P (first ∷ rows) zero row all there =
    let same : first ≡ row = cc in ap P (sym same) ∙ (and_parts (P first) (list_all P rows) all).0
passes_at P (first ∷ rows) (suc number) row all there = passes_at P rows number row (and_parts (P first) (list_all P rows) all).1 there

-- the object identifier of a class is dotted
dotted_class : (text value : List ℕ) → class_oid text ≡ Some value → is_dotted_oid value ≡ true
unfolding class_oid
dotted_class text value h = inner (is_dotted_oid text) refl h
  where
    row_of : (found : Option Class) (number : ℕ) → class_at number ≡ found → option_map (λ row. row.oid) found ≡ Some value → is_dotted_oid value ≡ true
    row_of None number is h = cc
    row_of (Some row) number is h =
        let same : row.oid ≡ value = cc in
        ap is_dotted_oid (sym same) ∙ passes_at (λ row. is_dotted_oid row.oid) classes number row classes-are_dotted is

    class_found : (found : Option ℕ) → option_and_then class_oid_of found ≡ Some value → is_dotted_oid value ≡ true
    class_found None h = cc
    class_found (Some number) h = row_of (class_at number) number refl h

    inner : (b : Bool) → is_dotted_oid text ≡ b → (if b then Some text else option_and_then class_oid_of (class_of text)) ≡ Some value → is_dotted_oid value ≡ true
    inner true is h = let same : text ≡ value = cc in ap is_dotted_oid (sym same) ∙ is
    inner false is h = class_found (class_of text) h

-- what is read as an item is dotted
pub item_is_good : Only (λ value. is_dotted_oid value ≡ true) item
unfolding item oid
item_is_good shape =
    gives_both (λ _. Unit {0}) (λ value. is_dotted_oid value ≡ true) (oid shape) (λ word. part word.place [] (class_oid word.text))
    word_only
    (λ word. gives_part (λ value. Unit {0} → is_dotted_oid value ≡ true) word.place [] (class_oid word.text) (λ value is _. dotted_class word.text value is))
  where
    word_only : Gives (λ (_ : Part). Unit {0}) (oid shape)
    word_only =
        gives_both (λ _. Unit {0}) (λ (_ : Part). Unit {0}) (expect (word_in shape)) (λ word. if is_oid word.text then give word else λ bad. None)
        (gives_expected (λ _. Unit {0}) (word_in shape) (λ value is. tt))
        (λ word. gives_choice (λ _. Unit {0} → Unit {0}) (is_oid word.text) (give word) (λ bad. None)
        (λ _. gives_value (λ _. Unit {0} → Unit {0}) word (λ _. tt)) (λ _. gives_nothing (λ _. Unit {0} → Unit {0})))
