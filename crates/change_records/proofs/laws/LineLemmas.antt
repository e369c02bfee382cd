-- Lemmas on one written line, read again.
use Rattle.std.proofs.Common.{◌≡◌, ℕ, ◌+◌, ◌<◌, ◌==◌, ◌&&◌, not, sym, ◌∙◌, ap, refl, arith, Bool, true, false, List, [], ◌∷◌, ◌++◌, length, take, drop, if◌then◌else◌, Some, None, Ok}
use Rattle.std.specs.Prelude.{codes}
use Rattle.std.specs.Char.{is_ascii_alphanumeric}
use Rattle.std.specs.List.{list_all, list_any, position_or_len, before_first, after_first}
use Rattle.std.specs.Str.{bytes_eq}
use Rattle.std.proofs.lemmas.Bool.{and_parts, and_from, or_right}
use Rattle.std.proofs.lemmas.Bool.Decides.{nat_tests}
use Rattle.std.proofs.lemmas.List.{append_assoc, length-append, take_at, drop_at}
use Rattle.std.proofs.lemmas.Slice.Eq.{bytes_eq-Decides}
use Rattle.base64.specs.GeneralPurpose.{IsBytes, encode_of}
use Rattle.base64.specs.Engines.{standard}
use Rattle.dir_tree.proofs.base_laws_proofs.Theorems.{choose, other_choice}
use Rattle.ldif_records.specs.lines.Lines.{begins_with}
use Rattle.ldif_records.specs.Fields.{Field, is_colon, is_kind, field_after, field_of, with_name}
use Rattle.ldif_records.specs.writing.Written.{is_plain, written_value}
use Rattle.ldif_records.proofs.Theorems.{is_inside, list_all-join, written-inside, SaysField, says}
use Rattle.change_records.specs.Written.{row}
use Rattle.change_records.specs.Reading.{value_at, value_line, is_hyphen}
use Rattle.change_records.proofs.laws.KindLemmas.{kind-text, keystring-kind, kind-inside, kind-colon}

-- ---- the field of a line of a type

no_colon : (octet : ℕ) → not (octet == 58) ≡ true → (octet == 58) ≡ false
no_colon octet is = grind (arith, nat_tests)

colon-place : (kind after : List ℕ) → list_all (λ octet. not (octet == 58)) kind ≡ true → position_or_len is_colon (kind ++ 58 ∷ after) ≡ length kind
colon-place [] after all = refl
colon-place (first ∷ rest) after all =
    let both = and_parts (not (first == 58)) (list_all (λ octet. not (octet == 58)) rest) all in
    choose (not (first == 58)) _ 0 both.0 ∙ ap (λ n. 1 + n) (colon-place rest after both.1) ∙ (omega arith)

colon-there : (kind after : List ℕ) → list_any is_colon (kind ++ 58 ∷ after) ≡ true
colon-there [] after = refl
colon-there (first ∷ rest) after = or_right (is_colon first) _ (colon-there rest after)

colon-front : (kind after : List ℕ) → list_all (λ octet. not (octet == 58)) kind ≡ true → before_first is_colon (kind ++ 58 ∷ after) ≡ kind
colon-front kind after all =
    ap (λ n. take n (kind ++ 58 ∷ after)) (colon-place kind after all) ∙ take_at kind (58 ∷ after) (length kind) refl

colon-back : (kind after : List ℕ) → list_all (λ octet. not (octet == 58)) kind ≡ true → after_first is_colon (kind ++ 58 ∷ after) ≡ after
colon-back kind after all =
    ap (λ n. drop (n + 1) (kind ++ 58 ∷ after)) (colon-place kind after all)
    ∙ ap (drop (length kind + 1)) (sym (append_assoc kind (58 ∷ []) after))
    ∙ drop_at (kind ++ 58 ∷ []) after (length kind + 1) (length-append kind (58 ∷ []))

field-of : (kind after : List ℕ) → is_kind kind ≡ true → field_of (kind ++ 58 ∷ after) ≡ field_after kind after
unfolding field_of
field-of kind after is =
    let colons = kind-colon kind (kind-text kind is) in
    choose (list_any is_colon (kind ++ 58 ∷ after) && is_kind (before_first is_colon (kind ++ 58 ∷ after))) _ None
    (and_from _ _ (colon-there kind after) (ap is_kind (colon-front kind after colons) ∙ is))
    ∙ ap (λ found. field_after found (after_first is_colon (kind ++ 58 ∷ after))) (colon-front kind after colons)
    ∙ ap (field_after kind) (colon-back kind after colons)

-- ---- a value reads the same behind any type

-- what stands after a type begins with a colon
colon-by : (value : List ℕ) (plain : Bool) → is_plain value ≡ plain → written_value value ≡ 58 ∷ drop 1 (written_value value)
unfolding written_value
colon-by value true is =
    let text = choose (is_plain value) (codes ": " ++ value) (codes ":: " ++ encode_of standard value) is in text ∙ ap (λ rest. 58 ∷ drop 1 rest) (sym text)
colon-by value false is =
    let text = other_choice (is_plain value) (codes ": " ++ value) (codes ":: " ++ encode_of standard value) is in text ∙ ap (λ rest. 58 ∷ drop 1 rest) (sym text)

colon-first : (value : List ℕ) → written_value value ≡ 58 ∷ drop 1 (written_value value)
colon-first value = colon-by value (is_plain value) refl

-- the field of another type
abbrev of_kind : List ℕ → Field → Field
of_kind kind field = record { kind = kind; coded = field.coded; text = field.text }

other-by : (kind : List ℕ) (elsewhere coded : Bool) (one two three four : Field) (field : Field)
    → of_kind kind one ≡ two → of_kind kind three ≡ four
    → (if elsewhere then None else if coded then Some one else Some three) ≡ Some field
    → (if elsewhere then None else if coded then Some two else Some four) ≡ Some (of_kind kind field)
other-by kind true coded one two three four field same same2 is = absurd cc
other-by kind false true one two three four field same same2 is =
    let here : one ≡ field = cc is in ap Some (sym same) ∙ ap (λ found. Some (of_kind kind found)) here
other-by kind false false one two three four field same same2 is =
    let here : three ≡ field = cc is in ap Some (sym same2) ∙ ap (λ found. Some (of_kind kind found)) here

other-kind : (one other after : List ℕ) (field : Field) → field_after one after ≡ Some field → field_after other after ≡ Some (of_kind other field)
other-kind one other after field is = other-by other (begins_with 60 after) (begins_with 58 after) _ _ _ _ field refl refl is

-- a line of a type says its value
pub row-says : (kind value : List ℕ) → is_kind kind ≡ true → IsBytes value → SaysField kind value (row kind value)
row-says kind value is bytes =
    let known = says (codes "a") value refl bytes in
    let tail = drop 1 (written_value value) in
    let first = ap (λ text. field_of (codes "a" ++ text)) (sym (colon-first value)) ∙ known.found in
    record {
      field = of_kind kind known.field;
      found =
          ap (λ text. field_of (kind ++ text)) (colon-first value)
          ∙ field-of kind tail is
          ∙ other-kind (codes "a") kind tail known.field (sym (field-of (codes "a") tail (keystring-kind (codes "a") refl)) ∙ first);
      same = refl;
      octets = known.octets;
    }

pub same-text : (one other : List ℕ) → one ≡ other → bytes_eq one other ≡ true
same-text one other is = (bytes_eq-Decides one other).1 is

pub value-read : (number : ℕ) (kind value line : List ℕ) → SaysField kind value line → value_line kind (record { number = number; octets = line }) ≡ Ok value
value-read number kind value line said =
    ap (value_at number kind) said.found
    ∙ choose (bytes_eq said.field.kind kind) _ _ (same-text said.field.kind kind said.same)
    ∙ ap (with_name number) said.octets

-- ---- lines as they stand

-- a line with octets, of which none is a line's end, and the first no space and no number sign
pub record IsWrittenRow (line : List ℕ) : Type 0 where
  pub filled : 0 < length line
  pub inside : list_all is_inside line ≡ true
  pub space : begins_with 32 line ≡ false
  pub sign : begins_with 35 line ≡ false

first-space : (octet : ℕ) → is_ascii_alphanumeric octet ≡ true → (octet == 32) ≡ false
first-space octet is = grind (arith, nat_tests)

first-sign : (octet : ℕ) → is_ascii_alphanumeric octet ≡ true → (octet == 35) ≡ false
first-sign octet is = grind (arith, nat_tests)

first-hyphen : (octet : ℕ) → is_ascii_alphanumeric octet ≡ true → (octet == 45) ≡ false
first-hyphen octet is = grind (arith, nat_tests)

pub row-written : (kind value : List ℕ) → is_kind kind ≡ true → IsWrittenRow (row kind value)
row-written kind value is =
    let text = kind-text kind is in
    let line = ap (λ front. front ++ written_value value) text.is in
    record {
      filled = omega (arith, ap length line);
      inside = list_all-join is_inside kind (written_value value) (kind-inside kind text) (written-inside value);
      space = ap (begins_with 32) line ∙ first-space text.first text.begins;
      sign = ap (begins_with 35) line ∙ first-sign text.first text.begins;
    }

pub hyphen-written : IsWrittenRow (codes "-")
hyphen-written = record { filled = omega arith; inside = refl; space = refl; sign = refl }

-- a line of a type is no hyphen
pub row-hyphen : (number : ℕ) (kind value : List ℕ) → is_kind kind ≡ true → is_hyphen (record { number = number; octets = row kind value }) ≡ false
row-hyphen number kind value is =
    let text = kind-text kind is in
    ap (λ front. bytes_eq (front ++ written_value value) (codes "-")) text.is
    ∙ rw (first-hyphen text.first text.begins) refl
