-- Lemmas on one written line, read again.
use Rattle.std.proofs.Common.{◌≡◌, ◌≢◌, ℕ, ◌+◌, ◌<◌, ◌==◌, ◌&&◌, ◌||◌, not, sym, ◌∙◌, ap, refl, arith, Bool, true, false, List, [], ◌∷◌, ◌++◌, length, take, drop, Some, Ok}
use Rattle.std.specs.Prelude.{codes}
use Rattle.std.specs.Char.{is_ascii_alphabetic, is_ascii_alphanumeric}
use Rattle.std.specs.List.{list_all, position_or_len}
use Rattle.std.specs.Result.{result_ok}
use Rattle.std.specs.Str.Lines.{lines}
use Rattle.std.proofs.lemmas.Bool.{and_parts}
use Rattle.std.proofs.lemmas.Bool.Decides.{nat_tests}
use Rattle.std.proofs.lemmas.List.{append_assoc, length-append, take_at, drop_at}
use Rattle.std.proofs.lemmas.List.Elements.{All-from_get_or}
use Rattle.base64.specs.Engines.{standard}
use Rattle.dir_tree.proofs.plain_values_proofs.Theorems.{lines-ended}
use Rattle.base64.specs.GeneralPurpose.{IsBytes, encode_of}
use Rattle.base64.proofs.EngineFacts.{decode_of-encode_of}
use Rattle.dir_tree.specs.schema_tables.Naming.{is_keystring}
use Rattle.ldif_records.specs.lines.Lines.{Line, begins_with, is_continuation}
use Rattle.ldif_records.specs.Fields.{Field, is_colon, is_kind, is_dn, is_changetype, after_spaces, field_after, field_of, decoded, value_of, with_value, attribute_of, attribute_line, with_name, name_of, name_line}
use Rattle.ldif_records.specs.reading.Records.{is_comment, is_blank}
use Rattle.ldif_records.specs.writing.Written.{is_plain, written_value, written_line}
use Rattle.ldif_records.proofs.fields.FieldLemmas.{field_of-kind}
use Rattle.ldif_records.proofs.laws.OctetLemmas.{is_inside, is_name_octet, is_code_octet, list_all-join, passes-at, keystring-name, keystring-inside, encoded-code, written-inside, strip-inside}
use Rattle.dir_tree.proofs.base_laws_proofs.Theorems.{choose, other_choice}

-- the first colon stands behind a type
no_colon : (octet : ℕ) → is_name_octet octet ≡ true → not (octet == 58) ≡ true
no_colon octet is = (and_parts (is_inside octet) (not (octet == 58)) is).1

pub colon-place : (kind after : List ℕ) → list_all is_name_octet kind ≡ true → position_or_len is_colon (kind ++ 58 ∷ after) ≡ length kind
colon-place [] after all = refl
colon-place (first ∷ rest) after all =
    let both = and_parts (is_name_octet first) (list_all is_name_octet rest) all in
    choose (not (first == 58)) _ 0 (no_colon first both.0) ∙ ap (λ n. 1 + n) (colon-place rest after both.1) ∙ (omega arith)

-- the field of a type and of what stands after it
keystring-kind : (kind : List ℕ) → is_keystring kind ≡ true → is_kind kind ≡ true
unfolding is_kind
keystring-kind kind is = rw is refl

field-of : (kind after : List ℕ) → is_keystring kind ≡ true → field_of (kind ++ 58 ∷ after) ≡ field_after kind after
field-of kind after is =
    let place = colon-place kind after (keystring-name kind is) in
    let within : position_or_len is_colon (kind ++ 58 ∷ after) < length (kind ++ 58 ∷ after) = omega (arith, place, length-append kind (58 ∷ after)) in
    let front = ap (λ n. take n (kind ++ 58 ∷ after)) place ∙ take_at kind (58 ∷ after) (length kind) refl in
    let back = ap (λ n. drop (n + 1) (kind ++ 58 ∷ after)) place ∙ past-colon kind after in
    field_of-kind (kind ++ 58 ∷ after) within (ap is_kind front ∙ keystring-kind kind is)
    ∙ ap (λ found. field_after found (drop (position_or_len is_colon (kind ++ 58 ∷ after) + 1) (kind ++ 58 ∷ after))) front
    ∙ ap (field_after kind) back
  where
    past-colon : (kind after : List ℕ) → drop (length kind + 1) (kind ++ 58 ∷ after) ≡ after
    past-colon kind after = ap (drop (length kind + 1)) (sym (append_assoc kind (58 ∷ []) after)) ∙ drop_at (kind ++ 58 ∷ []) after (length kind + 1) (length-append kind (58 ∷ []))

-- octets that begin with no space have none to skip
pub spaces-none : (text : List ℕ) → begins_with 32 text ≡ false → after_spaces text ≡ text
unfolding after_spaces
spaces-none [] none = refl
spaces-none (first ∷ rest) none = other_choice (first == 32) (after_spaces rest) (first ∷ rest) none

spaces-one : (text : List ℕ) → begins_with 32 text ≡ false → after_spaces (32 ∷ text) ≡ text
unfolding after_spaces
spaces-one text none = spaces-none text none

-- what a line says that is written for a type and octets
pub record SaysField (kind value line : List ℕ) : Type 0 where
  pub field : Field
  pub found : field_of line ≡ Some field
  pub same : field.kind ≡ kind
  pub octets : value_of field ≡ Some value

-- as it is
plain-first : (value : List ℕ) → is_plain value ≡ true → begins_with 32 value ≡ false
unfolding is_plain
plain-first value is = not-true _ (and_parts _ _ (and_parts _ _ (and_parts _ _ (and_parts _ _ is).0).0).0).1
  where
    not-true : (b : Bool) → not b ≡ true → b ≡ false
    not-true true is = cc is
    not-true false is = refl

plain-says : (kind value : List ℕ) → is_keystring kind ≡ true → is_plain value ≡ true → SaysField kind value (kind ++ written_value value)
unfolding written_value
plain-says kind value is plain = record {
  field = record { kind = kind; coded = false; text = value };
  found =
      ap (λ text. field_of (kind ++ text)) (choose (is_plain value) _ _ plain)
      ∙ field-of kind (32 ∷ value) is
      ∙ ap (λ text. Some (record { kind = kind; coded = false; text = text })) (spaces-one value (plain-first value plain));
  same = refl;
  octets = refl;
}

-- in base64
code-first : (text : List ℕ) → list_all is_code_octet text ≡ true → begins_with 32 text ≡ false
code-first [] all = refl
code-first (first ∷ rest) all = no_space first (and_parts (is_code_octet first) (list_all is_code_octet rest) all).0
  where
    no_space : (octet : ℕ) → is_code_octet octet ≡ true → (octet == 32) ≡ false
    no_space octet is = grind (arith, nat_tests)

pub decoded-encoded : (value : List ℕ) → IsBytes value → decoded (encode_of standard value) ≡ Some value
unfolding decoded
decoded-encoded value bytes = ap result_ok (decode_of-encode_of standard value refl bytes)

coded-says : (kind value : List ℕ) → is_keystring kind ≡ true → IsBytes value → is_plain value ≡ false → SaysField kind value (kind ++ written_value value)
unfolding written_value
coded-says kind value is bytes plain = record {
  field = record { kind = kind; coded = true; text = encode_of standard value };
  found =
      ap (λ text. field_of (kind ++ text)) (other_choice (is_plain value) _ _ plain)
      ∙ field-of kind (58 ∷ 32 ∷ encode_of standard value) is
      ∙ ap (λ text. Some (record { kind = kind; coded = true; text = text })) (spaces-one (encode_of standard value) (code-first (encode_of standard value) (encoded-code value)));
  same = refl;
  octets = decoded-encoded value bytes;
}

says-by : (kind value : List ℕ) (plain : Bool) → is_plain value ≡ plain → is_keystring kind ≡ true → IsBytes value → SaysField kind value (kind ++ written_value value)
says-by kind value true plain is bytes = plain-says kind value is plain
says-by kind value false plain is bytes = coded-says kind value is bytes plain

pub says : (kind value : List ℕ) → is_keystring kind ≡ true → IsBytes value → SaysField kind value (kind ++ written_value value)
says kind value is bytes = says-by kind value (is_plain value) refl is bytes

-- an attribute line and a name line say what was written
pub attribute-says : (number : ℕ) (kind value line : List ℕ) → SaysField kind value line → is_changetype kind ≡ false
    → attribute_line (record { number = number; octets = line }) ≡ Ok (record { line = number; kind = kind; value = value })
attribute-says number kind value line said other =
    ap (attribute_of number) said.found
    ∙ other_choice (is_changetype said.field.kind) _ _ (ap is_changetype said.same ∙ other)
    ∙ ap (with_value number said.field.kind) said.octets
    ∙ ap (λ found. Ok (record { line = number; kind = found; value = value })) said.same

pub name-says : (number : ℕ) (value line : List ℕ) → SaysField (codes "dn") value line → name_line false (record { number = number; octets = line }) ≡ Ok value
unfolding is_dn
name-says number value line said =
    ap (name_of number false) said.found
    ∙ choose (is_dn said.field.kind && not false) _ _ (ap (λ kind. is_dn kind && not false) said.same)
    ∙ ap (with_name number) said.octets

-- a written line is cut off whole
no_feed : (octet : ℕ) → is_inside octet ≡ true → octet ≢ 10
no_feed octet is = grind (arith, nat_tests)

pub lines-inside : (line rest : List ℕ) → list_all is_inside line ≡ true → lines (line ++ 10 ∷ rest) ≡ line ∷ lines rest
lines-inside line rest all =
    lines-ended line rest (All-from_get_or (λ octet. octet ≢ 10) line 0 (λ k within. no_feed _ (passes-at is_inside refl line all k)))
    ∙ ap (λ first. first ∷ lines rest) (strip-inside line all)

pub lines-written : (kind value rest : List ℕ) → is_keystring kind ≡ true → lines (written_line kind value ++ rest) ≡ (kind ++ written_value value) ∷ lines rest
lines-written kind value rest is =
    ap (λ text. lines (text ++ rest)) (sym (append_assoc kind (written_value value) (10 ∷ [])))
    ∙ ap lines (append_assoc (kind ++ written_value value) (10 ∷ []) rest)
    ∙ lines-inside (kind ++ written_value value) rest (list_all-join is_inside kind (written_value value) (keystring-inside kind is) (written-inside value))

-- it continues no line, is no comment and is not empty
pub record IsRow (line : Line) : Type 0 where
  pub begins : is_continuation line ≡ false
  pub says : is_comment line ≡ false

alphabetic-row : (first : ℕ) → is_ascii_alphabetic first ≡ true → ((first == 32) ≡ false) × ((first == 35) ≡ false)
alphabetic-row first is = (grind (arith, nat_tests), grind (arith, nat_tests))

pub row-of : (number : ℕ) (kind after : List ℕ) → is_keystring kind ≡ true → IsRow (record { number = number; octets = kind ++ after })
row-of number [] after is = cc is
row-of number (first ∷ rest) after is =
    let both = alphabetic-row first (and_parts (is_ascii_alphabetic first) (list_all (λ octet. is_ascii_alphanumeric octet || octet == 45) rest) is).0 in
    record { begins = both.0; says = both.1 }

pub filled-of : (number : ℕ) (kind after : List ℕ) → is_keystring kind ≡ true → is_blank (record { number = number; octets = kind ++ after }) ≡ false
filled-of number [] after is = cc is
filled-of number (first ∷ rest) after is = grind (arith, nat_tests)
