-- The word of an item is read as the item.
use Rattle.std.proofs.Common.{◌≡◌, ℕ, ◌<◌, ◌+◌, ◌==◌, ◌∙◌, sym, ap, cond, refl, arith, Bool, true, false, not, ◌&&◌, nat_lt, option_map, List, [], ◌∷◌, ◌++◌, length, take, drop, get_or, Option, Some, None}
use Rattle.std.specs.Prelude.{codes, if◌then◌else◌}
use Rattle.std.specs.Option.{option_map_or}
use Rattle.std.specs.List.{list_all, position_or_len}
use Rattle.std.specs.Str.{IsAscii, is_utf8, bytes_eq}
use Rattle.std.proofs.Math.Seq.{take-append_seam, drop-append_seam, drop-append-add}
use Rattle.std.proofs.lemmas.Bool.{and_parts}
use Rattle.std.proofs.lemmas.Bool.Decides.{nat_tests}
use Rattle.std.proofs.lemmas.List.{take-append-drop, length-append}
use Rattle.std.proofs.lemmas.Slice.Eq.{bytes_eq-Decides}
use Rattle.std.proofs.lemmas.Str.{IsUtf8-from_is_utf8, is_utf8-from_IsUtf8, IsUtf8-append, IsUtf8-from_ascii, IsUtf8-drop, IsCharBoundary-after_ascii}
use Rattle.std.proofs.lemmas.Str.Ascii.{IsAscii-nil, IsAscii-cons}
use Rattle.dir_tree.specs.schema_tables.Attributes.{attributes, IsAttrId, name_of}
use Rattle.dir_tree.proofs.schema_tables_proofs.Theorems.{attribute_at-Some}
use Rattle.dir_tree.proofs.base_laws_proofs.Theorems.{passes_at}
use Rattle.explanation.specs.Cutting.{after, cut_at_equals}

-- what follows a front is found behind it, and only that
pub after-front : (front rest : List ℕ) → after front (front ++ rest) ≡ Some rest
after-front front rest =
    ap (λ taken. if bytes_eq taken front then Some (drop (length front) (front ++ rest)) else None) (take-append_seam front rest)
    ∙ ap (λ is. if is then Some (drop (length front) (front ++ rest)) else None) ((bytes_eq-Decides front front).1 refl)
    ∙ ap Some (drop-append_seam front rest)

pub front-after : (front text rest : List ℕ) → after front text ≡ Some rest → text ≡ front ++ rest
front-after front text rest found = by (bytes_eq (take (length front) text) front) refl found
  where
    by : (is : Bool) → bytes_eq (take (length front) text) front ≡ is → (if is then Some (drop (length front) text) else None) ≡ Some rest → text ≡ front ++ rest
    by true is found =
        let same : drop (length front) text ≡ rest = cc in
        sym (take-append-drop (length front) text) ∙ ap (λ taken. taken ++ drop (length front) text) ((bytes_eq-Decides (take (length front) text) front).0 is) ∙ ap (λ dropped. front ++ dropped) same
    by false is found = absurd cc

-- the octet is ASCII, and no `=`
abbrev pub is_name_octet : ℕ → Bool
is_name_octet octet = nat_lt octet 128 && not (octet == 61)

names_are_plain : list_all (λ row. list_all is_name_octet row.name) attributes ≡ true
unfolding attributes
names_are_plain = refl

-- each name of a type is of such octets
pub name_of-plain : (number : ℕ) → IsAttrId number → list_all is_name_octet (name_of number) ≡ true
name_of-plain number within =
    let row = attribute_at-Some number within in
    ap (λ found. list_all is_name_octet (option_map_or (λ row. row.name) found [])) row.1
    ∙ passes_at (λ row. list_all is_name_octet row.name) attributes number row.0 names_are_plain row.1

ascii_octet : (octet : ℕ) → is_name_octet octet ≡ true → octet < 128
ascii_octet octet is = grind (arith, nat_tests)

no_equals : (octet : ℕ) → is_name_octet octet ≡ true → (octet == 61) ≡ false
no_equals octet is = grind (arith, nat_tests)

IsAscii-plain : (name : List ℕ) → list_all is_name_octet name ≡ true → IsAscii name
IsAscii-plain [] plain = IsAscii-nil
IsAscii-plain (octet ∷ name) plain =
    let both = and_parts (is_name_octet octet) (list_all is_name_octet name) plain in
    IsAscii-cons octet name (ascii_octet octet both.0) (IsAscii-plain name both.1)

-- such a name ends at the first `=`
mark-place : (name octets : List ℕ) → list_all is_name_octet name ≡ true → position_or_len (λ octet. octet == 61) (name ++ 61 ∷ octets) ≡ length name
mark-place [] octets plain = refl
mark-place (octet ∷ name) octets plain =
    let both = and_parts (is_name_octet octet) (list_all is_name_octet name) plain in
    let later = mark-place name octets both.1 in
    ap (λ is. cond (not is) (1 + position_or_len (λ octet. octet == 61) (name ++ 61 ∷ octets)) 0) (no_equals octet both.0) ∙ (omega (arith, later))

within-place : (place size : ℕ) → place < size → cond (nat_lt place size) (Some place) None ≡ Some place
within-place place size below = grind (arith, nat_tests)

pub cut_at_equals-plain : (name octets : List ℕ) → list_all is_name_octet name ≡ true → cut_at_equals (name ++ 61 ∷ octets) ≡ Some (name, octets)
cut_at_equals-plain name octets plain =
    let text = name ++ 61 ∷ octets in
    let place = mark-place name octets plain in
    let cut : Option ℕ → Option (List ℕ × List ℕ) = λ found. option_map (λ place. (take place text, drop (place + 1) text)) found in
    ap (λ (place : ℕ). cut (cond (nat_lt place (length text)) (Some place) None)) place
    ∙ ap cut (within-place (length name) (length text) (omega (arith, length-append name (61 ∷ octets))))
    ∙ ap (λ front. Some (front, drop (length name + 1) text)) (take-append_seam name (61 ∷ octets))
    ∙ ap (λ rest. Some (name, rest)) (drop-append-add name (61 ∷ octets) 1)

-- such a text is UTF-8, and so are two such texts one behind the other
pub is_utf8-plain : (text : List ℕ) → list_all is_name_octet text ≡ true → is_utf8 text ≡ true
is_utf8-plain text plain = is_utf8-from_IsUtf8 text (IsUtf8-from_ascii text (IsAscii-plain text plain))

pub is_utf8-equals : is_utf8 (codes "=") ≡ true
is_utf8-equals = is_utf8-from_IsUtf8 (codes "=") (IsUtf8-from_ascii (codes "=") (IsAscii-cons 61 [] (omega arith) IsAscii-nil))

pub is_utf8-append : (one other : List ℕ) → is_utf8 one ≡ true → is_utf8 other ≡ true → is_utf8 (one ++ other) ≡ true
is_utf8-append one other first second =
    is_utf8-from_IsUtf8 (one ++ other) (IsUtf8-append one other (IsUtf8-from_is_utf8 one first) (IsUtf8-from_is_utf8 other second))

-- what follows an ASCII octet is UTF-8 where all is
pub is_utf8-after : (text : List ℕ) (place : ℕ) → is_utf8 text ≡ true → place < length text → get_or text place 0 < 128 → is_utf8 (drop (place + 1) text) ≡ true
is_utf8-after text place is within ascii =
    let whole = IsUtf8-from_is_utf8 text is in
    is_utf8-from_IsUtf8 (drop (place + 1) text) (IsUtf8-drop text (place + 1) whole (IsCharBoundary-after_ascii text place whole within ascii))
