-- The line of one request, read again.
use Rattle.std.proofs.Common.{◌≡◌, ℕ, ◌*◌, ◌%◌, ◌<◌, ◌-◌, ◌==◌, ◌&&◌, not, Bool, true, false, List, [], ◌∷◌, ◌++◌, length, Some, refl, ap, ◌∙◌, arith}
use Rattle.std.specs.Prelude.{codes, slice_index, slice_index_or}
use Rattle.std.specs.List.{slice_split, AllPass}
use Rattle.std.specs.Str.Lines.{lines, lines_of_parts, strip_carriage_return}
use Rattle.std.proofs.lemmas.Bool.Decides.{nat_tests}
use Rattle.std.proofs.lemmas.List.Elements.{All-append}
use Rattle.std.proofs.lemmas.List.Sums.{AllPass-from_list_all}
use Rattle.std.proofs.lemmas.List.Splits.{slice_split_at, length-slice_split}
use Rattle.hex.specs.Hex.{encode_lower, is_hex_digit, IsBytes}
use Rattle.hex.proofs.HexLemmas.{decode_of-encode_lower, decode_of-ok}
use Rattle.script_text.specs.declared.event.ScriptEvent.TheVariants.{Bytes}
use Rattle.script_text.specs.LineReading.{event_of, sent_by, number_of, octets_of}

-- the octet ends no line
abbrev pub is_inside : ℕ → Bool
is_inside octet = not (octet == 10) && not (octet == 13)

no_feed : (octet : ℕ) → is_inside octet ≡ true → (octet == 10) ≡ false
no_feed octet is = grind (arith, nat_tests)

no_return : (octet : ℕ) → is_inside octet ≡ true → (octet == 13) ≡ false
no_return octet is = grind (arith, nat_tests)

digit_inside : (octet : ℕ) → is_hex_digit octet ≡ true → is_inside octet ≡ true
digit_inside octet is = grind (arith, nat_tests)

-- the part before others is a line that ended
lines_of_parts-cons : (part : List ℕ) (parts : List (List ℕ)) → 0 < length parts → lines_of_parts (part ∷ parts) ≡ strip_carriage_return part ∷ lines_of_parts parts
lines_of_parts-cons part [] more = absurd (omega arith)
lines_of_parts-cons part (next ∷ parts) more = refl

-- a line without a carriage return loses none
strip_inside : (line : List ℕ) → 0 < length line → AllPass is_inside line → strip_carriage_return line ≡ line
strip_inside line filled inside = rw (no_return (slice_index line (length line - 1)) (inside (length line - 1) 0 (omega arith))) refl

-- a line and those behind it
pub lines-inside : (line rest : List ℕ) → 0 < length line → AllPass is_inside line → lines (line ++ 10 ∷ rest) ≡ line ∷ lines rest
lines-inside line rest filled inside =
    ap lines_of_parts (slice_split_at (λ octet. octet == 10) line 10 rest (λ k d within. no_feed _ (inside k d within)) refl)
    ∙ lines_of_parts-cons line (slice_split (λ octet. octet == 10) rest) (omega (arith, length-slice_split (λ octet. octet == 10) rest))
    ∙ ap (λ first. first ∷ lines rest) (strip_inside line filled inside)

-- the text of a request's line
abbrev pub send_text : List ℕ → List ℕ
send_text octets = codes "send 1 " ++ encode_lower octets

-- what its digits are
abbrev IsRead : List ℕ → Type 0
IsRead octets = (length (encode_lower octets) % 2 ≡ 0) × AllPass is_hex_digit (encode_lower octets) × (length (encode_lower octets) ≡ 2 * length octets) × IsBytes octets

digits_read : (octets : List ℕ) → IsBytes octets → IsRead octets
digits_read octets bytes = decode_of-ok (encode_lower octets) octets (decode_of-encode_lower octets bytes)

-- it stays within its line
pub send_inside : (octets : List ℕ) → IsBytes octets → AllPass is_inside (send_text octets)
send_inside octets bytes =
    All-append (λ octet. is_inside octet ≡ true) (codes "send 1 ") (encode_lower octets) (AllPass-from_list_all is_inside (codes "send 1 ") refl)
    (λ k d within. digit_inside (slice_index_or (encode_lower octets) k d) ((digits_read octets bytes).1 k d within))

not_empty : (count : ℕ) → 0 < count → (count == 0) ≡ false
not_empty count some = grind (arith, nat_tests)

-- it is read as the event
pub event_of-sent : (octets : List ℕ) → 0 < length octets → IsBytes octets → event_of (send_text octets) ≡ Some (Bytes 1 octets)
unfolding event_of sent_by number_of octets_of
event_of-sent octets filled bytes =
    let some : 0 < length (encode_lower octets) = omega (arith, (digits_read octets bytes).2) in
    rw (not_empty (length (encode_lower octets)) some, decode_of-encode_lower octets bytes) refl
