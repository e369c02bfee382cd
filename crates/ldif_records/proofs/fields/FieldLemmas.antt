-- Lemmas on the field of a line, by the place of its first colon.
use Rattle.std.proofs.Common.{◌≡◌, ℕ, ◌+◌, ◌<◌, ◌&&◌, refl, sym, ◌∙◌, ap, arith, Bool, true, false, List, length, take, drop, None}
use Rattle.std.specs.List.{position_or_len, list_any}
use Rattle.std.proofs.lemmas.Bool.{and_from}
use Rattle.std.proofs.lemmas.List.Elements.{All-from_get_or}
use Rattle.std.proofs.lemmas.List.Folds.{list_any_at, list_any_none}
use Rattle.std.proofs.lemmas.List.Sums.{fails_before_first, passes_at_first}
use Rattle.ldif_records.specs.Fields.{is_colon, is_kind, field_after, field_of}
use Rattle.dir_tree.proofs.base_laws_proofs.Theorems.{choose, other_choice}

-- whether an octet passes, by the place of the first that does
list_any-here : (test : ℕ → Bool) (xs : List ℕ) → position_or_len test xs < length xs → list_any test xs ≡ true
list_any-here test xs within = list_any_at test xs (position_or_len test xs) 0 within (passes_at_first test xs 0 within)

list_any-nowhere : (test : ℕ → Bool) (xs : List ℕ) → position_or_len test xs ≡ length xs → list_any test xs ≡ false
list_any-nowhere test xs none =
    list_any_none test xs (All-from_get_or (λ octet. test octet ≡ false) xs 0 (λ i within. fails_before_first test xs i 0 (omega arith)))

-- what a call answered of the front of a text that was cut at a place
pub at_front : (test : List ℕ → Bool) (whole front : List ℕ) (end place : ℕ) (found answer : Bool) → end ≡ place → front ≡ take end whole → found ≡ test front → found ≡ answer
    → test (take place whole) ≡ answer
at_front test whole front end place found answer there cut called is = ap test (ap (λ n. take n whole) (sym there) ∙ sym cut) ∙ sym called ∙ is

-- two tests, of which one fails
fails_left : (one other : Bool) → one ≡ false → (one && other) ≡ false
fails_left true other fails = cc fails
fails_left false other fails = refl

fails_right : (one other : Bool) → other ≡ false → (one && other) ≡ false
fails_right true other fails = fails
fails_right false other fails = refl

-- no colon
pub field_of-none : (line : List ℕ) → position_or_len is_colon line ≡ length line → field_of line ≡ None
unfolding field_of
field_of-none line none = other_choice _ _ None (fails_left (list_any is_colon line) _ (list_any-nowhere is_colon line none))

-- what stands before the colon is no type
pub field_of-no_kind : (line : List ℕ) → is_kind (take (position_or_len is_colon line) line) ≡ false → field_of line ≡ None
unfolding field_of
field_of-no_kind line none = other_choice _ _ None (fails_right (list_any is_colon line) _ none)

-- a type and a colon
pub field_of-kind : (line : List ℕ) → position_or_len is_colon line < length line → is_kind (take (position_or_len is_colon line) line) ≡ true
    → field_of line ≡ field_after (take (position_or_len is_colon line) line) (drop (position_or_len is_colon line + 1) line)
unfolding field_of
field_of-kind line within is = choose _ _ None (and_from (list_any is_colon line) _ (list_any-here is_colon line within) is)
