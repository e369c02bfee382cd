-- Lines without LF, and the text that they make, cut into lines again.
use Rattle.std.proofs.Common.{◌≡◌, ℕ, ◌==◌, ◌∙◌, ap, cond, refl, Bool, true, false, List, [], ◌∷◌, ◌++◌}
use Rattle.std.specs.Prelude.{codes}
use Rattle.std.specs.List.{AllByRecursion, list_any, onto_first}
use Rattle.std.proofs.lemmas.Bool.{or_parts, or_from}
use Rattle.std.proofs.lemmas.List.{append_assoc}
use Rattle.std.proofs.lemmas.List.Folds.{list_any-append}
use Rattle.std.proofs.lemmas.List.Splits.{slice_split-cons_no}
use Rattle.line_text.specs.Escapes.{one_line_octet, one_line, escaped_octet, escaped}
use Rattle.line_text.specs.Lines.{without_last, last_part, parts_of, lines_of, rest_of, joined_lines}

-- an octet is LF
abbrev is_end : ℕ → Bool
is_end octet = octet == 10

-- one of the octets is LF
abbrev pub has_end : List ℕ → Bool
has_end text = list_any is_end text

pub has_end-append : (one other : List ℕ) → has_end one ≡ false → has_end other ≡ false → has_end (one ++ other) ≡ false
has_end-append one other first second = list_any-append is_end one other ∙ or_from (has_end one) (has_end other) first second

-- texts kept in one line
octet-by : (octet : ℕ) (is_feed is_return : Bool) → (octet == 10) ≡ is_feed → has_end (cond is_feed (codes "\\0a") (cond is_return (codes "\\0d") (octet ∷ []))) ≡ false
octet-by octet true is_return feed = refl
octet-by octet false true feed = refl
octet-by octet false false feed = or_from (octet == 10) false feed refl

pub has_end-one_line : (octets : List ℕ) → has_end (one_line octets) ≡ false
unfolding one_line
has_end-one_line [] = refl
has_end-one_line (octet ∷ octets) =
    has_end-append (one_line_octet octet) (one_line octets) (octet-by octet (octet == 10) (octet == 13) refl) (has_end-one_line octets)

escaped-by : (octet : ℕ) (is_backslash : Bool) → has_end (cond is_backslash (codes "\\5c") (one_line_octet octet)) ≡ false
escaped-by octet true = refl
escaped-by octet false = octet-by octet (octet == 10) (octet == 13) refl

pub has_end-escaped : (octets : List ℕ) → has_end (escaped octets) ≡ false
unfolding escaped
has_end-escaped [] = refl
has_end-escaped (octet ∷ octets) =
    has_end-append (escaped_octet octet) (escaped octets) (escaped-by octet (octet == 92)) (has_end-escaped octets)

-- a line, and the parts of what follows its LF
parts_of-line : (line text : List ℕ) → has_end line ≡ false → parts_of (line ++ 10 ∷ text) ≡ line ∷ parts_of text
parts_of-line [] text none = refl
parts_of-line (octet ∷ line) text none =
    let both = or_parts (octet == 10) (has_end line) none in
    slice_split-cons_no is_end octet (line ++ 10 ∷ text) both.0 ∙ ap (onto_first octet) (parts_of-line line text both.1)

-- lines without LF are the parts of their text, with an empty one behind them
parts_of-joined : (lines : List (List ℕ)) → AllByRecursion (λ line. has_end line ≡ false) lines → parts_of (joined_lines lines) ≡ lines ++ [] ∷ []
parts_of-joined [] none = refl
parts_of-joined (line ∷ lines) none =
    ap parts_of (append_assoc line (10 ∷ []) (joined_lines lines))
    ∙ parts_of-line line (joined_lines lines) none.0
    ∙ ap (λ parts. line ∷ parts) (parts_of-joined lines none.1)

without_last-push : (lines : List (List ℕ)) (last : List ℕ) → without_last (lines ++ last ∷ []) ≡ lines
without_last-push [] last = refl
without_last-push (line ∷ []) last = refl
without_last-push (line ∷ next ∷ lines) last = ap (λ rest. line ∷ rest) (without_last-push (next ∷ lines) last)

last_part-push : (lines : List (List ℕ)) (last : List ℕ) → last_part (lines ++ last ∷ []) ≡ last
last_part-push [] last = refl
last_part-push (line ∷ []) last = refl
last_part-push (line ∷ next ∷ lines) last = last_part-push (next ∷ lines) last

pub lines_of-joined : (lines : List (List ℕ)) → AllByRecursion (λ line. has_end line ≡ false) lines → lines_of (joined_lines lines) ≡ lines
unfolding lines_of
lines_of-joined lines none = ap without_last (parts_of-joined lines none) ∙ without_last-push lines []

pub rest_of-joined : (lines : List (List ℕ)) → AllByRecursion (λ line. has_end line ≡ false) lines → rest_of (joined_lines lines) ≡ []
unfolding rest_of
rest_of-joined lines none = ap last_part (parts_of-joined lines none) ∙ last_part-push lines []
