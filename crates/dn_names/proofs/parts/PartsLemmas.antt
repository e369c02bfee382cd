-- Parts at marks: a text that has no bare mark and ends behind no backslash is one part.
use Rattle.std.proofs.Common.{◌≡◌, ℕ, suc, ◌+◌, ◌<◌, Bool, true, false, not, List, [], ◌∷◌, ◌++◌, map, take, drop, get_or, length, refl, sym, ap, ◌∙◌, arith}
use Rattle.std.specs.Prelude.{◌==◌, ◌&&◌, if◌then◌else◌}
use Rattle.std.proofs.lemmas.List.{drop_more}
use Rattle.std.proofs.lemmas.Bool.{false≢true, cond-false, cond-true, and_parts, and_from, not-true}
use Rattle.std.proofs.lemmas.Bool.Decides.{nat_tests}
use Rattle.dn_names.specs.Spelling.{IsJoined}
use Rattle.dn_names.specs.Reading.{is_mark, escapes_next, put_front, parts_from, mark_from, marks_from}

-- no bare mark, and no backslash before the end
abbrev pub is_clean : ℕ → Bool → List ℕ → Bool
is_clean mark escaped [] = not escaped
is_clean mark escaped (x ∷ xs) = not (is_mark mark escaped x) && is_clean mark (escapes_next escaped x) xs

-- clean texts in a row are a clean text
pub is_clean-append : (mark : ℕ) (escaped : Bool) (xs ys : List ℕ) → is_clean mark escaped xs ≡ true → is_clean mark false ys ≡ true → is_clean mark escaped (xs ++ ys) ≡ true
is_clean-append mark false [] ys e f = f
is_clean-append mark true [] ys e f = absurd (false≢true e)
is_clean-append mark escaped (x ∷ xs) ys e f =
    let both = and_parts (not (is_mark mark escaped x)) (is_clean mark (escapes_next escaped x) xs) e in
    and_from (not (is_mark mark escaped x)) (is_clean mark (escapes_next escaped x) (xs ++ ys)) both.0 (is_clean-append mark (escapes_next escaped x) xs ys both.1 f)

-- a clean text is one part
pub parts_from-clean : (mark : ℕ) (escaped : Bool) (text : List ℕ) → is_clean mark escaped text ≡ true → parts_from mark escaped text ≡ text ∷ []
parts_from-clean mark escaped [] e = refl
parts_from-clean mark escaped (x ∷ xs) e =
    let both = and_parts (not (is_mark mark escaped x)) (is_clean mark (escapes_next escaped x) xs) e in
    cond-false (is_mark mark escaped x) ([] ∷ parts_from mark false xs) (put_front x (parts_from mark (escapes_next escaped x) xs)) (not-true (is_mark mark escaped x) both.0)
    ∙ ap (put_front x) (parts_from-clean mark (escapes_next escaped x) xs both.1)

same_octet : (mark : ℕ) → (mark == mark) ≡ true
same_octet mark = grind (arith, nat_tests)

-- before a mark it is the first part
pub parts_from-append : (mark : ℕ) (escaped : Bool) (text rest : List ℕ) → is_clean mark escaped text ≡ true → parts_from mark escaped (text ++ mark ∷ rest) ≡ text ∷ parts_from mark false rest
parts_from-append mark true [] rest e = absurd (false≢true e)
parts_from-append mark false [] rest e =
    cond-true (mark == mark) ([] ∷ parts_from mark false rest) (put_front mark (parts_from mark (escapes_next false mark) rest)) (same_octet mark)
parts_from-append mark escaped (x ∷ xs) rest e =
    let both = and_parts (not (is_mark mark escaped x)) (is_clean mark (escapes_next escaped x) xs) e in
    cond-false (is_mark mark escaped x) ([] ∷ parts_from mark false (xs ++ mark ∷ rest)) (put_front x (parts_from mark (escapes_next escaped x) (xs ++ mark ∷ rest))) (not-true (is_mark mark escaped x) both.0)
    ∙ ap (put_front x) (parts_from-append mark (escapes_next escaped x) xs rest both.1)

-- joined texts are taken apart, where each is clean
pub map-parts_from : {R : Type 0} (mark : ℕ) (P : R → List ℕ → Type 0) (read : List ℕ → R) → ((r : R) (text : List ℕ) → P r text → (is_clean mark false text ≡ true) × (read text ≡ r)) → (rs : List R) (text : List ℕ) → IsJoined mark P rs text → map read (parts_from mark false text) ≡ rs
map-parts_from mark P read each [] text j = absurd j
map-parts_from mark P read each (r ∷ []) text j =
    let both = each r text j in
    ap (map read) (parts_from-clean mark false text both.0) ∙ ap (λ s. s ∷ []) both.1
map-parts_from mark P read each (r ∷ s ∷ rs) text (front, rest, e, p, j) =
    let both = each r front p in
    let others = map-parts_from mark P read each (s ∷ rs) rest j in
    ap (λ t. map read (parts_from mark false t)) e
    ∙ ap (map read) (parts_from-append mark false front rest both.0)
    ∙ ap (λ t. read front ∷ t) others ∙ ap (λ t. t ∷ s ∷ rs) both.1

-- what is clean of another mark in each text is clean of it in the joined one
pub is_clean-joined : {R : Type 0} (mark other : ℕ) (P : R → List ℕ → Type 0) → ((r : R) (text : List ℕ) → P r text → is_clean other false text ≡ true) → is_clean other false (mark ∷ []) ≡ true → (rs : List R) (text : List ℕ) → IsJoined mark P rs text → is_clean other false text ≡ true
is_clean-joined mark other P each between [] text j = absurd j
is_clean-joined mark other P each between (r ∷ []) text j = each r text j
is_clean-joined mark other P each between (r ∷ s ∷ rs) text (front, rest, e, p, j) =
    ap (is_clean other false) e
    ∙ is_clean-append other false front (mark ∷ rest) (each r front p)
    (is_clean-append other false (mark ∷ []) rest between (is_clean-joined mark other P each between (s ∷ rs) rest j))

-- what stands after the first part
abbrev pub parts_after : ℕ → List ℕ → List (List ℕ)
parts_after mark [] = []
parts_after mark (x ∷ xs) = parts_from mark false xs

-- the first part, by its length
pub parts_from-mark : (mark : ℕ) (escaped : Bool) (text : List ℕ) → parts_from mark escaped text ≡ take (mark_from mark escaped text) text ∷ parts_after mark (drop (mark_from mark escaped text) text)
parts_from-mark mark escaped [] = refl
parts_from-mark mark escaped (x ∷ xs) =
    elim (is_mark mark escaped x) as (λ b. (if b then [] ∷ parts_from mark false xs else put_front x (parts_from mark (escapes_next escaped x) xs)) ≡ take (if b then 0 else suc (mark_from mark (escapes_next escaped x) xs)) (x ∷ xs) ∷ parts_after mark (drop (if b then 0 else suc (mark_from mark (escapes_next escaped x) xs)) (x ∷ xs))) [
      | true ↦ refl
      | false ↦ ap (put_front x) (parts_from-mark mark (escapes_next escaped x) xs)
    ]

length-put_front : (x n : ℕ) (parts : List (List ℕ)) → length parts ≡ suc n → length (put_front x parts) ≡ suc n
length-put_front x n [] e = absurd (omega (arith, e))
length-put_front x n (part ∷ parts) e = e

-- there is one part more than marks
pub length-parts_from : (mark : ℕ) (escaped : Bool) (text : List ℕ) → length (parts_from mark escaped text) ≡ suc (marks_from mark escaped text)
length-parts_from mark escaped [] = refl
length-parts_from mark escaped (x ∷ xs) =
    elim (is_mark mark escaped x) as (λ b. length (if b then [] ∷ parts_from mark false xs else put_front x (parts_from mark (escapes_next escaped x) xs)) ≡ suc (if b then suc (marks_from mark false xs) else marks_from mark (escapes_next escaped x) xs)) [
      | true ↦ ap suc (length-parts_from mark false xs)
      | false ↦ length-put_front x (marks_from mark (escapes_next escaped x) xs) (parts_from mark (escapes_next escaped x) xs) (length-parts_from mark (escapes_next escaped x) xs)
    ]

-- the marks that are left, one octet on
pub marks_from-mark : (mark : ℕ) (escaped : Bool) (text : List ℕ) (place : ℕ) → place < length text → is_mark mark escaped (get_or text place 0) ≡ true → marks_from mark escaped (drop place text) ≡ suc (marks_from mark false (drop (place + 1) text))
marks_from-mark mark escaped text place within e =
    ap (marks_from mark escaped) (drop_more text place 0 within)
    ∙ cond-true (is_mark mark escaped (get_or text place 0)) (suc (marks_from mark false (drop (place + 1) text))) (marks_from mark (escapes_next escaped (get_or text place 0)) (drop (place + 1) text)) e

pub marks_from-other : (mark : ℕ) (escaped : Bool) (text : List ℕ) (place : ℕ) → place < length text → is_mark mark escaped (get_or text place 0) ≡ false → marks_from mark escaped (drop place text) ≡ marks_from mark (escapes_next escaped (get_or text place 0)) (drop (place + 1) text)
marks_from-other mark escaped text place within e =
    ap (marks_from mark escaped) (drop_more text place 0 within)
    ∙ cond-false (is_mark mark escaped (get_or text place 0)) (suc (marks_from mark false (drop (place + 1) text))) (marks_from mark (escapes_next escaped (get_or text place 0)) (drop (place + 1) text)) e

-- what is cut off where no mark is left, and where one is
pub cut_last : (mark : ℕ) (text rest : List ℕ) → rest ≡ drop (mark_from mark false text) text → (length rest == 0) ≡ true → parts_from mark false text ≡ take (mark_from mark false text) text ∷ []
cut_last mark text [] is none = parts_from-mark mark false text ∙ ap (λ t. take (mark_from mark false text) text ∷ parts_after mark t) (sym is)
cut_last mark text (x ∷ xs) is none = absurd (grind (arith, nat_tests, none))

pub cut_more : (mark : ℕ) (text rest : List ℕ) → rest ≡ drop (mark_from mark false text) text → (length rest == 0) ≡ false → parts_from mark false text ≡ take (mark_from mark false text) text ∷ parts_from mark false (drop 1 rest)
cut_more mark text [] is none = absurd (grind (arith, nat_tests, none))
cut_more mark text (x ∷ xs) is none = parts_from-mark mark false text ∙ ap (λ t. take (mark_from mark false text) text ∷ parts_after mark t) (sym is)
