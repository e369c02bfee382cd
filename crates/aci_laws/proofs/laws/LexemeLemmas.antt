-- A text is lexemes one behind the other in one way.
use Rattle.std.proofs.Common.{◌≡◌, ℕ, Bool, true, false, List, [], ◌∷◌, ◌++◌, refl, sym, ap, ◌∙◌, arith}
use Rattle.std.specs.Prelude.{◌==◌, flat_map, if◌then◌else◌}
use Rattle.std.specs.List.{list_all}
use Rattle.std.proofs.lemmas.Bool.{and_parts, eqb-true}
use Rattle.std.proofs.lemmas.Bool.Decides.{nat_tests}
use Rattle.gser_tree.specs.Strings.{doubled}
use Rattle.gser_tree.specs.Lexemes.{Lexeme, Space, Marked, Word, Quoted, class_of, octet_of, is_letter, is_word, show, EndsBefore, AreLexemes}

-- marks and their octets
mark_is_no_letter : (mark : _) → is_letter (class_of (octet_of mark)) ≡ false
unfolding class_of
mark_is_no_letter mark = grind (arith, nat_tests)

mark_is_no_quote : (mark : _) → (octet_of mark == 34) ≡ false
mark_is_no_quote mark = grind (arith, nat_tests)

mark_is_no_space : (mark : _) → (octet_of mark == 32) ≡ false
mark_is_no_space mark = grind (arith, nat_tests)

same_mark : (mark other : _) → octet_of mark ≡ octet_of other → mark ≡ other
same_mark mark other h = grind (arith, nat_tests)

-- octets behind a word or a string: no letter and no quotation mark comes first
abbrev IsApart : List ℕ → Type 0
IsApart [] = Unit {0}
IsApart (x ∷ octets) = (is_letter (class_of x) ≡ false) × ((x == 34) ≡ false)

-- what may stand behind a word or a string is apart from it
apart : (lexemes : List Lexeme) → EndsBefore lexemes → IsApart (flat_map show lexemes)
unfolding class_of
apart [] h = tt
apart (Space ∷ lexemes) h = (refl, refl)
apart (Marked mark ∷ lexemes) h = (mark_is_no_letter mark, mark_is_no_quote mark)
apart (Word text ∷ lexemes) h = absurd h
apart (Quoted text ∷ lexemes) h = absurd h

-- the same octets, parted
head_same : (x y : ℕ) (a b : List ℕ) → x ∷ a ≡ y ∷ b → x ≡ y
head_same x y a b h = cc

tail_same : (x y : ℕ) (a b : List ℕ) → x ∷ a ≡ y ∷ b → a ≡ b
tail_same x y a b h = cc

-- a word ends before what is apart
word_same : (one other a b : List ℕ) → list_all (λ x. is_letter (class_of x)) one ≡ true → list_all (λ x. is_letter (class_of x)) other ≡ true
    → IsApart a → IsApart b → one ++ a ≡ other ++ b → (one ≡ other) × (a ≡ b)
word_same [] [] a b p q apart_a apart_b h = (refl, h)
word_same [] (y ∷ other) [] b p q apart_a apart_b h = cc
word_same [] (y ∷ other) (x ∷ a) b p q apart_a apart_b h =
    let letter = and_parts (is_letter (class_of y)) (list_all (λ x. is_letter (class_of x)) other) q in
    let same = ap (λ o. is_letter (class_of o)) (head_same x y a (other ++ b) h) in
    cc
word_same (x ∷ one) [] a [] p q apart_a apart_b h = cc
word_same (x ∷ one) [] a (y ∷ b) p q apart_a apart_b h =
    let letter = and_parts (is_letter (class_of x)) (list_all (λ x. is_letter (class_of x)) one) p in
    let same = ap (λ o. is_letter (class_of o)) (head_same x y (one ++ a) b h) in
    cc
word_same (x ∷ one) (y ∷ other) a b p q apart_a apart_b h =
    let first = and_parts (is_letter (class_of x)) (list_all (λ x. is_letter (class_of x)) one) p in
    let second = and_parts (is_letter (class_of y)) (list_all (λ x. is_letter (class_of x)) other) q in
    let again = word_same one other a b first.1 second.1 apart_a apart_b (tail_same x y (one ++ a) (other ++ b) h) in
    let at : x ≡ y = head_same x y (one ++ a) (other ++ b) h in
    let rest = again.0 in
    (cc, again.1)

-- a string ends at the first quotation mark that is not doubled
string_same : (one other a b : List ℕ) → IsApart a → IsApart b → (doubled one ++ 34 ∷ []) ++ a ≡ (doubled other ++ 34 ∷ []) ++ b → (one ≡ other) × (a ≡ b)
string_same [] [] a b apart_a apart_b h = (refl, tail_same 34 34 a b h)
string_same [] (y ∷ other) a b apart_a apart_b h = inner (y == 34) refl h
  where
    never : (a : List ℕ) (rest : List ℕ) → IsApart a → a ≡ 34 ∷ rest → ⊥
    never [] rest apart h = cc
    never (x ∷ a) rest apart h =
        let same : (x == 34) ≡ true = ap (λ o. o == 34) (head_same x 34 a rest h) in
        let other = apart.1 in
        cc

    inner : (c : Bool) → (y == 34) ≡ c → 34 ∷ a ≡ ((if c then 34 ∷ 34 ∷ doubled other else y ∷ doubled other) ++ 34 ∷ []) ++ b → ([] ≡ y ∷ other) × (a ≡ b)
    inner true is h = absurd (never a ((doubled other ++ 34 ∷ []) ++ b) apart_a (tail_same 34 34 a (34 ∷ ((doubled other ++ 34 ∷ []) ++ b)) h))
    inner false is h =
        let same : (y == 34) ≡ true = ap (λ o. o == 34) (sym (head_same 34 y a ((doubled other ++ 34 ∷ []) ++ b) h)) in
        absurd cc
string_same (x ∷ one) [] a b apart_a apart_b h = inner (x == 34) refl h
  where
    never : (b : List ℕ) (rest : List ℕ) → IsApart b → 34 ∷ rest ≡ b → ⊥
    never [] rest apart h = cc
    never (y ∷ b) rest apart h =
        let same : (y == 34) ≡ true = ap (λ o. o == 34) (sym (head_same 34 y rest b h)) in
        let other = apart.1 in
        cc

    inner : (c : Bool) → (x == 34) ≡ c → ((if c then 34 ∷ 34 ∷ doubled one else x ∷ doubled one) ++ 34 ∷ []) ++ a ≡ 34 ∷ b → (x ∷ one ≡ []) × (a ≡ b)
    inner true is h = absurd (never b ((doubled one ++ 34 ∷ []) ++ a) apart_b (tail_same 34 34 (34 ∷ ((doubled one ++ 34 ∷ []) ++ a)) b h))
    inner false is h =
        let same : (x == 34) ≡ true = ap (λ o. o == 34) (head_same x 34 ((doubled one ++ 34 ∷ []) ++ a) b h) in
        absurd cc
string_same (x ∷ one) (y ∷ other) a b apart_a apart_b h = inner (x == 34) (y == 34) refl refl h (string_same one other a b apart_a apart_b)
  where
    one_text : List ℕ
    one_text = (doubled one ++ 34 ∷ []) ++ a

    other_text : List ℕ
    other_text = (doubled other ++ 34 ∷ []) ++ b

    both : x ≡ y → (one ≡ other) × (a ≡ b) → (x ∷ one ≡ y ∷ other) × (a ≡ b)
    both at again = let rest = again.0 in (cc, again.1)

    inner : (c d : Bool) → (x == 34) ≡ c → (y == 34) ≡ d
        → ((if c then 34 ∷ 34 ∷ doubled one else x ∷ doubled one) ++ 34 ∷ []) ++ a ≡ ((if d then 34 ∷ 34 ∷ doubled other else y ∷ doubled other) ++ 34 ∷ []) ++ b
        → ((doubled one ++ 34 ∷ []) ++ a ≡ (doubled other ++ 34 ∷ []) ++ b → (one ≡ other) × (a ≡ b))
        → (x ∷ one ≡ y ∷ other) × (a ≡ b)
    inner true true is js h again =
        both (eqb-true x 34 is ∙ sym (eqb-true y 34 js))
        (again (tail_same 34 34 ((doubled one ++ 34 ∷ []) ++ a) ((doubled other ++ 34 ∷ []) ++ b)
        (tail_same 34 34 (34 ∷ ((doubled one ++ 34 ∷ []) ++ a)) (34 ∷ ((doubled other ++ 34 ∷ []) ++ b)) h)))
    inner true false is js h again =
        let same : (y == 34) ≡ true = ap (λ o. o == 34) (sym (head_same 34 y (34 ∷ ((doubled one ++ 34 ∷ []) ++ a)) ((doubled other ++ 34 ∷ []) ++ b) h)) in
        absurd cc
    inner false true is js h again =
        let same : (x == 34) ≡ true = ap (λ o. o == 34) (head_same x 34 ((doubled one ++ 34 ∷ []) ++ a) (34 ∷ ((doubled other ++ 34 ∷ []) ++ b)) h) in
        absurd cc
    inner false false is js h again =
        both (head_same x y ((doubled one ++ 34 ∷ []) ++ a) ((doubled other ++ 34 ∷ []) ++ b) h)
        (again (tail_same x y ((doubled one ++ 34 ∷ []) ++ a) ((doubled other ++ 34 ∷ []) ++ b) h))

-- what an octet begins
abbrev begins : ℕ → ℕ
begins x = if x == 32 then 0 else if x == 34 then 1 else if is_letter (class_of x) then 2 else 3

abbrev kind_of : Lexeme → ℕ
kind_of Space = 0
kind_of (Quoted text) = 1
kind_of (Word text) = 2
kind_of (Marked mark) = 3

-- a lexeme's first octet, and the octets behind it
record Starts (kind : ℕ) (octets : List ℕ) : Type 0 where
  first : ℕ
  rest : List ℕ
  whole : octets ≡ first ∷ rest
  has : begins first ≡ kind

letter_begins : (x : ℕ) → is_letter (class_of x) ≡ true → begins x ≡ 2
unfolding class_of
letter_begins x h = grind (arith, nat_tests)

mark_begins : (mark : _) → begins (octet_of mark) ≡ 3
mark_begins mark = rw (mark_is_no_space mark, mark_is_no_quote mark, mark_is_no_letter mark) refl

starts : (lexeme : Lexeme) (lexemes : List Lexeme) → AreLexemes (lexeme ∷ lexemes) → Starts (kind_of lexeme) (flat_map show (lexeme ∷ lexemes))
starts Space lexemes are = record { first = 32; rest = flat_map show lexemes; whole = refl; has = refl }
starts (Marked mark) lexemes are = record { first = octet_of mark; rest = flat_map show lexemes; whole = refl; has = mark_begins mark }
starts (Word []) lexemes are = let never = are.0 in absurd cc
starts (Word (x ∷ text)) lexemes are =
    let letter = and_parts (is_letter (class_of x)) (list_all (λ o. is_letter (class_of o)) text) are.0 in
    record { first = x; rest = text ++ flat_map show lexemes; whole = refl; has = letter_begins x letter.0 }
starts (Quoted text) lexemes are = record { first = 34; rest = (doubled text ++ 34 ∷ []) ++ flat_map show lexemes; whole = refl; has = refl }

same_kind : (one other : ℕ) (octets more : List ℕ) → Starts one octets → Starts other more → octets ≡ more → one ≡ other
same_kind one other octets more left right h =
    let heads = head_same left.first right.first left.rest right.rest (sym left.whole ∙ h ∙ right.whole) in
    sym left.has ∙ ap begins heads ∙ right.has

letters_in : (text : List ℕ) → is_word text ≡ true → list_all (λ x. is_letter (class_of x)) text ≡ true
letters_in [] h = cc
letters_in (x ∷ text) h = h

-- lexemes of the same text
pub lexemes-unique : (one other : List Lexeme) → AreLexemes one → AreLexemes other → flat_map show one ≡ flat_map show other → one ≡ other
lexemes-unique [] [] p q h = refl
lexemes-unique [] (lexeme ∷ other) p q h = let start = starts lexeme other q in let whole = start.whole in absurd cc
lexemes-unique (lexeme ∷ one) [] p q h = let start = starts lexeme one p in let whole = start.whole in absurd cc
lexemes-unique (lexeme ∷ one) (lexeme' ∷ other) p q h =
    inner lexeme lexeme' p q h (same_kind (kind_of lexeme) (kind_of lexeme') _ _ (starts lexeme one p) (starts lexeme' other q) h) (lexemes-unique one other)
  where
    inner : (first second : Lexeme) → AreLexemes (first ∷ one) → AreLexemes (second ∷ other) → flat_map show (first ∷ one) ≡ flat_map show (second ∷ other)
        → kind_of first ≡ kind_of second → (AreLexemes one → AreLexemes other → flat_map show one ≡ flat_map show other → one ≡ other)
        → first ∷ one ≡ second ∷ other
    inner Space Space p q h same again = ap (λ l. Space ∷ l) (again p q (tail_same 32 32 (flat_map show one) (flat_map show other) h))
    inner Space (Marked mark) p q h same again = absurd (omega (arith, same))
    inner Space (Word text) p q h same again = absurd (omega (arith, same))
    inner Space (Quoted text) p q h same again = absurd (omega (arith, same))
    inner (Marked mark) Space p q h same again = absurd (omega (arith, same))
    inner (Marked mark) (Marked mark') p q h same again =
        let at = same_mark mark mark' (head_same (octet_of mark) (octet_of mark') (flat_map show one) (flat_map show other) h) in
        let rest = again p q (tail_same (octet_of mark) (octet_of mark') (flat_map show one) (flat_map show other) h) in
        cc
    inner (Marked mark) (Word text) p q h same again = absurd (omega (arith, same))
    inner (Marked mark) (Quoted text) p q h same again = absurd (omega (arith, same))
    inner (Word text) Space p q h same again = absurd (omega (arith, same))
    inner (Word text) (Marked mark) p q h same again = absurd (omega (arith, same))
    inner (Word text) (Word text') p q h same again =
        let parts = word_same text text' (flat_map show one) (flat_map show other) (letters_in text p.0) (letters_in text' q.0) (apart one p.1) (apart other q.1) h in
        let at = parts.0 in
        let rest = again p.2 q.2 parts.1 in
        cc
    inner (Word text) (Quoted text') p q h same again = absurd (omega (arith, same))
    inner (Quoted text) Space p q h same again = absurd (omega (arith, same))
    inner (Quoted text) (Marked mark) p q h same again = absurd (omega (arith, same))
    inner (Quoted text) (Word text') p q h same again = absurd (omega (arith, same))
    inner (Quoted text) (Quoted text') p q h same again =
        let parts = string_same text text' (flat_map show one) (flat_map show other) (apart one p.1) (apart other q.1)
        (tail_same 34 34 ((doubled text ++ 34 ∷ []) ++ flat_map show one) ((doubled text' ++ 34 ∷ []) ++ flat_map show other) h) in
        let at = parts.0 in
        let rest = again p.2 q.2 parts.1 in
        cc
