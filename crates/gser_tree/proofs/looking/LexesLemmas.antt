-- Lexemes are lexed as their tokens.
use Rattle.std.proofs.Common.{◌≡◌, ◌<◌, ℕ, ◌+◌, List, [], ◌∷◌, ◌++◌, length, Bool, true, false, refl, sym, ap, ◌∙◌, append_assoc, arith}
use Rattle.std.proofs.lemmas.List.{append-nil}
use Rattle.std.specs.Prelude.{Option, Some, None, option_map, ◌==◌, flat_map, if◌then◌else◌, IsAscii}
use Rattle.std.specs.Str.{is_utf8}
use Rattle.std.proofs.lemmas.Str.{is_utf8-from_IsUtf8, IsUtf8-from_ascii}
use Rattle.std.proofs.lemmas.Str.Ascii.{IsAscii-nil, IsAscii-cons}
use Rattle.std.proofs.lemmas.Bool.Decides.{nat_tests}
use Rattle.std.proofs.lemmas.Bool.{and_parts}
use Rattle.gser_tree.specs.Strings.{doubled}
use Rattle.gser_tree.specs.declared.marks.Mark.{Mark}
use Rattle.gser_tree.specs.declared.marks.Mark.TheVariants.{Open, Close, Comma, Colon}
use Rattle.gser_tree.specs.declared.marks.Class.{Class}
use Rattle.gser_tree.specs.declared.marks.Class.TheVariants.{Blank, Letter, Quote, Sign, Other}
use Rattle.gser_tree.specs.declared.part.Part.{Part}
use Rattle.gser_tree.specs.declared.token.Token.{Token}
use Rattle.gser_tree.specs.declared.token.Token.TheVariants as token
use Rattle.gser_tree.specs.declared.lexing.Mode.{Mode}
use Rattle.gser_tree.specs.declared.lexing.Mode.TheVariants.{Between, InWord, InString, AfterQuote}
use Rattle.gser_tree.specs.Lexemes.{Lexeme, Space, Marked, Word, Quoted, class_of, octet_of, is_letter, is_word, show, EndsBefore, AreLexemes}
use Rattle.gser_tree.specs.TextOf.{part_at, tokens_at}
use Rattle.gser_tree.specs.Lexing.{more, begin, finish, in_word, in_string, after_quote, step, at_end, lex_from, lex}
use Rattle.gser_tree.proofs.looking.ClassLemmas.{are_letters, quote_is, quote_class, blank_class, mark_class}

-- a letter's class, and its octet
letter_class : (class : Class) → is_letter class ≡ true → class ≡ Letter
letter_class Letter h = refl
letter_class Blank h = cc
letter_class Quote h = cc
letter_class (Sign mark) h = cc
letter_class Other h = cc

letter_below : (x : ℕ) → class_of x ≡ Letter → x < 128
unfolding class_of
letter_below x h = grind (arith, nat_tests)

letters_ascii : (text : List ℕ) → are_letters text ≡ true → IsAscii text
letters_ascii [] h = IsAscii-nil
letters_ascii (x ∷ text) h =
    let both = and_parts (is_letter (class_of x)) (are_letters text) h in
    IsAscii-cons x text (letter_below x (letter_class (class_of x) both.0)) (letters_ascii text both.1)

-- words are UTF-8
pub is_utf8-word : (text : List ℕ) → is_word text ≡ true → is_utf8 text ≡ true
is_utf8-word [] h = cc
is_utf8-word (x ∷ text) h = is_utf8-from_IsUtf8 (x ∷ text) (IsUtf8-from_ascii (x ∷ text) (letters_ascii (x ∷ text) h))

-- a step that ends nothing
goes : (mode next : Mode) (place x : ℕ) (text : List ℕ) → step mode place x ≡ Some (record { ended = []; mode = next })
    → lex_from mode place (x ∷ text) ≡ lex_from next (place + 1) text
goes mode next place x text h = rw h (plain (lex_from next (place + 1) text))
  where
    plain : (found : Option (List Token)) → option_map (λ more. [] ++ more) found ≡ found
    plain None = refl
    plain (Some tokens) = refl

-- the steps within a word and a string
letter_step : (part : Part) (place x : ℕ) → class_of x ≡ Letter
    → step (InWord part) place x ≡ Some (record { ended = []; mode = InWord (more part x) })
unfolding step
letter_step part place x is = ap (in_word part x) is

octet_step : (part : Part) (place x : ℕ) → (x == 34) ≡ false
    → step (InString part) place x ≡ Some (record { ended = []; mode = InString (more part x) })
unfolding step
octet_step part place x other = inner (class_of x) refl
  where
    inner : (class : Class) → class_of x ≡ class → in_string part x class ≡ Some (record { ended = []; mode = InString (more part x) })
    inner Blank is = refl
    inner Letter is = refl
    inner Quote is = let never : (x == 34) ≡ true = rw (quote_is x is) refl in cc
    inner (Sign mark) is = refl
    inner Other is = refl

quote_step : (part : Part) (place : ℕ) → step (InString part) place 34 ≡ Some (record { ended = []; mode = AfterQuote part })
unfolding step
quote_step part place = ap (in_string part 34) quote_class

again_step : (part : Part) (place : ℕ) → step (AfterQuote part) place 34 ≡ Some (record { ended = []; mode = InString (more part 34) })
unfolding step
again_step part place = ap (after_quote part 34) quote_class

-- a part with more octets
part_more : (part : Part) (x : ℕ) (text : List ℕ) → part_at part.place ((part.text ++ x ∷ []) ++ text) ≡ part_at part.place (part.text ++ x ∷ text)
part_more part x text = ap (part_at part.place) (append_assoc part.text (x ∷ []) text)

-- a word's further octets
word_goes : (text : List ℕ) (part : Part) (place : ℕ) (rest : List ℕ) → are_letters text ≡ true
    → lex_from (InWord part) place (text ++ rest) ≡ lex_from (InWord (part_at part.place (part.text ++ text))) (place + length text) rest
word_goes [] part place rest h =
    let same : part_at part.place (part.text ++ []) ≡ part = ap (part_at part.place) (append-nil part.text) in
    let at : place + 0 ≡ place = omega arith in
    rw (same, at) refl
word_goes (x ∷ text) part place rest h =
    let both = and_parts (is_letter (class_of x)) (are_letters text) h in
    let at : place + 1 + length text ≡ place + length (x ∷ text) = omega arith in
    goes (InWord part) (InWord (more part x)) place x (text ++ rest) (letter_step part place x (letter_class (class_of x) both.0))
    ∙ word_goes text (more part x) (place + 1) rest both.1
    ∙ ap (λ p. lex_from (InWord p) (place + 1 + length text) rest) (part_more part x text)
    ∙ ap (λ p. lex_from (InWord (part_at part.place (part.text ++ x ∷ text))) p rest) at

-- a string's octets, and the quotation mark behind them
string_goes : (text : List ℕ) (part : Part) (place : ℕ) (rest : List ℕ)
    → lex_from (InString part) place ((doubled text ++ 34 ∷ []) ++ rest)
    ≡ lex_from (AfterQuote (part_at part.place (part.text ++ text))) (place + length (doubled text ++ 34 ∷ [])) rest
string_goes [] part place rest =
    let same : part_at part.place (part.text ++ []) ≡ part = ap (part_at part.place) (append-nil part.text) in
    goes (InString part) (AfterQuote part) place 34 rest (quote_step part place)
    ∙ ap (λ p. lex_from (AfterQuote p) (place + 1) rest) (sym same)
string_goes (x ∷ text) part place rest = inner (x == 34) refl (λ part place. string_goes text part place rest)
  where
    after : List ℕ
    after = (doubled text ++ 34 ∷ []) ++ rest

    inner : (b : Bool) → (x == 34) ≡ b
        → ((part : Part) (place : ℕ) → lex_from (InString part) place ((doubled text ++ 34 ∷ []) ++ rest)
        ≡ lex_from (AfterQuote (part_at part.place (part.text ++ text))) (place + length (doubled text ++ 34 ∷ [])) rest)
        → lex_from (InString part) place (((if b then 34 ∷ 34 ∷ doubled text else x ∷ doubled text) ++ 34 ∷ []) ++ rest)
        ≡ lex_from (AfterQuote (part_at part.place (part.text ++ x ∷ text)))
        (place + length ((if b then 34 ∷ 34 ∷ doubled text else x ∷ doubled text) ++ 34 ∷ [])) rest
    inner false is again =
        let at : place + 1 + length (doubled text ++ 34 ∷ []) ≡ place + length (x ∷ (doubled text ++ 34 ∷ [])) = omega arith in
        goes (InString part) (InString (more part x)) place x ((doubled text ++ 34 ∷ []) ++ rest) (octet_step part place x is)
        ∙ again (more part x) (place + 1)
        ∙ ap (λ p. lex_from (AfterQuote p) (place + 1 + length (doubled text ++ 34 ∷ [])) rest) (part_more part x text)
        ∙ ap (λ p. lex_from (AfterQuote (part_at part.place (part.text ++ x ∷ text))) p rest) at
    inner true is again =
        let mark : x ≡ 34 = grind (arith, nat_tests) in
        let same : part_at part.place ((part.text ++ 34 ∷ []) ++ text) ≡ part_at part.place (part.text ++ x ∷ text) =
        part_more part 34 text ∙ ap (λ o. part_at part.place (part.text ++ o ∷ text)) (sym mark) in
        let at : place + 1 + 1 + length (doubled text ++ 34 ∷ []) ≡ place + length (34 ∷ 34 ∷ (doubled text ++ 34 ∷ [])) = omega arith in
        goes (InString part) (AfterQuote part) place 34 (34 ∷ ((doubled text ++ 34 ∷ []) ++ rest)) (quote_step part place)
        ∙ goes (AfterQuote part) (InString (more part 34)) (place + 1) 34 ((doubled text ++ 34 ∷ []) ++ rest) (again_step part (place + 1))
        ∙ again (more part 34) (place + 1 + 1)
        ∙ ap (λ p. lex_from (AfterQuote p) (place + 1 + 1 + length (doubled text ++ 34 ∷ [])) rest) same
        ∙ ap (λ p. lex_from (AfterQuote (part_at part.place (part.text ++ x ∷ text))) p rest) at

-- modes in which a word or a string may end
abbrev EndsAs : Mode → Token → Type 0
EndsAs mode kind =
    ((place x : ℕ) → (class_of x ≡ Letter → ⊥) → (class_of x ≡ Quote → ⊥) → step mode place x ≡ finish kind (class_of x))
    × (at_end mode ≡ Some (kind ∷ []))

-- what follows a whole word or string
ended : (mode : Mode) (kind : Token) (place : ℕ) (rest : List Lexeme) → EndsAs mode kind → EndsBefore rest
    → lex_from Between place (flat_map show rest) ≡ Some (tokens_at place rest)
    → lex_from mode place (flat_map show rest) ≡ Some (kind ∷ tokens_at place rest)
unfolding step
ended mode kind place [] ends before h = ends.1
ended mode kind place (Space ∷ rest) ends before h =
    let here : step mode place 32 ≡ Some (record { ended = kind ∷ []; mode = Between }) =
    ends.0 place 32 (λ e. let k = blank_class in cc) (λ e. let k = blank_class in cc) ∙ ap (finish kind) blank_class in
    let plain : step Between place 32 ≡ Some (record { ended = []; mode = Between }) = ap (begin place 32) blank_class in
    let left = rw plain at h in
    rw here (put (lex_from Between (place + 1) (flat_map show rest)) (tokens_at (place + 1) rest) [] left)
  where
    put : (found : Option (List Token)) (tokens before : List Token) → option_map (λ more. before ++ more) found ≡ Some tokens
        → option_map (λ more. (kind ∷ before) ++ more) found ≡ Some (kind ∷ tokens)
    put None tokens before h = cc
    put (Some more) tokens before h = let e : before ++ more ≡ tokens = cc in ap (λ t. Some (kind ∷ t)) e
ended mode kind place (Marked mark ∷ rest) ends before h = marked mark before (mark_class mark) h
  where
    put : (found : Option (List Token)) (tokens before : List Token) → option_map (λ more. before ++ more) found ≡ Some tokens
        → option_map (λ more. (kind ∷ before) ++ more) found ≡ Some (kind ∷ tokens)
    put None tokens before h = cc
    put (Some more) tokens before h = let e : before ++ more ≡ tokens = cc in ap (λ t. Some (kind ∷ t)) e

    finishes : (mark : Mark) → EndsBefore (Marked mark ∷ rest) → finish kind (Sign mark) ≡ Some (record { ended = kind ∷ token.Sign mark ∷ []; mode = Between })
    finishes Open h = absurd h
    finishes Close h = refl
    finishes Comma h = refl
    finishes Colon h = refl

    marked : (mark : Mark) → EndsBefore (Marked mark ∷ rest) → class_of (octet_of mark) ≡ Sign mark
        → lex_from Between place (octet_of mark ∷ flat_map show rest) ≡ Some (token.Sign mark ∷ tokens_at (place + 1) rest)
        → lex_from mode place (octet_of mark ∷ flat_map show rest) ≡ Some (kind ∷ token.Sign mark ∷ tokens_at (place + 1) rest)
    marked mark before is h =
        let here : step mode place (octet_of mark) ≡ Some (record { ended = kind ∷ token.Sign mark ∷ []; mode = Between }) =
        ends.0 place (octet_of mark) (λ e. cc) (λ e. cc) ∙ ap (finish kind) is ∙ finishes mark before in
        let plain : step Between place (octet_of mark) ≡ Some (record { ended = token.Sign mark ∷ []; mode = Between }) = ap (begin place (octet_of mark)) is in
        let left = rw plain at h in
        rw here (put (lex_from Between (place + 1) (flat_map show rest)) (token.Sign mark ∷ tokens_at (place + 1) rest) (token.Sign mark ∷ []) left)
ended mode kind place (Word text ∷ rest) ends before h = absurd before
ended mode kind place (Quoted text ∷ rest) ends before h = absurd before

-- words and strings end so
word_ends : (part : Part) → is_utf8 part.text ≡ true → EndsAs (InWord part) (token.Word part)
unfolding step
word_ends part text = (λ place x no_letter no_quote. inner x (class_of x) refl no_letter no_quote, rw text refl)
  where
    inner : (x : ℕ) (class : Class) → class_of x ≡ class → (class_of x ≡ Letter → ⊥) → (class_of x ≡ Quote → ⊥)
        → in_word part x class ≡ finish (token.Word part) class
    inner x Letter is no_letter no_quote = absurd (no_letter is)
    inner x Quote is no_letter no_quote = rw text refl
    inner x Blank is no_letter no_quote = rw text refl
    inner x (Sign mark) is no_letter no_quote = rw text refl
    inner x Other is no_letter no_quote = rw text refl

string_ends : (part : Part) → is_utf8 part.text ≡ true → EndsAs (AfterQuote part) (token.Quoted part)
unfolding step
string_ends part text = (λ place x no_letter no_quote. inner x (class_of x) refl no_letter no_quote, rw text refl)
  where
    inner : (x : ℕ) (class : Class) → class_of x ≡ class → (class_of x ≡ Letter → ⊥) → (class_of x ≡ Quote → ⊥)
        → after_quote part x class ≡ finish (token.Quoted part) class
    inner x Quote is no_letter no_quote = absurd (no_quote is)
    inner x Letter is no_letter no_quote = rw text refl
    inner x Blank is no_letter no_quote = rw text refl
    inner x (Sign mark) is no_letter no_quote = rw text refl
    inner x Other is no_letter no_quote = rw text refl

-- all lexemes
lexes : (lexemes : List Lexeme) (place : ℕ) → AreLexemes lexemes → lex_from Between place (flat_map show lexemes) ≡ Some (tokens_at place lexemes)
unfolding step
lexes [] place proper = refl
lexes (Space ∷ rest) place proper =
    goes Between Between place 32 (flat_map show rest) (ap (begin place 32) blank_class) ∙ lexes rest (place + 1) proper
lexes (Marked mark ∷ rest) place proper =
    let here : step Between place (octet_of mark) ≡ Some (record { ended = token.Sign mark ∷ []; mode = Between }) = ap (begin place (octet_of mark)) (mark_class mark) in
    rw (here, lexes rest (place + 1) proper) refl
lexes (Word [] ∷ rest) place proper = let never = proper.0 in cc
lexes (Word (x ∷ text) ∷ rest) place proper =
    let both = and_parts (is_letter (class_of x)) (are_letters text) proper.0 in
    let part = part_at place (x ∷ text) in
    let begun : step Between place x ≡ Some (record { ended = []; mode = InWord (part_at place (x ∷ [])) }) =
    ap (begin place x) (letter_class (class_of x) both.0) in
    let at : place + 1 + length text ≡ place + length (x ∷ text) = omega arith in
    goes Between (InWord (part_at place (x ∷ []))) place x (text ++ flat_map show rest) begun
    ∙ word_goes text (part_at place (x ∷ [])) (place + 1) (flat_map show rest) both.1
    ∙ ap (λ p. lex_from (InWord part) p (flat_map show rest)) at
    ∙ ended (InWord part) (token.Word part) (place + length (x ∷ text)) rest (word_ends part (is_utf8-word (x ∷ text) proper.0)) proper.1
    (lexes rest (place + length (x ∷ text)) proper.2)
lexes (Quoted text ∷ rest) place proper =
    let part = part_at place text in
    let at : place + 1 + length (doubled text ++ 34 ∷ []) ≡ place + length (show (Quoted text)) = omega arith in
    goes Between (InString (part_at place [])) place 34 ((doubled text ++ 34 ∷ []) ++ flat_map show rest) (ap (begin place 34) quote_class)
    ∙ string_goes text (part_at place []) (place + 1) (flat_map show rest)
    ∙ ap (λ p. lex_from (AfterQuote part) p (flat_map show rest)) at
    ∙ ended (AfterQuote part) (token.Quoted part) (place + length (show (Quoted text))) rest (string_ends part proper.0) proper.1
    (lexes rest (place + length (show (Quoted text))) proper.2)

-- the octets of lexemes have their tokens
pub lex-lexemes : (lexemes : List Lexeme) → AreLexemes lexemes → lex (flat_map show lexemes) ≡ Some (tokens_at 0 lexemes)
unfolding lex
lex-lexemes lexemes proper = lexes lexemes 0 proper
