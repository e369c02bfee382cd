-- What is lexed are lexemes, and lexemes are lexed.
use Rattle.std.proofs.Common.{◌≡◌, ℕ, ◌+◌, suc, List, [], ◌∷◌, ◌++◌, length, Bool, true, false, refl, sym, ap, ◌∙◌, append_assoc, length-append, arith}
use Rattle.std.specs.Prelude.{Option, Some, None, option_map, option_and_then, flat_map, if◌then◌else◌}
use Rattle.std.specs.Str.{is_utf8}
use Rattle.gser_tree.specs.Strings.{doubled}
use Rattle.gser_tree.specs.declared.marks.Class.{Class}
use Rattle.gser_tree.specs.declared.marks.Class.TheVariants.{Blank, Letter, Quote, Sign, Other}
use Rattle.gser_tree.specs.declared.part.Part.{Part}
use Rattle.gser_tree.specs.declared.token.Token.{Token}
use Rattle.gser_tree.specs.declared.token.Token.TheVariants as token
use Rattle.gser_tree.specs.declared.lexing.Mode.{Mode}
use Rattle.gser_tree.specs.declared.lexing.Mode.TheVariants.{Between, InWord, InString, AfterQuote}
use Rattle.gser_tree.specs.Lexemes.{Lexeme, Word, Quoted, class_of, is_word, show, AreLexemes}
use Rattle.gser_tree.specs.TextOf.{tokens_at}
use Rattle.gser_tree.specs.Lexing.{Step, go, more, finish, whole, in_word, in_string, after_quote, step, lex_from, lex}
use Rattle.gser_tree.proofs.looking.ClassLemmas.{quote_is, not_quote, is_word-push, doubled-push, doubled-quote, doubled-other}
use Rattle.gser_tree.proofs.looking.ItemLemmas.{Lexed, split, from_between, Item, from_finish, Stands, Leads}

-- a whole part is a token, and UTF-8
wholly : {A : Type 0} (kind : Part → Token) (part : Part) (next : Token → Option A) (made : A) → option_and_then next (whole kind part) ≡ Some made
    → (is_utf8 part.text ≡ true) × (next (kind part) ≡ Some made)
wholly kind part next made h = inner (is_utf8 part.text) refl h
  where
    inner : (b : Bool) → is_utf8 part.text ≡ b → option_and_then next (if b then Some (kind part) else None) ≡ Some made
        → (is_utf8 part.text ≡ true) × (next (kind part) ≡ Some made)
    inner true is h = (is, h)
    inner false is h = cc

-- the tokens behind a step of a whole part
stepped_whole : (kind : Part → Token) (part : Part) (place : ℕ) (text : List ℕ) (class : Class) (tokens : List Token)
    → option_and_then (λ (s : Step). option_map (λ more. s.ended ++ more) (lex_from s.mode (place + 1) text))
    (option_and_then (λ token. finish token class) (whole kind part)) ≡ Some tokens
    → (is_utf8 part.text ≡ true)
    × (option_and_then (λ (s : Step). option_map (λ more. s.ended ++ more) (lex_from s.mode (place + 1) text)) (finish (kind part) class) ≡ Some tokens)
stepped_whole kind part place text class tokens h = inner (is_utf8 part.text) refl h
  where
    inner : (b : Bool) → is_utf8 part.text ≡ b
        → option_and_then (λ (s : Step). option_map (λ more. s.ended ++ more) (lex_from s.mode (place + 1) text))
        (option_and_then (λ token. finish token class) (if b then Some (kind part) else None)) ≡ Some tokens
        → (is_utf8 part.text ≡ true)
        × (option_and_then (λ (s : Step). option_map (λ more. s.ended ++ more) (lex_from s.mode (place + 1) text)) (finish (kind part) class) ≡ Some tokens)
    inner true is h = (is, h)
    inner false is h = cc

word_item : (part : Part) (place : ℕ) → is_word part.text ≡ true → place ≡ part.place + length part.text
    → Item (Word part.text) (token.Word part) part.place place
word_item part place word at = record {
  allowed = λ rest ends proper. (word, ends, proper);
  token = λ rest. ap (λ p. token.Word part ∷ tokens_at p rest) (sym at);
}

string_item : (part : Part) (place : ℕ) → is_utf8 part.text ≡ true → place ≡ part.place + length (show (Quoted part.text))
    → Item (Quoted part.text) (token.Quoted part) part.place place
string_item part place text at = record {
  allowed = λ rest ends proper. (text, ends, proper);
  token = λ rest. ap (λ p. token.Quoted part ∷ tokens_at p rest) (sym at);
}

-- an octet in a word
from_word : (part : Part) (place x : ℕ) (text : List ℕ) (tokens : List Token) → Stands (InWord part) place
    → lex_from (InWord part) place (x ∷ text) ≡ Some tokens → Leads place text → Lexed (InWord part) place (x ∷ text) tokens
unfolding step
from_word part place x text tokens stands h again = inner (class_of x) refl h
  where
    ended : (class : Class) → class_of x ≡ class
        → option_and_then (λ (s : Step). option_map (λ more. s.ended ++ more) (lex_from s.mode (place + 1) text))
        (option_and_then (λ token. finish token class) (whole token.Word part)) ≡ Some tokens
        → Lexed (InWord part) place (x ∷ text) tokens
    ended class is h =
        let found = from_finish (Word part.text) (token.Word part) part.place place x text tokens class (word_item part place stands.0 stands.1) is
        (stepped_whole token.Word part place text class tokens h).1 again in
        record { lexemes = found.0; proper = found.1; joined = found.2; placed = found.3 }

    inner : (class : Class) → class_of x ≡ class
        → option_and_then (λ (s : Step). option_map (λ more. s.ended ++ more) (lex_from s.mode (place + 1) text)) (in_word part x class) ≡ Some tokens
        → Lexed (InWord part) place (x ∷ text) tokens
    inner Letter is h =
        let rest = split [] tokens (lex_from (InWord (more part x)) (place + 1) text) h in
        let at : place + 1 ≡ part.place + length (part.text ++ x ∷ []) = omega (arith, length-append part.text (x ∷ []), stands.1) in
        let found = again (InWord (more part x)) rest.0 (is_word-push part.text x stands.0 is, at) rest.1 in
        record {
          lexemes = found.lexemes;
          proper = found.proper;
          joined = found.joined ∙ append_assoc part.text (x ∷ []) text;
          placed = found.placed ∙ rest.2;
        }
    inner Blank is h = ended Blank is h
    inner Quote is h = ended Quote is h
    inner (Sign mark) is h = ended (Sign mark) is h
    inner Other is h = ended Other is h

-- an octet in a string
from_string : (part : Part) (place x : ℕ) (text : List ℕ) (tokens : List Token) → Stands (InString part) place
    → lex_from (InString part) place (x ∷ text) ≡ Some tokens → Leads place text → Lexed (InString part) place (x ∷ text) tokens
unfolding step
from_string part place x text tokens stands h again = inner (class_of x) refl h
  where
    within : (class : Class) → class_of x ≡ class → (class ≡ Quote → ⊥)
        → option_and_then (λ (s : Step). option_map (λ more. s.ended ++ more) (lex_from s.mode (place + 1) text)) (go [] (InString (more part x))) ≡ Some tokens
        → Lexed (InString part) place (x ∷ text) tokens
    within class is other h =
        let rest = split [] tokens (lex_from (InString (more part x)) (place + 1) text) h in
        let grown : doubled (part.text ++ x ∷ []) ≡ doubled part.text ++ x ∷ [] =
        doubled-push part.text x ∙ ap (λ o. doubled part.text ++ o) (doubled-other x (not_quote x class is other)) in
        let at : place + 1 ≡ part.place + suc (length (doubled (part.text ++ x ∷ []))) =
        omega (arith, ap length grown, length-append (doubled part.text) (x ∷ []), stands) in
        let found = again (InString (more part x)) rest.0 at rest.1 in
        record {
          lexemes = found.lexemes;
          proper = found.proper;
          joined = found.joined ∙ ap (λ o. 34 ∷ o ++ text) grown ∙ ap (λ o. 34 ∷ o) (append_assoc (doubled part.text) (x ∷ []) text);
          placed = found.placed ∙ rest.2;
        }

    inner : (class : Class) → class_of x ≡ class
        → option_and_then (λ (s : Step). option_map (λ more. s.ended ++ more) (lex_from s.mode (place + 1) text)) (in_string part x class) ≡ Some tokens
        → Lexed (InString part) place (x ∷ text) tokens
    inner Quote is h =
        let rest = split [] tokens (lex_from (AfterQuote part) (place + 1) text) h in
        let at : place + 1 ≡ part.place + length (show (Quoted part.text)) = omega (arith, length-append (doubled part.text) (34 ∷ []), stands) in
        let found = again (AfterQuote part) rest.0 at rest.1 in
        record {
          lexemes = found.lexemes;
          proper = found.proper;
          joined = found.joined ∙ ap (λ o. 34 ∷ o) (append_assoc (doubled part.text) (34 ∷ []) text)
              ∙ ap (λ o. 34 ∷ doubled part.text ++ o ∷ text) (sym (quote_is x is));
          placed = found.placed ∙ rest.2;
        }
    inner Blank is h = within Blank is (λ e. cc) h
    inner Letter is h = within Letter is (λ e. cc) h
    inner (Sign mark) is h = within (Sign mark) is (λ e. cc) h
    inner Other is h = within Other is (λ e. cc) h

-- an octet behind a quotation mark
from_quote : (part : Part) (place x : ℕ) (text : List ℕ) (tokens : List Token) → Stands (AfterQuote part) place
    → lex_from (AfterQuote part) place (x ∷ text) ≡ Some tokens → Leads place text → Lexed (AfterQuote part) place (x ∷ text) tokens
unfolding step
from_quote part place x text tokens stands h again = inner (class_of x) refl h
  where
    ended : (class : Class) → class_of x ≡ class
        → option_and_then (λ (s : Step). option_map (λ more. s.ended ++ more) (lex_from s.mode (place + 1) text))
        (option_and_then (λ token. finish token class) (whole token.Quoted part)) ≡ Some tokens
        → Lexed (AfterQuote part) place (x ∷ text) tokens
    ended class is h =
        let both = stepped_whole token.Quoted part place text class tokens h in
        let found = from_finish (Quoted part.text) (token.Quoted part) part.place place x text tokens class (string_item part place both.0 stands) is both.1 again in
        record { lexemes = found.0; proper = found.1; joined = found.2; placed = found.3 }

    inner : (class : Class) → class_of x ≡ class
        → option_and_then (λ (s : Step). option_map (λ more. s.ended ++ more) (lex_from s.mode (place + 1) text)) (after_quote part x class) ≡ Some tokens
        → Lexed (AfterQuote part) place (x ∷ text) tokens
    inner Quote is h =
        let rest = split [] tokens (lex_from (InString (more part x)) (place + 1) text) h in
        let grown : doubled (part.text ++ x ∷ []) ≡ doubled part.text ++ 34 ∷ 34 ∷ [] =
        doubled-push part.text x ∙ ap (λ o. doubled part.text ++ o) (doubled-quote x is) in
        let at : place + 1 ≡ part.place + suc (length (doubled (part.text ++ x ∷ []))) =
        omega (arith, ap length grown, length-append (doubled part.text) (34 ∷ 34 ∷ []), length-append (doubled part.text) (34 ∷ []), stands) in
        let found = again (InString (more part x)) rest.0 at rest.1 in
        let regrouped : (doubled part.text ++ 34 ∷ 34 ∷ []) ++ text ≡ (doubled part.text ++ 34 ∷ []) ++ 34 ∷ text =
        append_assoc (doubled part.text) (34 ∷ 34 ∷ []) text ∙ sym (append_assoc (doubled part.text) (34 ∷ []) (34 ∷ text)) in
        record {
          lexemes = found.lexemes;
          proper = found.proper;
          joined = found.joined ∙ ap (λ o. 34 ∷ o ++ text) grown ∙ ap (λ o. 34 ∷ o) regrouped
              ∙ ap (λ o. 34 ∷ (doubled part.text ++ 34 ∷ []) ++ o ∷ text) (sym (quote_is x is));
          placed = found.placed ∙ rest.2;
        }
    inner Blank is h = ended Blank is h
    inner Letter is h = ended Letter is h
    inner (Sign mark) is h = ended (Sign mark) is h
    inner Other is h = ended Other is h

-- the end of the text
at_end_is : (kind : Part → Token) (part : Part) (tokens : List Token) → option_map (λ token. token ∷ []) (whole kind part) ≡ Some tokens
    → (is_utf8 part.text ≡ true) × (kind part ∷ [] ≡ tokens)
at_end_is kind part tokens h = inner (is_utf8 part.text) refl h
  where
    inner : (b : Bool) → is_utf8 part.text ≡ b → option_map (λ token. token ∷ []) (if b then Some (kind part) else None) ≡ Some tokens
        → (is_utf8 part.text ≡ true) × (kind part ∷ [] ≡ tokens)
    inner true is h = (is, cc)
    inner false is h = cc

lexed : (text : List ℕ) (mode : Mode) (place : ℕ) (tokens : List Token) → Stands mode place → lex_from mode place text ≡ Some tokens
    → Lexed mode place text tokens
lexed [] Between place tokens stands h = record { lexemes = []; proper = tt; joined = refl; placed = cc }
lexed [] (InWord part) place tokens stands h =
    let both = at_end_is token.Word part tokens h in
    record { lexemes = Word part.text ∷ []; proper = (stands.0, tt, tt); joined = refl; placed = both.1 }
lexed [] (InString part) place tokens stands h = cc
lexed [] (AfterQuote part) place tokens stands h =
    let both = at_end_is token.Quoted part tokens h in
    record { lexemes = Quoted part.text ∷ []; proper = (both.0, tt, tt); joined = refl; placed = both.1 }
lexed (x ∷ text) Between place tokens stands h =
    from_between place x text tokens h (λ mode more stands h. lexed text mode (place + 1) more stands h)
lexed (x ∷ text) (InWord part) place tokens stands h =
    from_word part place x text tokens stands h (λ mode more stands h. lexed text mode (place + 1) more stands h)
lexed (x ∷ text) (InString part) place tokens stands h =
    from_string part place x text tokens stands h (λ mode more stands h. lexed text mode (place + 1) more stands h)
lexed (x ∷ text) (AfterQuote part) place tokens stands h =
    from_quote part place x text tokens stands h (λ mode more stands h. lexed text mode (place + 1) more stands h)

-- a text that has tokens is lexemes that have them
pub lexed_text : (text : List ℕ) (tokens : List Token) → lex text ≡ Some tokens
    → (lexemes : List Lexeme) × AreLexemes lexemes × (flat_map show lexemes ≡ text) × (tokens_at 0 lexemes ≡ tokens)
unfolding lex
lexed_text text tokens h =
    let found = lexed text Between 0 tokens tt h in (found.lexemes, found.proper, found.joined, found.placed)
