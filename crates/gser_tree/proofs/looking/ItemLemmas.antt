-- One octet where nothing has begun, and one behind a whole word or string.
use Rattle.std.proofs.Common.{◌≡◌, ℕ, ◌+◌, suc, List, [], ◌∷◌, ◌++◌, length, true, refl, sym, ap, ◌∙◌, arith}
use Rattle.std.specs.Prelude.{Option, Some, None, option_map, option_and_then, flat_map}
use Rattle.std.proofs.lemmas.Bool.{and_from}
use Rattle.gser_tree.specs.Strings.{doubled}
use Rattle.gser_tree.specs.declared.marks.Mark.{Mark}
use Rattle.gser_tree.specs.declared.marks.Mark.TheVariants.{Open, Close, Comma, Colon}
use Rattle.gser_tree.specs.declared.marks.Class.{Class}
use Rattle.gser_tree.specs.declared.marks.Class.TheVariants.{Blank, Letter, Quote, Sign, Other}
use Rattle.gser_tree.specs.declared.token.Token.{Token}
use Rattle.gser_tree.specs.declared.token.Token.TheVariants as token
use Rattle.gser_tree.specs.declared.lexing.Mode.{Mode}
use Rattle.gser_tree.specs.declared.lexing.Mode.TheVariants.{Between, InWord, InString, AfterQuote}
use Rattle.gser_tree.specs.Lexemes.{Lexeme, Space, Marked, Quoted, class_of, octet_of, is_letter, is_word, show, EndsBefore, AreLexemes}
use Rattle.gser_tree.specs.TextOf.{part_at, tokens_at}
use Rattle.gser_tree.specs.Lexing.{Step, more, begin, finish, step, lex_from}
use Rattle.gser_tree.proofs.looking.ClassLemmas.{blank_is, quote_is, sign_is}

-- ---- what is lexed are lexemes

-- what stands before the octets that are left, of a word or string that has begun
abbrev pub pending : Mode → List ℕ
pending Between = []
pending (InWord part) = part.text
pending (InString part) = 34 ∷ doubled part.text
pending (AfterQuote part) = 34 ∷ doubled part.text ++ 34 ∷ []

-- where it begins
abbrev pub begun : Mode → ℕ → ℕ
begun Between place = place
begun (InWord part) place = part.place
begun (InString part) place = part.place
begun (AfterQuote part) place = part.place

-- it is one, and ends at the place
abbrev pub Stands : Mode → ℕ → Type 0
Stands Between place = Unit {0}
Stands (InWord part) place = (is_word part.text ≡ true) × (place ≡ part.place + length part.text)
Stands (InString part) place = place ≡ part.place + suc (length (doubled part.text))
Stands (AfterQuote part) place = place ≡ part.place + length (show (Quoted part.text))

pub record Lexed (mode : Mode) (place : ℕ) (text : List ℕ) (tokens : List Token) : Type 0 where
  pub lexemes : List Lexeme
  pub proper : AreLexemes lexemes
  pub joined : flat_map show lexemes ≡ pending mode ++ text
  pub placed : tokens_at (begun mode place) lexemes ≡ tokens

-- what a step leads to
abbrev pub Leads : ℕ → List ℕ → Type 0
Leads place text = (mode : Mode) (tokens : List Token) → Stands mode (place + 1) → lex_from mode (place + 1) text ≡ Some tokens
    → Lexed mode (place + 1) text tokens

-- the tokens behind those that a step ended
pub split : (ended tokens : List Token) (found : Option (List Token)) → option_map (λ more. ended ++ more) found ≡ Some tokens
    → (more : List Token) × (found ≡ Some more) × (ended ++ more ≡ tokens)
split ended tokens None h = cc
split ended tokens (Some more) h = (more, refl, cc)

-- an octet where nothing has begun
pub from_between : (place x : ℕ) (text : List ℕ) (tokens : List Token) → lex_from Between place (x ∷ text) ≡ Some tokens → Leads place text
    → Lexed Between place (x ∷ text) tokens
unfolding step
from_between place x text tokens h again = inner (class_of x) refl h
  where
    inner : (class : Class) → class_of x ≡ class
        → option_and_then (λ (s : Step). option_map (λ more. s.ended ++ more) (lex_from s.mode (place + 1) text)) (begin place x class) ≡ Some tokens
        → Lexed Between place (x ∷ text) tokens
    inner Blank is h =
        let rest = split [] tokens (lex_from Between (place + 1) text) h in
        let found = again Between rest.0 tt rest.1 in
        record {
          lexemes = Space ∷ found.lexemes;
          proper = found.proper;
          joined = ap (λ more. 32 ∷ more) found.joined ∙ ap (λ o. o ∷ text) (sym (blank_is x is));
          placed = found.placed ∙ rest.2;
        }
    inner Letter is h =
        let rest = split [] tokens (lex_from (InWord (part_at place (x ∷ []))) (place + 1) text) h in
        let found = again (InWord (part_at place (x ∷ []))) rest.0 (and_from (is_letter (class_of x)) true (ap is_letter is) refl, omega arith) rest.1 in
        record { lexemes = found.lexemes; proper = found.proper; joined = found.joined; placed = found.placed ∙ rest.2 }
    inner Quote is h =
        let rest = split [] tokens (lex_from (InString (part_at place [])) (place + 1) text) h in
        let found = again (InString (part_at place [])) rest.0 (omega arith) rest.1 in
        record {
          lexemes = found.lexemes;
          proper = found.proper;
          joined = found.joined ∙ ap (λ o. o ∷ text) (sym (quote_is x is));
          placed = found.placed ∙ rest.2;
        }
    inner (Sign mark) is h =
        let rest = split (token.Sign mark ∷ []) tokens (lex_from Between (place + 1) text) h in
        let found = again Between rest.0 tt rest.1 in
        record {
          lexemes = Marked mark ∷ found.lexemes;
          proper = found.proper;
          joined = ap (λ more. octet_of mark ∷ more) found.joined ∙ ap (λ o. o ∷ text) (sym (sign_is x mark is));
          placed = ap (λ more. token.Sign mark ∷ more) found.placed ∙ rest.2;
        }
    inner Other is h = cc

-- a whole word or string, as a lexeme, before what follows it
pub record Item (lexeme : Lexeme) (kind : Token) (start place : ℕ) : Type 0 where
  pub allowed : (rest : List Lexeme) → EndsBefore rest → AreLexemes rest → AreLexemes (lexeme ∷ rest)
  pub token : (rest : List Lexeme) → tokens_at start (lexeme ∷ rest) ≡ kind ∷ tokens_at place rest

-- a mark behind it
pub from_mark : (lexeme : Lexeme) (kind : Token) (start place x : ℕ) (text : List ℕ) (tokens : List Token) (mark : Mark)
    → EndsBefore (Marked mark ∷ []) → Item lexeme kind start place → class_of x ≡ Sign mark
    → option_map (λ more. (kind ∷ token.Sign mark ∷ []) ++ more) (lex_from Between (place + 1) text) ≡ Some tokens
    → Leads place text
    → (lexemes : List Lexeme) × AreLexemes lexemes × (flat_map show lexemes ≡ show lexeme ++ x ∷ text) × (tokens_at start lexemes ≡ tokens)
from_mark lexeme kind start place x text tokens mark ends item is h again =
    let rest = split (kind ∷ token.Sign mark ∷ []) tokens (lex_from Between (place + 1) text) h in
    let found = again Between rest.0 tt rest.1 in (
      lexeme ∷ Marked mark ∷ found.lexemes,
      item.allowed (Marked mark ∷ found.lexemes) (ends_any mark ends found.lexemes) found.proper,
      ap (λ more. show lexeme ++ more) (ap (λ more. octet_of mark ∷ more) found.joined ∙ ap (λ o. o ∷ text) (sym (sign_is x mark is))),
      item.token (Marked mark ∷ found.lexemes) ∙ ap (λ more. kind ∷ token.Sign mark ∷ more) found.placed ∙ rest.2,
    )
  where
    ends_any : (mark : Mark) → EndsBefore (Marked mark ∷ []) → (rest : List Lexeme) → EndsBefore (Marked mark ∷ rest)
    ends_any Open h rest = h
    ends_any Close h rest = tt
    ends_any Comma h rest = tt
    ends_any Colon h rest = tt

-- an octet behind it
pub from_finish : (lexeme : Lexeme) (kind : Token) (start place x : ℕ) (text : List ℕ) (tokens : List Token) (class : Class)
    → Item lexeme kind start place → class_of x ≡ class
    → option_and_then (λ (s : Step). option_map (λ more. s.ended ++ more) (lex_from s.mode (place + 1) text)) (finish kind class) ≡ Some tokens
    → Leads place text
    → (lexemes : List Lexeme) × AreLexemes lexemes × (flat_map show lexemes ≡ show lexeme ++ x ∷ text) × (tokens_at start lexemes ≡ tokens)
from_finish lexeme kind start place x text tokens Blank item is h again =
    let rest = split (kind ∷ []) tokens (lex_from Between (place + 1) text) h in
    let found = again Between rest.0 tt rest.1 in (
      lexeme ∷ Space ∷ found.lexemes,
      item.allowed (Space ∷ found.lexemes) tt found.proper,
      ap (λ more. show lexeme ++ more) (ap (λ more. 32 ∷ more) found.joined ∙ ap (λ o. o ∷ text) (sym (blank_is x is))),
      item.token (Space ∷ found.lexemes) ∙ ap (λ more. kind ∷ more) found.placed ∙ rest.2,
    )
from_finish lexeme kind start place x text tokens (Sign Open) item is h again = cc
from_finish lexeme kind start place x text tokens (Sign Close) item is h again = from_mark lexeme kind start place x text tokens Close tt item is h again
from_finish lexeme kind start place x text tokens (Sign Comma) item is h again = from_mark lexeme kind start place x text tokens Comma tt item is h again
from_finish lexeme kind start place x text tokens (Sign Colon) item is h again = from_mark lexeme kind start place x text tokens Colon tt item is h again
from_finish lexeme kind start place x text tokens Letter item is h again = cc
from_finish lexeme kind start place x text tokens Quote item is h again = cc
from_finish lexeme kind start place x text tokens Other item is h again = cc
