-- The tokens of a text, octet by octet.
use Rattle.std.specs.Prelude.{ℕ, ◌+◌, List, [], ◌∷◌, ◌++◌, Option, Some, None, option_map, option_and_then, if◌then◌else◌}
use Rattle.std.specs.Str.{is_utf8}
use Rattle.gser_tree.specs.declared.marks.Mark.TheVariants.{Open}
use Rattle.gser_tree.specs.declared.marks.Class.{Class}
use Rattle.gser_tree.specs.declared.marks.Class.TheVariants.{Blank, Letter, Quote, Sign, Other}
use Rattle.gser_tree.specs.declared.part.Part.{Part}
use Rattle.gser_tree.specs.declared.token.Token.{Token}
use Rattle.gser_tree.specs.declared.token.Token.TheVariants as token
use Rattle.gser_tree.specs.declared.lexing.Mode.{Mode}
use Rattle.gser_tree.specs.declared.lexing.Mode.TheVariants.{Between, InWord, InString, AfterQuote}
use Rattle.gser_tree.specs.Lexemes.{class_of}
use Rattle.gser_tree.specs.TextOf.{part_at}

-- the tokens that an octet ends, and where reading stands behind it
pub record Step : Type 0 where
  pub ended : List Token
  pub mode : Mode

abbrev pub go : List Token → Mode → Option Step
go ended mode = Some (record { ended = ended; mode = mode })

-- the part with one more octet
abbrev pub more : Part → ℕ → Part
more part octet = record { place = part.place; text = part.text ++ octet ∷ [] }

-- an octet where nothing has begun
abbrev pub begin : ℕ → ℕ → Class → Option Step
begin place octet Blank = go [] Between
begin place octet Letter = go [] (InWord (part_at place (octet ∷ [])))
begin place octet Quote = go [] (InString (part_at place []))
begin place octet (Sign mark) = go (token.Sign mark ∷ []) Between
begin place octet Other = None

-- an octet behind a whole word or string
abbrev pub finish : Token → Class → Option Step
finish whole Blank = go (whole ∷ []) Between
finish whole (Sign Open) = None
finish whole (Sign mark) = go (whole ∷ token.Sign mark ∷ []) Between
finish whole class = None

-- a whole part as a token; None where it is no UTF-8
abbrev pub whole : (Part → Token) → Part → Option Token
whole kind part = if is_utf8 part.text then Some (kind part) else None

-- an octet in a word
abbrev pub in_word : Part → ℕ → Class → Option Step
in_word part octet Letter = go [] (InWord (more part octet))
in_word part octet class = option_and_then (λ token. finish token class) (whole token.Word part)

-- an octet in a string
abbrev pub in_string : Part → ℕ → Class → Option Step
in_string part octet Quote = go [] (AfterQuote part)
in_string part octet class = go [] (InString (more part octet))

-- an octet behind a quotation mark in a string
abbrev pub after_quote : Part → ℕ → Class → Option Step
after_quote part octet Quote = go [] (InString (more part octet))
after_quote part octet class = option_and_then (λ token. finish token class) (whole token.Quoted part)

-- an octet at the place
unfoldable pub step : Mode → ℕ → ℕ → Option Step
step Between place octet = begin place octet (class_of octet)
step (InWord part) place octet = in_word part octet (class_of octet)
step (InString part) place octet = in_string part octet (class_of octet)
step (AfterQuote part) place octet = after_quote part octet (class_of octet)

-- the tokens that the end of the text ends
abbrev pub at_end : Mode → Option (List Token)
at_end Between = Some []
at_end (InWord part) = option_map (λ token. token ∷ []) (whole token.Word part)
at_end (InString part) = None
at_end (AfterQuote part) = option_map (λ token. token ∷ []) (whole token.Quoted part)

-- the tokens of the octets from the place on
abbrev pub lex_from : Mode → ℕ → List ℕ → Option (List Token)
lex_from mode place [] = at_end mode
lex_from mode place (octet ∷ octets) =
    option_and_then (λ step. option_map (λ tokens. step.ended ++ tokens) (lex_from step.mode (place + 1) octets))
    (step mode place octet)

-- the tokens of a text
unfoldable pub lex : List ℕ → Option (List Token)
lex text = lex_from Between 0 text

-- what a step leaves behind other tokens
abbrev pub stepped : List Token → Option Step → Option (List Token × Mode)
stepped tokens step = option_map (λ step. (tokens ++ step.ended, step.mode)) step

-- what a call of the program left, where it went on
abbrev pub left : List Token → Option Mode → Option (List Token × Mode)
left tokens next = option_map (λ mode. (tokens, mode)) next
