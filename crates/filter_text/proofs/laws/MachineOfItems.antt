-- The machine of items is that of their grammar: its table of states, their grammars and their steps.
use Rattle.std.proofs.Common.{◌≡◌, ℕ, List, [], ◌∷◌, None, refl}
use Rattle.regular_text.specs.Grammar.{Grammar}
use Rattle.regular_text.specs.Grammar.Grammar.{Nothing, One, Either, Then, Many}
use Rattle.regular_text.specs.Derivative.{has_empty, after}
use Rattle.regular_text.specs.Machine.{grammar_at, fault_at, IsMachineOf}
use Rattle.filter_text.specs.declared.classes.Class.{Class}
use Rattle.filter_text.specs.declared.classes.Class.TheVariants.{Asterisk}
use Rattle.filter_text.specs.declared.modes.Mode.{Mode}
use Rattle.filter_text.specs.declared.modes.Mode.TheVariants.{Start, Word, FirstZero, FirstNumber, AfterDot, LaterZero, LaterNumber, AfterSign, Value, ValueEscape, ValueHalf, Matched, MatchedEscape, MatchedHalf, AfterStar, Part, PartEscape, PartHalf}
use Rattle.filter_text.specs.Classes.{class_of, is_word, is_digit, is_hex, is_equals, is_sign, is_asterisk}
use Rattle.filter_text.specs.ItemGrammar.{number, dot_number, hex_pair, value, part, after_star, matched, item}
use Rattle.filter_text.specs.Modes.{step_of, may_end, machine}

-- what stands behind a type
abbrev behind : Grammar Class
behind = Either (Then (One is_equals) matched) (Then (One is_sign) (Then (One is_equals) value))

-- nothing, or an asterisk and what stands behind it
abbrev starred : Grammar Class
starred = Either Nothing (Then (One is_asterisk) after_star)

-- what is left of a part behind an asterisk, and what stands behind it
abbrev within_part : Grammar Class → Grammar Class
within_part g = Either (Then (Then (Then g (One is_asterisk)) (Many (Then part (One is_asterisk)))) (Either Nothing part)) g

-- what may follow in each state
abbrev pub grammar_of : Mode → Grammar Class
grammar_of Start = item
grammar_of Word = Then (Many (One is_word)) behind
grammar_of FirstZero = Then (Then dot_number (Many dot_number)) behind
grammar_of FirstNumber = Then (Then (Many (One is_digit)) (Then dot_number (Many dot_number))) behind
grammar_of AfterDot = Then (Then number (Many dot_number)) behind
grammar_of LaterZero = Then (Many dot_number) behind
grammar_of LaterNumber = Then (Then (Many (One is_digit)) (Many dot_number)) behind
grammar_of AfterSign = Then (One is_equals) value
grammar_of Value = value
grammar_of ValueEscape = Then hex_pair value
grammar_of ValueHalf = Then (One is_hex) value
grammar_of Matched = matched
grammar_of MatchedEscape = Then (Then hex_pair value) starred
grammar_of MatchedHalf = Then (Then (One is_hex) value) starred
grammar_of AfterStar = after_star
grammar_of Part = within_part value
grammar_of PartEscape = within_part (Then hex_pair value)
grammar_of PartHalf = within_part (Then (One is_hex) value)

pub same : (mode : Mode) (k : Class) → after k (grammar_of mode) ≡ grammar_at grammar_of (step_of mode k)
same Start Asterisk = refl
same Start k = refl
same Word Asterisk = refl
same Word k = refl
same FirstZero Asterisk = refl
same FirstZero k = refl
same FirstNumber Asterisk = refl
same FirstNumber k = refl
same AfterDot Asterisk = refl
same AfterDot k = refl
same LaterZero Asterisk = refl
same LaterZero k = refl
same LaterNumber Asterisk = refl
same LaterNumber k = refl
same AfterSign Asterisk = refl
same AfterSign k = refl
same Value Asterisk = refl
same Value k = refl
same ValueEscape Asterisk = refl
same ValueEscape k = refl
same ValueHalf Asterisk = refl
same ValueHalf k = refl
same Matched Asterisk = refl
same Matched k = refl
same MatchedEscape Asterisk = refl
same MatchedEscape k = refl
same MatchedHalf Asterisk = refl
same MatchedHalf k = refl
same AfterStar Asterisk = refl
same AfterStar k = refl
same Part Asterisk = refl
same Part k = refl
same PartEscape Asterisk = refl
same PartEscape k = refl
same PartHalf Asterisk = refl
same PartHalf k = refl

pub empty : (mode : Mode) → has_empty (grammar_of mode) ≡ may_end mode
empty Start = refl
empty mode = refl

-- some octets that end an item's text in each state
abbrev pub finish : Mode → List ℕ
finish Start = 97 ∷ 61 ∷ []
finish Word = 61 ∷ []
finish FirstZero = 46 ∷ 48 ∷ 61 ∷ []
finish FirstNumber = 46 ∷ 48 ∷ 61 ∷ []
finish AfterDot = 48 ∷ 61 ∷ []
finish LaterZero = 61 ∷ []
finish LaterNumber = 61 ∷ []
finish AfterSign = 61 ∷ []
finish Value = []
finish ValueEscape = 48 ∷ 48 ∷ []
finish ValueHalf = 48 ∷ []
finish Matched = []
finish MatchedEscape = 48 ∷ 48 ∷ []
finish MatchedHalf = 48 ∷ []
finish AfterStar = []
finish Part = []
finish PartEscape = 48 ∷ 48 ∷ []
finish PartHalf = 48 ∷ []

pub finishes : (mode : Mode) → fault_at machine 0 (finish mode) mode ≡ None
unfolding class_of
finishes Start = refl
finishes mode = refl

-- the machine's steps are the grammar's
abbrev pub items_machine : IsMachineOf machine grammar_of
items_machine = record { same = same; empty = empty; finish = finish; finishes = finishes }
