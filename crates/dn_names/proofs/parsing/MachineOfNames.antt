-- The machine of names is that of the outer grammar: its table of states, their grammars and their steps.
use Rattle.std.proofs.Common.{◌≡◌, ℕ, List, [], ◌∷◌, None, refl}
use Rattle.regular_text.specs.Grammar.{Grammar}
use Rattle.regular_text.specs.Grammar.Grammar.{One, Then, Many}
use Rattle.regular_text.specs.Derivative.{has_empty, after}
use Rattle.regular_text.specs.Machine.{grammar_at, fault_at, IsMachineOf}
use Rattle.dn_names.specs.declared.classes.Class.{Class}
use Rattle.dn_names.specs.declared.classes.Class.TheVariants.{Space}
use Rattle.dn_names.specs.declared.modes.Mode.{Mode}
use Rattle.dn_names.specs.declared.modes.Mode.TheVariants.{Start, PairStart, Word, FirstZero, FirstNumber, AfterDot, LaterZero, LaterNumber, AfterKind, ValueStart, InValue, Escape, HalfByte}
use Rattle.dn_names.specs.Classes.{class_of, is_word, is_digit, is_hex, is_equals}
use Rattle.dn_names.specs.NameGrammar.{spaces, number, dot_number, escape, piece, value, pair, more_pairs, more_rdns, name}
use Rattle.dn_names.specs.Modes.{step_of, may_end, machine}

-- what ends a pair, then its RDN, then the name
abbrev rest_of : Grammar Class → Grammar Class
rest_of g = Then (Then g more_pairs) more_rdns

-- what stands after a type
abbrev after_type : Grammar Class
after_type = Then spaces (Then (One is_equals) value)

-- what may follow in each state
abbrev pub grammar_of : Mode → Grammar Class
grammar_of Start = name
grammar_of PairStart = rest_of pair
grammar_of Word = rest_of (Then (Many (One is_word)) after_type)
grammar_of FirstZero = rest_of (Then (Then dot_number (Many dot_number)) after_type)
grammar_of FirstNumber = rest_of (Then (Then (Many (One is_digit)) (Then dot_number (Many dot_number))) after_type)
grammar_of AfterDot = rest_of (Then (Then number (Many dot_number)) after_type)
grammar_of LaterZero = rest_of (Then (Many dot_number) after_type)
grammar_of LaterNumber = rest_of (Then (Then (Many (One is_digit)) (Many dot_number)) after_type)
grammar_of AfterKind = rest_of after_type
grammar_of ValueStart = rest_of value
grammar_of InValue = rest_of (Many piece)
grammar_of Escape = rest_of (Then escape (Many piece))
grammar_of HalfByte = rest_of (Then (One is_hex) (Many piece))

same : (mode : Mode) (k : Class) → after k (grammar_of mode) ≡ grammar_at grammar_of (step_of mode k)
same Start Space = refl
same Start k = refl
same PairStart Space = refl
same PairStart k = refl
same Word Space = refl
same Word k = refl
same FirstZero Space = refl
same FirstZero k = refl
same FirstNumber Space = refl
same FirstNumber k = refl
same AfterDot Space = refl
same AfterDot k = refl
same LaterZero Space = refl
same LaterZero k = refl
same LaterNumber Space = refl
same LaterNumber k = refl
same AfterKind Space = refl
same AfterKind k = refl
same ValueStart Space = refl
same ValueStart k = refl
same InValue Space = refl
same InValue k = refl
same Escape Space = refl
same Escape k = refl
same HalfByte Space = refl
same HalfByte k = refl

empty : (mode : Mode) → has_empty (grammar_of mode) ≡ may_end mode
empty Start = refl
empty mode = refl

-- some octets that end a name's text in each state
finish : Mode → List ℕ
finish Start = []
finish PairStart = 97 ∷ 61 ∷ []
finish Word = 61 ∷ []
finish FirstZero = 46 ∷ 48 ∷ 61 ∷ []
finish FirstNumber = 46 ∷ 48 ∷ 61 ∷ []
finish AfterDot = 48 ∷ 61 ∷ []
finish LaterZero = 61 ∷ []
finish LaterNumber = 61 ∷ []
finish AfterKind = 61 ∷ []
finish ValueStart = []
finish InValue = []
finish Escape = 61 ∷ []
finish HalfByte = 48 ∷ []

finishes : (mode : Mode) → fault_at machine 0 (finish mode) mode ≡ None
unfolding finish class_of
finishes Start = refl
finishes mode = refl

-- the machine's steps are the grammar's
pub names_machine : IsMachineOf machine grammar_of
names_machine = record { same = same; empty = empty; finish = finish; finishes = finishes }
