-- The states of reading an item, and the machine that they are.
use Rattle.std.specs.Prelude.{Bool, true, false, Option, Some, None, if◌then◌else◌}
use Rattle.regular_text.specs.Machine.{Machine}
use Rattle.filter_text.specs.declared.classes.Class.{Class}
use Rattle.filter_text.specs.declared.classes.Class.TheVariants.{HexLetter, Letter, Zero, Digit, Dot, Equals, Sign, Open, Close, Asterisk, Backslash, Nul}
use Rattle.filter_text.specs.declared.modes.Mode.{Mode}
use Rattle.filter_text.specs.declared.modes.Mode.TheVariants.{Start, Word, FirstZero, FirstNumber, AfterDot, LaterZero, LaterNumber, AfterSign, Value, ValueEscape, ValueHalf, Matched, MatchedEscape, MatchedHalf, AfterStar, Part, PartEscape, PartHalf}
use Rattle.filter_text.specs.Classes.{class_of, is_word, is_digit, is_hex}

-- the first octet of a type
abbrev pub begin_of : Class → Option Mode
begin_of HexLetter = Some Word
begin_of Letter = Some Word
begin_of Zero = Some FirstZero
begin_of Digit = Some FirstNumber
begin_of class = None

-- what may follow a whole type
abbrev pub after_kind_of : Class → Option Mode
after_kind_of Equals = Some Matched
after_kind_of Sign = Some AfterSign
after_kind_of class = None

-- what may follow a part of a value, with the state within it and the one after a backslash; asterisks apart
abbrev pub in_value_of : Mode → Mode → Class → Option Mode
in_value_of within escape Backslash = Some escape
in_value_of within escape Nul = None
in_value_of within escape Open = None
in_value_of within escape Close = None
in_value_of within escape Asterisk = None
in_value_of within escape class = Some within

-- the next state where the class is that of a hexadecimal digit
abbrev pub digit_to : Mode → Class → Option Mode
digit_to next class = if is_hex class then Some next else None

-- the state after an octet of a type, or of the operator's first octet
abbrev pub in_kind_of : Mode → Class → Option Mode
in_kind_of Start class = begin_of class
in_kind_of Word class = if is_word class then Some Word else after_kind_of class
in_kind_of FirstZero Dot = Some AfterDot
in_kind_of FirstZero class = None
in_kind_of FirstNumber Dot = Some AfterDot
in_kind_of FirstNumber class = if is_digit class then Some FirstNumber else None
in_kind_of AfterDot Zero = Some LaterZero
in_kind_of AfterDot Digit = Some LaterNumber
in_kind_of AfterDot class = None
in_kind_of LaterZero Dot = Some AfterDot
in_kind_of LaterZero class = after_kind_of class
in_kind_of LaterNumber Dot = Some AfterDot
in_kind_of LaterNumber class = if is_digit class then Some LaterNumber else after_kind_of class
in_kind_of mode class = None

-- the state after an octet of a class, if one may follow
abbrev pub step_of : Mode → Class → Option Mode
step_of AfterSign Equals = Some Value
step_of AfterSign class = None
step_of Value class = in_value_of Value ValueEscape class
step_of ValueEscape class = digit_to ValueHalf class
step_of ValueHalf class = digit_to Value class
step_of Matched Asterisk = Some AfterStar
step_of Matched class = in_value_of Matched MatchedEscape class
step_of MatchedEscape class = digit_to MatchedHalf class
step_of MatchedHalf class = digit_to Matched class
step_of AfterStar class = in_value_of Part PartEscape class
step_of Part Asterisk = Some AfterStar
step_of Part class = in_value_of Part PartEscape class
step_of PartEscape class = digit_to PartHalf class
step_of PartHalf class = digit_to Part class
step_of mode class = in_kind_of mode class

-- an item's text may end in the state
abbrev pub may_end : Mode → Bool
may_end Value = true
may_end Matched = true
may_end AfterStar = true
may_end Part = true
may_end mode = false

-- the machine of items
abbrev pub machine : Machine Class Mode
machine = record { class = class_of; step = step_of; ends = may_end }
