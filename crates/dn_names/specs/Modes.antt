-- The states of reading a name's text, and the machine that they are.
use Rattle.std.specs.Prelude.{ℕ, Bool, true, false, List, Option, Some, None, if◌then◌else◌}
use Rattle.regular_text.specs.Machine.{Machine, fault_at}
use Rattle.dn_names.specs.declared.classes.Class.{Class}
use Rattle.dn_names.specs.declared.classes.Class.TheVariants.{HexLetter, Letter, Zero, Digit, Dot, Space, Equals, Plus, Comma, Hash, Backslash, Mark, Nul}
use Rattle.dn_names.specs.declared.modes.Mode.{Mode}
use Rattle.dn_names.specs.declared.modes.Mode.TheVariants.{Start, PairStart, Word, FirstZero, FirstNumber, AfterDot, LaterZero, LaterNumber, AfterKind, ValueStart, InValue, Escape, HalfByte}
use Rattle.dn_names.specs.Classes.{class_of, is_word, is_digit, is_hex, is_escapable}

-- the first octet of a type
abbrev pub begin_of : Class → Option Mode
begin_of HexLetter = Some Word
begin_of Letter = Some Word
begin_of Zero = Some FirstZero
begin_of Digit = Some FirstNumber
begin_of class = None

-- what may follow a whole type
abbrev pub after_kind_of : Class → Option Mode
after_kind_of Space = Some AfterKind
after_kind_of Equals = Some ValueStart
after_kind_of class = None

-- what may follow a part of a value
abbrev pub in_value_of : Class → Option Mode
in_value_of Backslash = Some Escape
in_value_of Comma = Some PairStart
in_value_of Plus = Some PairStart
in_value_of Mark = None
in_value_of Nul = None
in_value_of class = Some InValue

-- the state after an octet of a class, if one may follow
abbrev pub step_of : Mode → Class → Option Mode
step_of Start Space = Some Start
step_of Start class = begin_of class
step_of PairStart Space = Some PairStart
step_of PairStart class = begin_of class
step_of Word class = if is_word class then Some Word else after_kind_of class
step_of FirstZero Dot = Some AfterDot
step_of FirstZero class = None
step_of FirstNumber Dot = Some AfterDot
step_of FirstNumber class = if is_digit class then Some FirstNumber else None
step_of AfterDot Zero = Some LaterZero
step_of AfterDot Digit = Some LaterNumber
step_of AfterDot class = None
step_of LaterZero Dot = Some AfterDot
step_of LaterZero class = after_kind_of class
step_of LaterNumber Dot = Some AfterDot
step_of LaterNumber class = if is_digit class then Some LaterNumber else after_kind_of class
step_of AfterKind class = after_kind_of class
step_of ValueStart Space = Some ValueStart
step_of ValueStart Hash = None
step_of ValueStart class = in_value_of class
step_of InValue class = in_value_of class
step_of Escape class = if is_hex class then Some HalfByte else if is_escapable class then Some InValue else None
step_of HalfByte class = if is_hex class then Some InValue else None

-- a name's text may end in the state
abbrev pub may_end : Mode → Bool
may_end Start = true
may_end ValueStart = true
may_end InValue = true
may_end mode = false

-- the machine of names
abbrev pub machine : Machine Class Mode
machine = record { class = class_of; step = step_of; ends = may_end }

-- where the octets leave the outer grammar, or None
unfoldable pub text_fault : List ℕ → Option ℕ
text_fault text = fault_at machine 0 text Start
