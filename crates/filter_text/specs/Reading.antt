-- The filter of a text, computed with a stack of the filters that are open.
use Rattle.std.specs.Prelude.{ℕ, ◌+◌, nat_lt, Bool, true, false, List, [], ◌∷◌, ◌++◌, length, reverse, Option, Some, None, option_map, option_and_then, Result, Ok, Err, if◌then◌else◌}
use Rattle.regular_text.specs.Machine.{by_step}
use Rattle.ldap_filter.specs.filter.Filters.{Filter, filters_of}
use Rattle.ldap_filter.specs.filter.Filters.Filter.{And, Or, Not}
use Rattle.ldap_filter.specs.reading.FilterLayouts.{most_deep}
use Rattle.filter_text.specs.declared.classes.Class.{Class}
use Rattle.filter_text.specs.declared.classes.Class.TheVariants.{Open, Close, Ampersand, Vertbar, Exclamation}
use Rattle.filter_text.specs.declared.frame.Frame.{Frame}
use Rattle.filter_text.specs.declared.frames.Frames.{Frames}
use Rattle.filter_text.specs.declared.frame.Frame.TheVariants.{Start, Whole, Opened, All, Any, No, Negated, Item}
use Rattle.filter_text.specs.Classes.{class_of}
use Rattle.filter_text.specs.Modes.{begin_of, step_of, may_end}
use Rattle.filter_text.specs.Items.{item_of}
use Rattle.filter_text.specs.Faults.{FilterCause, Text, TooDeep}

-- the innermost filter that is open, and what stands round it, from the inside
pub record Stack : Type 0 where
  pub top : Frame
  pub below : List Frame

-- the frames that the program keeps, the outermost first
abbrev pub stack_of : Frames → Stack
stack_of frames = record { top = frames.top; below = reverse frames.below.items }

-- a filter may begin here
abbrev pub may_open : Frame → Bool
may_open Start = true
may_open (All members) = true
may_open (Any members) = true
may_open No = true
may_open frame = false

-- the filter that ends here
abbrev pub closed : Frame → Option Filter
closed (All members) = Some (And (filters_of members))
closed (Any members) = Some (Or (filters_of members))
closed (Negated member) = Some (Not member)
closed (Item raw mode) = if may_end mode then Some (item_of raw) else None
closed frame = None

-- a filter that ended, within what stands round it
abbrev pub with_filter : Filter → Frame → Option Frame
with_filter filter Start = Some (Whole filter)
with_filter filter (All members) = Some (All (members ++ filter ∷ []))
with_filter filter (Any members) = Some (Any (members ++ filter ∷ []))
with_filter filter No = Some (Negated filter)
with_filter filter frame = None

-- the first octet behind a parenthesis
abbrev pub begun : Class → ℕ → Option Frame
begun Ampersand octet = Some (All [])
begun Vertbar octet = Some (Any [])
begun Exclamation octet = Some No
begun class octet = option_map (λ mode. Item (octet ∷ []) mode) (begin_of class)

-- an octet of a class, no parenthesis
abbrev pub with_octet : Class → ℕ → Frame → Option Frame
with_octet class octet Opened = begun class octet
with_octet class octet (Item raw mode) = option_map (λ next. Item (raw ++ octet ∷ []) next) (step_of mode class)
with_octet class octet frame = None

-- the frames below another top
abbrev pub on_top : List Frame → Option Frame → Option Stack
on_top below top = option_map (λ top. record { top = top; below = below }) top

-- a filter that ended, on what stands round it
abbrev pub close_in : Filter → List Frame → Option Stack
close_in filter [] = None
close_in filter (frame ∷ below) = on_top below (with_filter filter frame)

-- an octet of a class
abbrev pub step_by : Class → ℕ → Stack → Option Stack
step_by Open octet stack = if may_open stack.top then Some (record { top = Opened; below = stack.top ∷ stack.below }) else None
step_by Close octet stack = option_and_then (λ filter. close_in filter stack.below) (closed stack.top)
step_by class octet stack = on_top stack.below (with_octet class octet stack.top)

-- an octet
unfoldable pub step : ℕ → Stack → Option Stack
step octet stack = step_by (class_of octet) octet stack

-- what the end of the text gives
abbrev pub ended : ℕ → Frame → Result Filter FilterCause
ended place (Whole filter) = Ok filter
ended place frame = Err (Text place)

-- what is read from a place on
abbrev pub read_from : ℕ → List ℕ → Stack → Result Filter FilterCause
read_from place [] stack = ended place stack.top
read_from place (octet ∷ octets) stack =
    by_step (step octet stack) (Err (Text place))
    (λ next. if nat_lt most_deep (length next.below) then Err TooDeep else read_from (place + 1) octets next)

-- nothing has come
abbrev pub nothing_yet : Stack
nothing_yet = record { top = Start; below = [] }

-- the filter of a text, or why there is none
unfoldable pub filter_in : List ℕ → Result Filter FilterCause
filter_in text = read_from 0 text nothing_yet
