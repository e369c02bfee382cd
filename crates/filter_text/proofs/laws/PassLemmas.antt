-- What octets make of a stack, whatever follows them: they lead to another, or to too many frames.
use Rattle.std.proofs.Common.{◌≡◌, ℕ, ◌+◌, ◌<◌, ◌≤◌, Bool, true, List, [], ◌∷◌, ◌++◌, length, length-append, Option, Some, None, refl, sym, ap, subst, ◌∙◌, append_assoc, append-nil, arith}
use Rattle.std.specs.Prelude.{nat_lt, Err, if◌then◌else◌, option_map, option_and_then}
use Rattle.std.proofs.lemmas.Bool.{le-ltb, lt-ltb, false≢true}
use Rattle.regular_text.specs.Machine.{by_step}
use Rattle.ldap_filter.specs.filter.Filters.{Filter}
use Rattle.ldap_filter.specs.reading.FilterLayouts.{most_deep}
use Rattle.filter_text.specs.declared.classes.Class.{Class}
use Rattle.filter_text.specs.declared.classes.Class.TheVariants.{Open, Close, Ampersand, Vertbar, Exclamation}
use Rattle.filter_text.specs.declared.frame.Frame.{Frame}
use Rattle.filter_text.specs.declared.frame.Frame.TheVariants.{Opened, All, Any, No, Item}
use Rattle.filter_text.specs.declared.modes.Mode.{Mode}
use Rattle.filter_text.specs.declared.modes.Mode.TheVariants as modes
use Rattle.filter_text.specs.Classes.{class_of}
use Rattle.filter_text.specs.ItemGrammar.{IsItemText}
use Rattle.filter_text.specs.Modes.{begin_of, step_of, may_end}
use Rattle.filter_text.specs.Faults.{Text, TooDeep}
use Rattle.filter_text.specs.Reading.{Stack, may_open, closed, with_filter, on_top, close_in, step_by, step, read_from}
use Rattle.filter_text.proofs.laws.ItemLemmas.{Reads, reads-step, reads-ends}

abbrev pub stacked : Frame → List Frame → Stack
stacked top below = record { top = top; below = below }

-- the octets lead from a stack to another
abbrev pub Passes : List ℕ → Stack → Stack → Type 0
Passes text before after = (place : ℕ) (rest : List ℕ) → read_from place (text ++ rest) before ≡ read_from (place + length text) rest after

-- the octets lead to too many frames
abbrev pub Deepens : List ℕ → Stack → Type 0
Deepens text before = (place : ℕ) (rest : List ℕ) → read_from place (text ++ rest) before ≡ Err TooDeep

pub passes-step : (x : ℕ) (before next : Stack) → step x before ≡ Some next → length next.below ≤ most_deep → Passes (x ∷ []) before next
passes-step x before next e low place rest =
    ap (λ (o : Option Stack). by_step o (Err (Text place)) (λ n. if nat_lt most_deep (length n.below) then Err TooDeep else read_from (place + 1) rest n)) e
    ∙ ap (λ (b : Bool). if b then Err TooDeep else read_from (place + 1) rest next) (le-ltb most_deep (length next.below) low)

pub deepens-step : (x : ℕ) (before next : Stack) → step x before ≡ Some next → most_deep < length next.below → Deepens (x ∷ []) before
deepens-step x before next e high place rest =
    ap (λ (o : Option Stack). by_step o (Err (Text place)) (λ n. if nat_lt most_deep (length n.below) then Err TooDeep else read_from (place + 1) rest n)) e
    ∙ ap (λ (b : Bool). if b then Err TooDeep else read_from (place + 1) rest next) (lt-ltb most_deep (length next.below) high)

pub passes-append : (one two : List ℕ) (first second third : Stack) → Passes one first second → Passes two second third → Passes (one ++ two) first third
passes-append one two first second third p q place rest =
    let same : (place + length one) + length two ≡ place + length (one ++ two) = omega (arith, length-append one two) in
    ap (λ (t : List ℕ). read_from place t first) (append_assoc one two rest) ∙ p place (two ++ rest) ∙ q (place + length one) rest ∙ ap (λ (n : ℕ). read_from n rest third) same

pub passes-deepens : (one two : List ℕ) (first second : Stack) → Passes one first second → Deepens two second → Deepens (one ++ two) first
passes-deepens one two first second p q place rest =
    ap (λ (t : List ℕ). read_from place t first) (append_assoc one two rest) ∙ p place (two ++ rest) ∙ q (place + length one) rest

pub deepens-more : (one two : List ℕ) (first : Stack) → Deepens one first → Deepens (one ++ two) first
deepens-more one two first p place rest = ap (λ (t : List ℕ). read_from place t first) (append_assoc one two rest) ∙ p place (two ++ rest)

passes-nothing : (first : Stack) → Passes [] first first
passes-nothing first place rest = let same : place ≡ place + 0 = omega arith in ap (λ (n : ℕ). read_from n rest first) same

-- ---- single octets

pub opening : (top : Frame) (below : List Frame) → may_open top ≡ true → step 40 (stacked top below) ≡ Some (stacked Opened (top ∷ below))
unfolding step class_of
opening top below opens = ap (λ (b : Bool). if b then Some (stacked Opened (top ∷ below)) else None) opens

pub closing : (top frame next : Frame) (below : List Frame) (filter : Filter) → closed top ≡ Some filter → with_filter filter frame ≡ Some next → step 41 (stacked top (frame ∷ below)) ≡ Some (stacked next below)
unfolding step class_of
closing top frame next below filter ends within =
    ap (λ (o : Option Filter). option_and_then (λ filter. close_in filter (frame ∷ below)) o) ends ∙ ap (λ (o : Option Frame). on_top below o) within

pub begins-all : (below : List Frame) → step 38 (stacked Opened below) ≡ Some (stacked (All []) below)
unfolding step class_of
begins-all below = refl

pub begins-any : (below : List Frame) → step 124 (stacked Opened below) ≡ Some (stacked (Any []) below)
unfolding step class_of
begins-any below = refl

pub begins-no : (below : List Frame) → step 33 (stacked Opened below) ≡ Some (stacked No below)
unfolding step class_of
begins-no below = refl

-- no parenthesis stands in an item
open-none : (mode : Mode) → step_of mode Open ≡ None
open-none modes.Start = refl
open-none mode = refl

close-none : (mode : Mode) → step_of mode Close ≡ None
close-none modes.Start = refl
close-none mode = refl

item-step_by : (class : Class) (mode next : Mode) (x : ℕ) (raw : List ℕ) (below : List Frame) → step_of mode class ≡ Some next → step_by class x (stacked (Item raw mode) below) ≡ Some (stacked (Item (raw ++ x ∷ []) next) below)
item-step_by Open mode next x raw below e = let no = open-none mode in absurd cc
item-step_by Close mode next x raw below e = let no = close-none mode in absurd cc
item-step_by class mode next x raw below e = ap (λ (o : Option Mode). on_top below (option_map (λ n. Item (raw ++ x ∷ []) n) o)) e

first-step_by : (class : Class) (next : Mode) (x : ℕ) (below : List Frame) → begin_of class ≡ Some next → step_by class x (stacked Opened below) ≡ Some (stacked (Item (x ∷ []) next) below)
first-step_by Open next x below e = absurd cc
first-step_by Close next x below e = absurd cc
first-step_by Ampersand next x below e = absurd cc
first-step_by Vertbar next x below e = absurd cc
first-step_by Exclamation next x below e = absurd cc
first-step_by class next x below e = ap (λ (o : Option Mode). on_top below (option_map (λ n. Item (x ∷ []) n) o)) e

item-step : (mode next : Mode) (x : ℕ) (raw : List ℕ) (below : List Frame) → step_of mode (class_of x) ≡ Some next → step x (stacked (Item raw mode) below) ≡ Some (stacked (Item (raw ++ x ∷ []) next) below)
unfolding step
item-step mode next x raw below e = item-step_by (class_of x) mode next x raw below e

first-step : (next : Mode) (x : ℕ) (below : List Frame) → begin_of (class_of x) ≡ Some next → step x (stacked Opened below) ≡ Some (stacked (Item (x ∷ []) next) below)
unfolding step
first-step next x below e = first-step_by (class_of x) next x below e

-- ---- items

-- the octets lead to the end of an item
abbrev Ending : List ℕ → Stack → List ℕ → List Frame → Type 0
Ending text before raw below = (last : Mode) × (may_end last ≡ true) × Passes text before (stacked (Item raw last) below)

item-passes : (text raw : List ℕ) (mode : Mode) (below : List Frame) → length below ≤ most_deep → Reads mode text → Ending text (stacked (Item raw mode) below) (raw ++ text) below
item-passes [] raw mode below low m =
    (mode, reads-ends mode m, subst (λ (r : List ℕ). Passes [] (stacked (Item raw mode) below) (stacked (Item r mode) below)) (sym (append-nil raw)) (passes-nothing (stacked (Item raw mode) below)))
item-passes (x ∷ xs) raw mode below low m =
    let (next, e, later) = reads-step mode x xs m in
    let (last, ends, p) = item-passes xs (raw ++ x ∷ []) next below low later in (
      last,
      ends,
      subst (λ (r : List ℕ). Passes (x ∷ xs) (stacked (Item raw mode) below) (stacked (Item r last) below)) (append_assoc raw (x ∷ []) xs)
          (passes-append (x ∷ []) xs (stacked (Item raw mode) below) (stacked (Item (raw ++ x ∷ []) next) below) (stacked (Item ((raw ++ x ∷ []) ++ xs) last) below)
          (passes-step x (stacked (Item raw mode) below) (stacked (Item (raw ++ x ∷ []) next) below) (item-step mode next x raw below e) low) p),
    )

begun-passes : (text : List ℕ) (below : List Frame) → length below ≤ most_deep → Reads modes.Start text → Ending text (stacked Opened below) text below
begun-passes [] below low m = absurd (false≢true (reads-ends modes.Start m))
begun-passes (x ∷ xs) below low m =
    let (next, e, later) = reads-step modes.Start x xs m in
    let (last, ends, p) = item-passes xs (x ∷ []) next below low later in (
      last,
      ends,
      passes-append (x ∷ []) xs (stacked Opened below) (stacked (Item (x ∷ []) next) below) (stacked (Item (x ∷ xs) last) below)
          (passes-step x (stacked Opened below) (stacked (Item (x ∷ []) next) below) (first-step next x below e) low) p,
    )

pub IsItemText-passes : (raw : List ℕ) (below : List Frame) → length below ≤ most_deep → IsItemText raw → Ending raw (stacked Opened below) raw below
unfolding IsItemText
IsItemText-passes raw below low m = begun-passes raw below low m
