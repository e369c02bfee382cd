-- Lemmas on the laws of scripts: each text has one outcome.
use Rattle.std.proofs.Common.{◌≡◌, ℕ, ◌<◌, ◌≤◌, sym, ◌∙◌, ap, subst, arith, true, List, [], length, take, drop, Result, Ok, Err, inl, inr}
use Rattle.std.specs.Str.Lines.{lines}
use Rattle.std.proofs.lemmas.Bool.{cases_order}
use Rattle.std.proofs.lemmas.List.{take-append-drop, length-take-le}
use Rattle.script_text.specs.declared.event.ScriptEvent.{ScriptEvent}
use Rattle.script_text.specs.declared.event.ScriptFault.{ScriptFault}
use Rattle.script_text.specs.declared.event.ScriptFault.TheVariants.{Bad}
use Rattle.script_text.specs.script.Script.{is_good_at, AreGood, events_of, IsScript, IsFirstBadLine}
use Rattle.script_text.specs.script.ScriptReading.{IsCause, script_of}
use Rattle.script_text.proofs.laws.OutcomeLemmas.{IsFirstBad, Outcome, is_good_at-append, decided}

-- no line is in front of the first
none_in_front : AreGood []
none_in_front index within = absurd (omega arith)

-- the outcome of a text
pub outcome_of : (text : List ℕ) → Outcome (lines text) (script_of text)
unfolding script_of
outcome_of text = decided [] (lines text) none_in_front

-- a line among the first ones is good there where it is good among all
is_good_at-take : (lines : List (List ℕ)) (most index : ℕ) → index < most → most ≤ length lines → is_good_at (take most lines) index ≡ is_good_at lines index
is_good_at-take lines most index below within =
    let inside : index < length (take most lines) = omega (arith, length-take-le most lines within) in
    sym (is_good_at-append (take most lines) (drop most lines) index inside) ∙ ap (λ ls. is_good_at ls index) (take-append-drop most lines)

-- a line before the first bad one is good
good_before : (lines : List (List ℕ)) (number index : ℕ) (first : IsFirstBad lines number) → index < first.index → is_good_at lines index ≡ true
good_before lines number index first below =
    let within : first.index ≤ length lines = omega (arith, first.within) in
    sym (is_good_at-take lines first.index index below within) ∙ first.earlier index (omega (arith, length-take-le first.index lines within))

-- where all lines are good, none is bad
not_both : (lines : List (List ℕ)) (number : ℕ) → AreGood lines → IsFirstBad lines number → ⊥
not_both lines number good first = cc (good first.index first.within, first.bad)

-- there is one first bad line
one_first : (lines : List (List ℕ)) (m n : ℕ) → IsFirstBad lines m → IsFirstBad lines n → m ≡ n
one_first lines m n first other =
    elim (cases_order first.index other.index) [
      | inl same ↦ omega (arith, same, first.counted, other.counted)
      | inr (inl below) ↦ cc (good_before lines n first.index other below, first.bad)
      | inr (inr above) ↦ cc (good_before lines m other.index first above, other.bad)
    ]

-- good lines are read
good_read : (lines : List (List ℕ)) (read : Result (List ScriptEvent) ℕ) → Outcome lines read → AreGood lines → read ≡ Ok (events_of lines)
good_read lines (Ok events) outcome good = ap Ok outcome.1
good_read lines (Err number) outcome good = absurd (not_both lines number good outcome)

-- the first bad line is found
bad_read : (lines : List (List ℕ)) (read : Result (List ScriptEvent) ℕ) (number : ℕ) → Outcome lines read → IsFirstBad lines number → read ≡ Err number
bad_read lines (Ok events) number outcome first = absurd (not_both lines number outcome.0 first)
bad_read lines (Err found) number outcome first = ap Err (one_first lines found number outcome first)

-- the text of what is read is a script of it
pub script_of-ok : (text : List ℕ) (events : List ScriptEvent) → script_of text ≡ Ok events → IsScript text events
script_of-ok text events is =
    let outcome = subst (λ (read : Result (List ScriptEvent) ℕ). Outcome (lines text) read) is (outcome_of text) in
    record { good = outcome.0; given = outcome.1 }

-- a script is read
pub IsScript-read : (text : List ℕ) (events : List ScriptEvent) → IsScript text events → script_of text ≡ Ok events
IsScript-read text events is = good_read (lines text) (script_of text) (outcome_of text) is.good ∙ ap Ok (sym is.given)

-- the line that is found is the first bad one
pub script_of-err : (text : List ℕ) (number : ℕ) → script_of text ≡ Err number → IsFirstBadLine text number
script_of-err text number is =
    let first = subst (λ (read : Result (List ScriptEvent) ℕ). Outcome (lines text) read) is (outcome_of text) in
    record { index = first.index; counted = first.counted; within = first.within; bad = first.bad; earlier = first.earlier }

-- the first bad line is found
pub IsFirstBadLine-read : (text : List ℕ) (number : ℕ) → IsFirstBadLine text number → script_of text ≡ Err number
IsFirstBadLine-read text number is =
    bad_read (lines text) (script_of text) number (outcome_of text)
    record { index = is.index; counted = is.counted; within = is.within; bad = is.bad; earlier = is.earlier }

-- a fault that names a line names the first bad one
pub bad_line : {R : Type 0} (text : List ℕ) (line : ℕ) (result : Result R ScriptFault) (found given : ScriptFault) → result ≡ Err found → found ≡ given → IsCause given (script_of text)
    → result ≡ Err (Bad line) → IsFirstBadLine text line
bad_line text line result found given answered same cause is =
    let named : given ≡ Bad line = cc in
    script_of-err text line (subst (λ (fault : ScriptFault). IsCause fault (script_of text)) named cause)
