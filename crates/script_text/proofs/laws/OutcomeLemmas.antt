-- Lemmas on the outcome of reading: good lines give their events, and the first bad line its number.
use Rattle.std.proofs.Common.{◌≡◌, ℕ, ◌+◌, ◌<◌, ◌≤◌, ◌||◌, sym, ◌∙◌, ap, subst, refl, arith, true, false, List, [], ◌∷◌, ◌++◌, length, take, get_or, Option, Some, None, Result, Ok, Err, if◌then◌else◌, inl, inr}
use Rattle.std.specs.List.{cons_option}
use Rattle.std.proofs.lemmas.Bool.{cases_Bool, cases_order, eqb-true}
use Rattle.std.proofs.lemmas.List.{append-nil, append_assoc, length-append, take_at, take-append-le, get_or_at, get_or_append_left}
use Rattle.std.proofs.lemmas.List.Elements.{filter_map-append}
use Rattle.script_text.specs.declared.event.ScriptEvent.{ScriptEvent}
use Rattle.script_text.specs.LineText.{is_silent}
use Rattle.script_text.specs.LineReading.{event_of}
use Rattle.script_text.specs.script.Script.{gives_next, is_good_line, events_of, is_good_at, AreGood}
use Rattle.script_text.specs.script.ScriptReading.{admitted, after_line, after_lines}
use Rattle.script_text.proofs.script.ScriptLemmas.{after_lines-nil, after_lines-good, after_lines-bad}

-- the first bad line of lines
pub record IsFirstBad (lines : List (List ℕ)) (number : ℕ) : Type 0 where
  pub index : ℕ
  pub counted : number ≡ index + 1
  pub within : index < length lines
  pub bad : is_good_at lines index ≡ false
  pub earlier : AreGood (take index lines)

-- the outcome of reading lines
abbrev pub Outcome : List (List ℕ) → Result (List ScriptEvent) ℕ → Type 0
Outcome lines (Ok events) = AreGood lines × (events ≡ events_of lines)
Outcome lines (Err number) = IsFirstBad lines number

-- a silent line gives no event
pub event_of-silent : (line : List ℕ) → is_silent line ≡ true → event_of line ≡ None
unfolding event_of
event_of-silent [] silent = refl
event_of-silent (octet ∷ octets) silent = ap (λ first. event_of (first ∷ octets)) (eqb-true octet 35 silent)

-- a good line adds its event
good_next : (before : List ScriptEvent) (number : ℕ) (event : Option ScriptEvent) → gives_next before event ≡ true → admitted before number event ≡ Ok (before ++ cons_option event [])
good_next before number None good = cc good
good_next before number (Some event) good = ap (λ may. if may then Ok (before ++ event ∷ []) else Err number) good

after_line-good : (before : List ScriptEvent) (number : ℕ) (line : List ℕ) → is_good_line before line ≡ true → after_line before number line ≡ Ok (before ++ cons_option (event_of line) [])
unfolding after_line
after_line-good before number line good =
    elim (cases_Bool (is_silent line)) [
      | inl silent ↦
          ap (λ test. if test then Ok before else admitted before number (event_of line)) silent
          ∙ ap Ok (sym (append-nil before) ∙ ap (λ event. before ++ cons_option event []) (sym (event_of-silent line silent)))
      | inr speaks ↦
          ap (λ test. if test then Ok before else admitted before number (event_of line)) speaks
          ∙ good_next before number (event_of line) (ap (λ test. test || gives_next before (event_of line)) (sym speaks) ∙ good)
    ]

-- a bad line gives its number
bad_next : (before : List ScriptEvent) (number : ℕ) (event : Option ScriptEvent) → gives_next before event ≡ false → admitted before number event ≡ Err number
bad_next before number None bad = refl
bad_next before number (Some event) bad = ap (λ may. if may then Ok (before ++ event ∷ []) else Err number) bad

after_line-bad : (before : List ScriptEvent) (number : ℕ) (line : List ℕ) → is_good_line before line ≡ false → after_line before number line ≡ Err number
unfolding after_line
after_line-bad before number line bad =
    elim (cases_Bool (is_silent line)) [
      | inl silent ↦ cc (ap (λ test. test || gives_next before (event_of line)) silent, bad)
      | inr speaks ↦
          ap (λ test. if test then Ok before else admitted before number (event_of line)) speaks
          ∙ bad_next before number (event_of line) (ap (λ test. test || gives_next before (event_of line)) (sym speaks) ∙ bad)
    ]

-- lines after a place don't change whether the line there is good
pub is_good_at-append : (front back : List (List ℕ)) (index : ℕ) → index < length front → is_good_at (front ++ back) index ≡ is_good_at front index
is_good_at-append front back index within =
    let before : index ≤ length front = omega arith in
    ap (λ lines. is_good_line (events_of lines) (get_or (front ++ back) index [])) (take-append-le index front back before)
    ∙ ap (λ line. is_good_line (events_of (take index front)) line) (get_or_append_left front back [] index within)

-- the line after those in front
pub is_good_at-seam : (front : List (List ℕ)) (line : List ℕ) (rest : List (List ℕ)) → is_good_at (front ++ line ∷ rest) (length front) ≡ is_good_line (events_of front) line
is_good_at-seam front line rest =
    ap (λ lines. is_good_line (events_of lines) (get_or (front ++ line ∷ rest) (length front) [])) (take_at front (line ∷ rest) (length front) refl)
    ∙ ap (λ l. is_good_line (events_of front) l) (get_or_at front line rest [] (length front) refl)

-- one more good line
AreGood-push : (front : List (List ℕ)) (line : List ℕ) → AreGood front → is_good_line (events_of front) line ≡ true → AreGood (front ++ line ∷ [])
AreGood-push front line good next index within =
    elim (cases_order index (length front)) [
      | inl same ↦ ap (λ i. is_good_at (front ++ line ∷ []) i) same ∙ is_good_at-seam front line [] ∙ next
      | inr (inl below) ↦ is_good_at-append front (line ∷ []) index below ∙ good index below
      | inr (inr above) ↦ absurd (omega (arith, length-append front (line ∷ [])))
    ]

-- the outcome, where the lines in front were good
pub decided : (front back : List (List ℕ)) → AreGood front → Outcome (front ++ back) (after_lines (events_of front) (length front + 1) back)
decided front [] good = rw (append-nil front, after_lines-nil (events_of front) (length front + 1)) (good, refl)
decided front (line ∷ rest) good =
    elim (cases_Bool (is_good_line (events_of front) line)) [
      | inl next ↦
          let events : events_of (front ++ line ∷ []) ≡ events_of front ++ cons_option (event_of line) [] = filter_map-append event_of front (line ∷ []) in
          let step = after_line-good (events_of front) (length front + 1) line next ∙ ap Ok (sym events) in
          let numbers : length front + 1 + 1 ≡ length (front ++ line ∷ []) + 1 = omega (arith, length-append front (line ∷ [])) in
          let read = after_lines-good (events_of front) (events_of (front ++ line ∷ [])) (length front + 1) line rest step ∙ ap (λ n. after_lines (events_of (front ++ line ∷ [])) n rest) numbers in
          subst (λ (r : Result (List ScriptEvent) ℕ). Outcome (front ++ line ∷ rest) r) (sym read)
          (subst (λ (ls : List (List ℕ)). Outcome ls (after_lines (events_of (front ++ line ∷ [])) (length (front ++ line ∷ []) + 1) rest)) (append_assoc front (line ∷ []) rest)
          (decided (front ++ line ∷ []) rest (AreGood-push front line good next)))
      | inr bad ↦
          let read = after_lines-bad (events_of front) (length front + 1) (length front + 1) line rest (after_line-bad (events_of front) (length front + 1) line bad) in
          subst (λ (r : Result (List ScriptEvent) ℕ). Outcome (front ++ line ∷ rest) r) (sym read)
          record {
            index = length front;
            counted = refl;
            within = omega (arith, length-append front (line ∷ rest));
            bad = is_good_at-seam front line rest ∙ bad;
            earlier = subst AreGood (sym (take_at front (line ∷ rest) (length front) refl)) good;
          }
    ]
