-- Lemmas on the events of a script: no number is opened twice, and no octets are empty.
use Rattle.std.proofs.Common.{◌≡◌, ◌≢◌, ℕ, ◌+◌, ◌<◌, sym, ◌∙◌, ap, subst, refl, arith, true, List, [], ◌∷◌, ◌++◌, length, Option, Some, None, Result, Ok, Err, if◌then◌else◌, nat_eq, inl, inr}
use Rattle.std.specs.Cmp.{nat_eq_equiv}
use Rattle.std.specs.List.{IsDistinct}
use Rattle.std.proofs.lemmas.Bool.{cases_Bool, not-true}
use Rattle.std.proofs.lemmas.Map.Keys.{IsDistinct-push}
use Rattle.script_text.specs.declared.event.ScriptEvent.{ScriptEvent}
use Rattle.script_text.specs.declared.event.ScriptEvent.TheVariants.{Opened, Bytes, Ended}
use Rattle.script_text.specs.LineText.{is_silent, Spells}
use Rattle.script_text.specs.LineReading.{event_of}
use Rattle.script_text.specs.script.Script.{opens, has, opened_by, may_follow, OpensOnce, IsFilled, AreFilled}
use Rattle.script_text.specs.script.ScriptReading.{◌>>=◌, admitted, after_line, after_lines, script_of}
use Rattle.script_text.proofs.reading.ConnectionsLemmas.{filter_map-none, filter_map-some}
use Rattle.script_text.proofs.laws.TextLemmas.{event_of-some}

-- the events open no number twice, and have octets where they are to have some
pub record IsOrderly (events : List ScriptEvent) : Type 0 where
  pub once : OpensOnce events
  pub filled : AreFilled events

-- one more event that may follow opens a number that wasn't opened
OpensOnce-push : (before : List ScriptEvent) (event : ScriptEvent) → OpensOnce before → may_follow before event ≡ true → OpensOnce (before ++ event ∷ [])
OpensOnce-push before (Opened number) once may =
    subst (λ (numbers : List ℕ). IsDistinct nat_eq numbers) (sym (filter_map-some opens before (Opened number) number refl))
    (IsDistinct-push nat_eq_equiv (opened_by before) number once (not-true (has number (opened_by before)) may))
OpensOnce-push before (Bytes number octets) once may = subst (λ (numbers : List ℕ). IsDistinct nat_eq numbers) (sym (filter_map-none opens before (Bytes number octets) refl)) once
OpensOnce-push before (Ended number) once may = subst (λ (numbers : List ℕ). IsDistinct nat_eq numbers) (sym (filter_map-none opens before (Ended number) refl)) once

AreFilled-push : (before : List ScriptEvent) (event : ScriptEvent) → AreFilled before → IsFilled event → AreFilled (before ++ event ∷ [])
AreFilled-push [] event filled last = (last, tt)
AreFilled-push (first ∷ before) event filled last = (filled.0, AreFilled-push before event filled.1 last)

-- octets that aren't none are at least one
some_octets : (octets : List ℕ) → octets ≢ [] → 0 < length octets
some_octets [] filled = absurd (filled refl)
some_octets (octet ∷ octets) filled = omega arith

-- the text of octets has at least one
Spells-filled : (line : List ℕ) (event : ScriptEvent) → Spells line event → IsFilled event
Spells-filled line (Opened number) is = tt
Spells-filled line (Bytes number octets) is = some_octets octets is.4.filled
Spells-filled line (Ended number) is = tt

-- one more line
admitted-orderly : (before events : List ScriptEvent) (number : ℕ) (line : List ℕ) (event : Option ScriptEvent) → event_of line ≡ event → IsOrderly before → admitted before number event ≡ Ok events → IsOrderly events
admitted-orderly before events number line None of orderly is = cc is
admitted-orderly before events number line (Some event) of orderly is =
    elim (cases_Bool (may_follow before event)) [
      | inl may ↦
          let same : before ++ event ∷ [] ≡ events = cc (ap (λ test. if test then Ok (before ++ event ∷ []) else Err number) may, is) in
          subst IsOrderly same record {
            once = OpensOnce-push before event orderly.once may;
            filled = AreFilled-push before event orderly.filled (Spells-filled line event (event_of-some line event of));
          }
      | inr never ↦ cc (ap (λ test. if test then Ok (before ++ event ∷ []) else Err number) never, is)
    ]

after_line-orderly : (before events : List ScriptEvent) (number : ℕ) (line : List ℕ) → IsOrderly before → after_line before number line ≡ Ok events → IsOrderly events
unfolding after_line
after_line-orderly before events number line orderly is =
    elim (cases_Bool (is_silent line)) [
      | inl silent ↦
          let same : before ≡ events = cc (ap (λ test. if test then Ok before else admitted before number (event_of line)) silent, is) in
          subst IsOrderly same orderly
      | inr speaks ↦ admitted-orderly before events number line (event_of line) refl orderly (sym (ap (λ test. if test then Ok before else admitted before number (event_of line)) speaks) ∙ is)
    ]

-- the first of two steps gave events
first_step : (first : Result (List ScriptEvent) ℕ) (next : List ScriptEvent → Result (List ScriptEvent) ℕ) (events : List ScriptEvent) → (first >>= next) ≡ Ok events
    → (found : List ScriptEvent) × (first ≡ Ok found) × (next found ≡ Ok events)
first_step (Ok found) next events is = (found, refl, is)
first_step (Err number) next events is = cc is

after_lines-orderly : (lines : List (List ℕ)) (before events : List ScriptEvent) (number : ℕ) → IsOrderly before → after_lines before number lines ≡ Ok events → IsOrderly events
unfolding after_lines
after_lines-orderly [] before events number orderly is = subst IsOrderly (cc is) orderly
after_lines-orderly (line ∷ rest) before events number orderly is =
    let step = first_step (after_line before number line) (λ found. after_lines found (number + 1) rest) events is in
    after_lines-orderly rest step.0 events (number + 1) (after_line-orderly before step.0 number line orderly step.1) step.2

-- the events of a script
pub script_of-orderly : (text : List ℕ) (events : List ScriptEvent) → script_of text ≡ Ok events → IsOrderly events
unfolding script_of IsDistinct
script_of-orderly text events is = after_lines-orderly _ [] events 1 record { once = tt; filled = tt } is
