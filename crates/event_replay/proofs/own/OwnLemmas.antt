-- The events of one connection alone.
use Rattle.std.proofs.Common.{◌≡◌, ℕ, nat_eq, Bool, true, false, List, [], ◌∷◌, filter, refl, sym, ap, subst, ◌∙◌, if◌then◌else◌}
use Rattle.std.specs.List.{AllByRecursion, IsDistinct}
use Rattle.session_hub.specs.session_model.Purging.{is_of, purged}
use Rattle.session_hub.specs.session_model.script_text.declared.event.ScriptEvent.{ScriptEvent}
use Rattle.session_hub.specs.session_model.script_text.declared.event.ScriptEvent.TheVariants as script
use Rattle.session_hub.specs.session_model.script_text.script.Script.{opened_by, OpensOnce}
use Rattle.event_replay.specs.Played.{step_of, played_steps, ArePlayed}
use Rattle.event_replay.specs.Playing.{own_of}

-- what holds of each holds of each that is kept
all-kept : {A : Type 0} (P : A → Type 0) (test : A → Bool) (xs : List A) → AllByRecursion P xs → AllByRecursion P (filter test xs)
all-kept P test [] all = tt
all-kept P test (x ∷ xs) all = by (test x) (all-kept P test xs all.1)
  where
    by : (kept : Bool) → AllByRecursion P (filter test xs) → AllByRecursion P (if kept then x ∷ filter test xs else filter test xs)
    by true rest = (all.0, rest)
    by false rest = rest

-- what holds of each number opened, where some events are kept
opened-kept : (P : ℕ → Type 0) (test : ScriptEvent → Bool) (events : List ScriptEvent) → AllByRecursion P (opened_by events) → AllByRecursion P (opened_by (filter test events))
opened-kept P test [] all = tt
opened-kept P test (script.Opened conn ∷ events) all = by (test (script.Opened conn)) (opened-kept P test events all.1)
  where
    by : (kept : Bool) → AllByRecursion P (opened_by (filter test events))
        → AllByRecursion P (opened_by (if kept then script.Opened conn ∷ filter test events else filter test events))
    by true rest = (all.0, rest)
    by false rest = rest
opened-kept P test (script.Bytes conn octets ∷ events) all = by (test (script.Bytes conn octets)) (opened-kept P test events all)
  where
    by : (kept : Bool) → AllByRecursion P (opened_by (filter test events))
        → AllByRecursion P (opened_by (if kept then script.Bytes conn octets ∷ filter test events else filter test events))
    by true rest = rest
    by false rest = rest
opened-kept P test (script.Ended conn ∷ events) all = by (test (script.Ended conn)) (opened-kept P test events all)
  where
    by : (kept : Bool) → AllByRecursion P (opened_by (filter test events))
        → AllByRecursion P (opened_by (if kept then script.Ended conn ∷ filter test events else filter test events))
    by true rest = rest
    by false rest = rest

-- none of them opens a number twice
once-kept : (test : ScriptEvent → Bool) (events : List ScriptEvent) → OpensOnce events → OpensOnce (filter test events)
unfolding IsDistinct
once-kept test [] once = tt
once-kept test (script.Opened conn ∷ events) once = by (test (script.Opened conn)) (once-kept test events once.1)
  where
    by : (kept : Bool) → OpensOnce (filter test events) → OpensOnce (if kept then script.Opened conn ∷ filter test events else filter test events)
    by true rest = (opened-kept (λ other. nat_eq conn other ≡ false) test events once.0, rest)
    by false rest = rest
once-kept test (script.Bytes conn octets ∷ events) once = by (test (script.Bytes conn octets)) (once-kept test events once)
  where
    by : (kept : Bool) → OpensOnce (filter test events) → OpensOnce (if kept then script.Bytes conn octets ∷ filter test events else filter test events)
    by true rest = rest
    by false rest = rest
once-kept test (script.Ended conn ∷ events) once = by (test (script.Ended conn)) (once-kept test events once)
  where
    by : (kept : Bool) → OpensOnce (filter test events) → OpensOnce (if kept then script.Ended conn ∷ filter test events else filter test events)
    by true rest = rest
    by false rest = rest

-- they are played as they are among all
pub played-own : (number : ℕ) (events own : List ScriptEvent) → own ≡ own_of number events → ArePlayed events → ArePlayed own
played-own number events own is played = subst ArePlayed (sym is) (record {
  once = once-kept _ events played.once;
  filled = all-kept _ _ events played.filled;
  short = all-kept _ _ events played.short;
})

-- their steps are those of the connection
steps-own : (number : ℕ) (events : List ScriptEvent) → played_steps (own_of number events) ≡ purged number (played_steps events)
steps-own number [] = refl
steps-own number (event ∷ events) = by (is_of number (step_of event)) (steps-own number events)
  where
    by : (mine : Bool) → played_steps (own_of number events) ≡ purged number (played_steps events)
        → played_steps (if mine then event ∷ own_of number events else own_of number events)
        ≡ (if mine then step_of event ∷ purged number (played_steps events) else purged number (played_steps events))
    by true rest = ap (λ steps. step_of event ∷ steps) rest
    by false rest = rest

pub purged-own : (number : ℕ) (events own : List ScriptEvent) → own ≡ own_of number events → played_steps own ≡ purged number (played_steps events)
purged-own number events own is = ap played_steps is ∙ steps-own number events
