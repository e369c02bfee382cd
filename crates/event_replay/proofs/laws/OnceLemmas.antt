-- Events that open no number twice open each once at most.
use Rattle.std.proofs.Common.{◌≡◌, ◌≤◌, ℕ, ◌==◌, nat_eq, false, inl, inr, List, [], ◌∷◌, refl, ◌∙◌, subst, arith}
use Rattle.std.specs.Cmp.{nat_eq_equiv}
use Rattle.std.specs.List.{AllByRecursion, IsDistinct}
use Rattle.std.proofs.lemmas.Bool.{cases_Bool, eqb-true}
use Rattle.session_hub.specs.session_model.Purging.{openings}
use Rattle.session_hub.specs.session_model.script_text.declared.event.ScriptEvent.{ScriptEvent}
use Rattle.session_hub.specs.session_model.script_text.declared.event.ScriptEvent.TheVariants as script
use Rattle.session_hub.specs.session_model.script_text.script.Script.{opened_by, OpensOnce}
use Rattle.event_replay.specs.Played.{played_steps, ArePlayed}

-- a number that differs from all opened never opens
openings-none : (number : ℕ) (events : List ScriptEvent) → AllByRecursion (λ other. nat_eq other number ≡ false) (opened_by events) → openings number (played_steps events) ≡ 0
openings-none number [] all = refl
openings-none number (script.Opened conn ∷ events) all = rw all.0 (omega (arith, openings-none number events all.1))
openings-none number (script.Bytes conn octets ∷ events) all = omega (arith, openings-none number events all)
openings-none number (script.Ended conn ∷ events) all = omega (arith, openings-none number events all)

-- the numbers that differ from the first opened
flipped : (number : ℕ) (numbers : List ℕ) → AllByRecursion (λ other. nat_eq number other ≡ false) numbers → AllByRecursion (λ other. nat_eq other number ≡ false) numbers
flipped number [] all = tt
flipped number (other ∷ numbers) all = (nat_eq_equiv.symm other number ∙ all.0, flipped number numbers all.1)

openings-distinct : (number : ℕ) (events : List ScriptEvent) → OpensOnce events → openings number (played_steps events) ≤ 1
unfolding IsDistinct
openings-distinct number [] once = omega arith
openings-distinct number (script.Opened conn ∷ events) once = elim (cases_Bool (conn == number)) [
  | inl same ↦
      let none = openings-none number events (subst (λ (first : ℕ). AllByRecursion (λ other. nat_eq other first ≡ false) (opened_by events)) (eqb-true conn number same) (flipped conn (opened_by events) once.0)) in
      rw same (omega (arith, none))
  | inr other ↦ rw other (omega (arith, openings-distinct number events once.1))
]
openings-distinct number (script.Bytes conn octets ∷ events) once = omega (arith, openings-distinct number events once)
openings-distinct number (script.Ended conn ∷ events) once = omega (arith, openings-distinct number events once)

-- so of events that are played
pub openings-played : (events : List ScriptEvent) (number : ℕ) → ArePlayed events → openings number (played_steps events) ≤ 1
openings-played events number played = openings-distinct number events played.once
