-- Finite machines that read octets one by one, and when one is the machine of a grammar.
use Rattle.std.specs.Prelude.{◌≡◌, ℕ, ◌+◌, suc, Bool, List, [], ◌∷◌, Option, Some, None, if◌then◌else◌}
use Rattle.regular_text.specs.Grammar.{Grammar}
use Rattle.regular_text.specs.Grammar.Grammar.{Never}
use Rattle.regular_text.specs.Derivative.{after, has_empty}

-- an octet's class; the state after an octet of a class, if one may follow; whether the text may end
pub record Machine (K M : Type 0) : Type 0 where
  pub class : ℕ → K
  pub step : M → K → Option M
  pub ends : M → Bool

-- the first answer where there is no next state, else the second at that state
abbrev pub by_step : {M A : Type 0} → Option M → A → (M → A) → A
by_step None stop go = stop
by_step (Some mode) stop go = go mode

-- the grammar of a next state, or Never
abbrev pub grammar_at : {K M : Type 0} → (M → Grammar K) → Option M → Grammar K
grammar_at grammar_of None = Never
grammar_at grammar_of (Some mode) = grammar_of mode

-- where reading stops, counted from place: None at the end of a text that may end there
abbrev pub fault_at : {K M : Type 0} → Machine K M → ℕ → List ℕ → M → Option ℕ
fault_at machine place [] mode = if machine.ends mode then None else Some place
fault_at machine place (octet ∷ octets) mode =
    by_step (machine.step mode (machine.class octet)) (Some place) (λ next. fault_at machine (place + 1) octets next)

-- how many octets are read before none may follow
abbrev pub reach : {K M : Type 0} → Machine K M → List ℕ → M → ℕ
reach machine [] mode = 0
reach machine (octet ∷ octets) mode =
    by_step (machine.step mode (machine.class octet)) 0 (λ next. suc (reach machine octets next))

-- the longer of two fronts, the second of which is one octet longer than said, if it is there
abbrev pub longer : Bool → Option ℕ → Option ℕ
longer ends (Some count) = Some (suc count)
longer ends None = if ends then Some 0 else None

-- the length of the longest front that may end, if there is one
abbrev pub front : {K M : Type 0} → Machine K M → List ℕ → M → Option ℕ
front machine [] mode = longer (machine.ends mode) None
front machine (octet ∷ octets) mode =
    longer (machine.ends mode) (by_step (machine.step mode (machine.class octet)) None (λ next. front machine octets next))

-- each state's grammar has the steps of the machine, ends where it may, and has some text
pub record IsMachineOf {K M : Type 0} (machine : Machine K M) (grammar_of : M → Grammar K) : Type 0 where
  pub same : (mode : M) (class : K) → after class (grammar_of mode) ≡ grammar_at grammar_of (machine.step mode class)
  pub empty : (mode : M) → has_empty (grammar_of mode) ≡ machine.ends mode
  pub finish : M → List ℕ
  pub finishes : (mode : M) → fault_at machine 0 (finish mode) mode ≡ None
