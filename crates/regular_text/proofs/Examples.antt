-- A grammar of any number of `a` and then one other octet, its machine, and what they say of three texts.
use Rattle.std.proofs.Common.{◌≡◌, ℕ, Bool, true, false, List, [], ◌∷◌, Option, Some, None, refl}
use Rattle.std.specs.Prelude.{not, ◌==◌}
use Rattle.regular_text.specs.Grammar.{Grammar}
use Rattle.regular_text.specs.Grammar.Grammar.{Nothing, One, Then, Many}
use Rattle.regular_text.specs.Derivative.{after, has_empty}
use Rattle.regular_text.specs.Machine.{Machine, grammar_at, fault_at, front, IsMachineOf}

-- the state is whether the last octet has come
abbrev step : Bool → Bool → Option Bool
step false true = Some false
step false false = Some true
step true k = None

abbrev machine : Machine Bool Bool
machine = record { class = λ x. x == 97; step = step; ends = λ mode. mode }

abbrev grammar_of : Bool → Grammar Bool
grammar_of false = Then (Many (One (λ k. k))) (One not)
grammar_of true = Nothing

same : (mode k : Bool) → after k (grammar_of mode) ≡ grammar_at grammar_of (step mode k)
same false true = refl
same false false = refl
same true true = refl
same true false = refl

empty : (mode : Bool) → has_empty (grammar_of mode) ≡ mode
empty false = refl
empty true = refl

finish : Bool → List ℕ
finish false = 98 ∷ []
finish true = []

finishes : (mode : Bool) → fault_at machine 0 (finish mode) mode ≡ None
unfolding finish
finishes false = refl
finishes true = refl

of_grammar : IsMachineOf machine grammar_of
of_grammar = record { same = same; empty = empty; finish = finish; finishes = finishes }

-- `aab` is a text of it
whole : fault_at machine 0 (97 ∷ 97 ∷ 98 ∷ []) false ≡ None
whole = refl

-- `aa` wants more at its end
short : fault_at machine 0 (97 ∷ 97 ∷ []) false ≡ Some 2
short = refl

-- `aba` leaves it at the third octet, and its longest front in the grammar is `ab`
long : fault_at machine 0 (97 ∷ 98 ∷ 97 ∷ []) false ≡ Some 2
long = refl

fronts : front machine (97 ∷ 98 ∷ 97 ∷ []) false ≡ Some 2
fronts = refl

none : front machine (97 ∷ 97 ∷ []) false ≡ None
none = refl
