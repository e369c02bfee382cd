-- What crates above may cite of regular grammars and their machines.
use Rattle.std.proofs.Common.{◌≡◌, ℕ, ◌+◌, Bool, true, List, [], ◌∷◌, Some, None, subst, arith}
use Rattle.std.specs.Prelude.{◌↔◌, MatchOption}
use Rattle.std.specs.List.{AllByRecursion}
use Rattle.regular_text.specs.Grammar.{Grammar, Matches, IsWithin}
use Rattle.regular_text.specs.Derivative.{after, has_empty}
use Rattle.regular_text.specs.Place.{IsPlace, IsLongestFront, HasNoFront}
use Rattle.regular_text.specs.Machine.{Machine, fault_at, reach, front, IsMachineOf}
use Rattle.regular_text.proofs.laws.GrammarLemmas.{matches-nil, has_empty-matches}
use Rattle.regular_text.proofs.laws.WithinLemmas.{matches-all}
use Rattle.regular_text.proofs.laws.DerivativeLemmas.{matches-cons, matches-after}
use Rattle.regular_text.proofs.laws.MachineLemmas.{no_fault-reads, reads-no_fault, fault_at-reach, reach-place, front-longest}

-- a text follows an octet in the derivative exactly where both together are in the grammar
pub after-Matches : {K : Type 0} (class : ℕ → K) (grammar : Grammar K) (x : ℕ) (text : List ℕ) → Matches class (after (class x) grammar) text ↔ Matches class grammar (x ∷ text)
after-Matches class grammar x text = (matches-cons class grammar x text, matches-after class grammar x text)

-- has_empty says whether the empty text is in the grammar
pub has_empty-Matches : {K : Type 0} (class : ℕ → K) (grammar : Grammar K) → (has_empty grammar ≡ true) ↔ Matches class grammar []
has_empty-Matches class grammar = (matches-nil class grammar, has_empty-matches class grammar)

-- a machine finds no fault exactly in the texts of its grammar
pub fault_at-None : {K M : Type 0} (machine : Machine K M) (grammar_of : M → Grammar K) → IsMachineOf machine grammar_of → (text : List ℕ) (place : ℕ) (mode : M) → (fault_at machine place text mode ≡ None) ↔ Matches machine.class (grammar_of mode) text
fault_at-None machine grammar_of of text place mode =
    (no_fault-reads machine grammar_of of text place mode, reads-no_fault machine grammar_of of text place mode)

-- a fault's place is where the octets leave the grammar
pub fault_at-Some : {K M : Type 0} (machine : Machine K M) (grammar_of : M → Grammar K) → IsMachineOf machine grammar_of → (text : List ℕ) (mode : M) (place : ℕ) → fault_at machine 0 text mode ≡ Some place → IsPlace (Matches machine.class (grammar_of mode)) text place
fault_at-Some machine grammar_of of text mode place h =
    let same : reach machine text mode ≡ place = (let e = fault_at-reach machine grammar_of of text 0 place mode h in omega (arith, e)) in
    subst (λ (n : ℕ). IsPlace (Matches machine.class (grammar_of mode)) text n) same (reach-place machine grammar_of of text mode)

-- the longest front that may end is the longest that is a text of the grammar
pub front-IsLongestFront : {K M : Type 0} (machine : Machine K M) (grammar_of : M → Grammar K) → IsMachineOf machine grammar_of → (text : List ℕ) (mode : M) → MatchOption (front machine text mode) (HasNoFront (Matches machine.class (grammar_of mode)) text) (λ size. IsLongestFront (Matches machine.class (grammar_of mode)) text size)
front-IsLongestFront machine grammar_of of text mode = front-longest machine grammar_of of text mode

-- there is one such place
pub IsPlace-unique : (P : List ℕ → Type 0) (text : List ℕ) (one other : ℕ) → IsPlace P text one → IsPlace P text other → one ≡ other
IsPlace-unique P text one other a b =
    let low = b.longest one a.within a.begins in
    let high = a.longest other b.within b.begins in
    omega (arith, low, high)

-- each octet of a text of a grammar is of a class that the grammar names
pub Matches-AllByRecursion : {K : Type 0} (class : ℕ → K) (passes : K → Bool) (grammar : Grammar K) (text : List ℕ) → IsWithin passes grammar → Matches class grammar text → AllByRecursion (λ x. passes (class x) ≡ true) text
Matches-AllByRecursion class passes grammar text within m = matches-all class passes grammar text within m
