-- What a machine of a grammar reads: exactly the grammar's texts, with the exact place of a fault.
use Rattle.std.proofs.Common.{◌≡◌, ℕ, ◌+◌, ◌≤◌, zero, suc, true, false, List, [], ◌∷◌, length, take, Option, Some, None, refl, sym, ap, subst, ◌∙◌, arith}
use Rattle.std.specs.Prelude.{if◌then◌else◌, MatchOption}
use Rattle.std.proofs.lemmas.Bool.{false≢true}
use Rattle.regular_text.specs.Grammar.{Grammar, Matches}
use Rattle.regular_text.specs.Place.{Begins, IsPlace, IsLongestFront, HasNoFront}
use Rattle.regular_text.specs.Machine.{Machine, by_step, grammar_at, fault_at, reach, longer, front, IsMachineOf}
use Rattle.regular_text.proofs.laws.GrammarLemmas.{matches-nil, has_empty-matches}
use Rattle.regular_text.proofs.laws.DerivativeLemmas.{matches-cons, matches-after}

module _ {K M : Type 0} (machine : Machine K M) (grammar_of : M → Grammar K) (of : IsMachineOf machine grammar_of) where
  -- the texts that a state reads
  abbrev Reads : M → List ℕ → Type 0
  Reads mode text = Matches machine.class (grammar_of mode) text

  cons_reads : (mode : M) (x : ℕ) (text : List ℕ) (next : M) → machine.step mode (machine.class x) ≡ Some next → Reads next text → Reads mode (x ∷ text)
  cons_reads mode x text next e m =
      matches-cons machine.class (grammar_of mode) x text
      (subst (λ (g : Grammar K). Matches machine.class g text) (sym (of.same mode (machine.class x) ∙ ap (grammar_at grammar_of) e)) m)

  reads_cons : (mode : M) (x : ℕ) (text : List ℕ) → Reads mode (x ∷ text) → Matches machine.class (grammar_at grammar_of (machine.step mode (machine.class x))) text
  reads_cons mode x text m =
      subst (λ (g : Grammar K). Matches machine.class g text) (of.same mode (machine.class x))
      (matches-after machine.class (grammar_of mode) x text m)

  reads_next : (mode : M) (x : ℕ) (text : List ℕ) (next : M) → machine.step mode (machine.class x) ≡ Some next → Reads mode (x ∷ text) → Reads next text
  reads_next mode x text next e m =
      subst (λ (s : Option M). Matches machine.class (grammar_at grammar_of s) text) e (reads_cons mode x text m)

  reads_none : (mode : M) (x : ℕ) (text : List ℕ) → machine.step mode (machine.class x) ≡ None → Reads mode (x ∷ text) → ⊥
  reads_none mode x text e m =
      subst (λ (s : Option M). Matches machine.class (grammar_at grammar_of s) text) e (reads_cons mode x text m)

  -- a text that is read to its end is in the grammar
  pub no_fault-reads : (text : List ℕ) (place : ℕ) (mode : M) → fault_at machine place text mode ≡ None → Reads mode text
  no_fault-reads [] place mode h =
      elim (machine.ends mode) as (λ b. machine.ends mode ≡ b → (if b then None else Some place) ≡ None → Reads mode []) [
        | true ↦ λ e _. matches-nil machine.class (grammar_of mode) (of.empty mode ∙ e)
        | false ↦ λ _ n. absurd cc
      ] refl h
  no_fault-reads (x ∷ xs) place mode h =
      elim (machine.step mode (machine.class x)) as (λ s. machine.step mode (machine.class x) ≡ s → by_step s (Some place) (λ next. fault_at machine (place + 1) xs next) ≡ None → Reads mode (x ∷ xs)) [
        | None ↦ λ _ n. absurd cc
        | Some next ↦ λ e n. cons_reads mode x xs next e (no_fault-reads xs (place + 1) next n)
      ] refl h

  -- a text of the grammar is read to its end
  pub reads-no_fault : (text : List ℕ) (place : ℕ) (mode : M) → Reads mode text → fault_at machine place text mode ≡ None
  reads-no_fault [] place mode m =
      rw (sym (of.empty mode) ∙ has_empty-matches machine.class (grammar_of mode) m)
  reads-no_fault (x ∷ xs) place mode m =
      elim (machine.step mode (machine.class x)) as (λ s. machine.step mode (machine.class x) ≡ s → by_step s (Some place) (λ next. fault_at machine (place + 1) xs next) ≡ None) [
        | None ↦ λ e. absurd (reads_none mode x xs e m)
        | Some next ↦ λ e. reads-no_fault xs (place + 1) next (reads_next mode x xs next e m)
      ] refl

  -- the place of a fault is how far reading reaches
  pub fault_at-reach : (text : List ℕ) (place fault : ℕ) (mode : M) → fault_at machine place text mode ≡ Some fault → fault ≡ place + reach machine text mode
  fault_at-reach [] place fault mode h =
      elim (machine.ends mode) as (λ b. (if b then None else Some place) ≡ Some fault → fault ≡ place + 0) [
        | true ↦ λ n. absurd cc
        | false ↦ λ n. (let same : place ≡ fault = cc in omega arith)
      ] h
  fault_at-reach (x ∷ xs) place fault mode h =
      elim (machine.step mode (machine.class x)) as (λ s. by_step s (Some place) (λ next. fault_at machine (place + 1) xs next) ≡ Some fault → fault ≡ place + by_step s 0 (λ next. suc (reach machine xs next))) [
        | None ↦ λ n. (let same : place ≡ fault = cc in omega arith)
        | Some next ↦ λ n. (let later = fault_at-reach xs (place + 1) fault next n in omega (arith, later))
      ] h

  finished : (mode : M) → Begins (Reads mode) []
  finished mode = (of.finish mode, no_fault-reads (of.finish mode) 0 mode (of.finishes mode))

  -- reading reaches the place where the octets leave the grammar
  pub reach-place : (text : List ℕ) (mode : M) → IsPlace (Reads mode) text (reach machine text mode)
  reach-place [] mode = record { within = omega arith; begins = finished mode; longest = λ n within _. within }
  reach-place (x ∷ xs) mode =
      elim (machine.step mode (machine.class x)) as (λ s. machine.step mode (machine.class x) ≡ s → IsPlace (Reads mode) (x ∷ xs) (by_step s 0 (λ next. suc (reach machine xs next)))) [
        | None ↦ λ e. record { within = omega arith; begins = finished mode; longest = λ n within b. none_longest n e b }
        | Some next ↦ λ e. (let later = reach-place xs next in
            record {
              within = omega (arith, later.within);
              begins = (later.begins.0, cons_reads mode x _ next e later.begins.1);
              longest = λ n within b. some_longest n next e later within b;
            })
      ] refl
    where
      none_longest : (n : ℕ) → machine.step mode (machine.class x) ≡ None → Begins (Reads mode) (take n (x ∷ xs)) → n ≤ 0
      none_longest zero e b = omega arith
      none_longest (suc n) e b = absurd (reads_none mode x _ e b.1)

      some_longest : (n : ℕ) (next : M) → machine.step mode (machine.class x) ≡ Some next → IsPlace (Reads next) xs (reach machine xs next) → n ≤ suc (length xs) → Begins (Reads mode) (take n (x ∷ xs)) → n ≤ suc (reach machine xs next)
      some_longest zero next e later within b = omega arith
      some_longest (suc n) next e later within b =
          let more = later.longest n (omega arith) (b.0, reads_next mode x _ next e b.1) in omega (arith, more)

  abbrev IsFront : M → List ℕ → Option ℕ → Type 0
  IsFront mode text found = MatchOption found (HasNoFront (Reads mode) text) (λ n. IsLongestFront (Reads mode) text n)

  -- a state that may end reads the empty front, one that may not doesn't
  ends_only : (mode : M) (text : List ℕ) → ((n : ℕ) → suc n ≤ length text → Reads mode (take (suc n) text) → ⊥) → IsFront mode text (longer (machine.ends mode) None)
  ends_only mode text none =
      elim (machine.ends mode) as (λ b. machine.ends mode ≡ b → IsFront mode text (longer b None)) [
        | true ↦ λ e. record { within = omega arith; found = matches-nil machine.class (grammar_of mode) (of.empty mode ∙ e); longest = λ n within m. at_most n within m }
        | false ↦ λ e n within m. no_front n e within m
      ] refl
    where
      at_most : (n : ℕ) → n ≤ length text → Reads mode (take n text) → n ≤ 0
      at_most zero within m = omega arith
      at_most (suc n) within m = absurd (none n within m)

      no_front : (n : ℕ) → machine.ends mode ≡ false → n ≤ length text → Reads mode (take n text) → ⊥
      no_front zero e within m = false≢true (sym e ∙ sym (of.empty mode) ∙ has_empty-matches machine.class (grammar_of mode) m)
      no_front (suc n) e within m = none n within m

  front_longer : (mode : M) (x : ℕ) (xs : List ℕ) (next : M) (size : ℕ) → machine.step mode (machine.class x) ≡ Some next → IsLongestFront (Reads next) xs size → IsLongestFront (Reads mode) (x ∷ xs) (suc size)
  front_longer mode x xs next size e later = record {
    within = omega (arith, later.within);
    found = cons_reads mode x (take size xs) next e later.found;
    longest = λ n within m. at_most n within m;
  }
    where
      at_most : (n : ℕ) → n ≤ suc (length xs) → Reads mode (take n (x ∷ xs)) → n ≤ suc size
      at_most zero within m = omega arith
      at_most (suc n) within m = let more = later.longest n (omega arith) (reads_next mode x (take n xs) next e m) in omega (arith, more)

  front_cons : (mode : M) (x : ℕ) (xs : List ℕ) (next : M) → machine.step mode (machine.class x) ≡ Some next → (found : Option ℕ) → IsFront next xs found → IsFront mode (x ∷ xs) (longer (machine.ends mode) found)
  front_cons mode x xs next e None none =
      ends_only mode (x ∷ xs) (λ n within m. none n (omega arith) (reads_next mode x (take n xs) next e m))
  front_cons mode x xs next e (Some size) later = front_longer mode x xs next size e later

  -- front is the longest front that is a text of the grammar
  pub front-longest : (text : List ℕ) (mode : M) → IsFront mode text (front machine text mode)
  front-longest [] mode = ends_only mode [] (λ n within m. absurd (omega arith))
  front-longest (x ∷ xs) mode =
      elim (machine.step mode (machine.class x)) as (λ s. machine.step mode (machine.class x) ≡ s → IsFront mode (x ∷ xs) (longer (machine.ends mode) (by_step s None (λ next. front machine xs next)))) [
        | None ↦ λ e. ends_only mode (x ∷ xs) (λ n within m. reads_none mode x (take n xs) e m)
        | Some next ↦ λ e. front_cons mode x xs next e (front machine xs next) (front-longest xs next)
      ] refl
