-- Each place that stays in the set comes nearer to its turn with each turn of another.
use Rattle.std.proofs.Common.{◌≡◌, ◌⊎◌, inl, inr, ℕ, suc, ◌+◌, ◌-◌, ◌<◌, ◌≤◌, Bool, List, [], ◌∷◌, length, Contains, arith}
use Rattle.std.specs.List.{AllByRecursion}
use Rattle.std.proofs.lemmas.Bool.{cases_order, cases_lt}
use Rattle.mio_link.specs.Turns.{AreOut, IsFirst, HasTurn, HaveTurns, StaysIn, EachHasItsTurn}

-- fewer turns than this are before that of the place
abbrev Near : ℕ → ℕ → ℕ → ℕ → Type 0
Near most cursor place turns = ((cursor ≤ place) × (place - cursor < turns)) ⊎ ((place < cursor) × (most - cursor + place < turns))

-- a turn of a place that isn't below the cursor
nearer_ahead : (most cursor place turn turns : ℕ) (places : ℕ → Bool) → StaysIn most place places → IsFirst places cursor turn
    → (turn ≡ place) ⊎ ((turn < place) ⊎ (place < turn)) → (turn < most) ⊎ (most ≤ turn) → Near most cursor place (suc turns)
    → (turn ≡ place) ⊎ Near most (turn + 1) place turns
nearer_ahead most cursor place turn turns places stays first (inl same) bound near = inl same
nearer_ahead most cursor place turn turns places stays first order (inr beyond) near = cc (stays.1 turn beyond, first.within)
nearer_ahead most cursor place turn turns places stays first (inr (inl below)) (inl within) (inl (ahead, few)) =
    let reached : cursor ≤ turn = first.reached in
    inr (inl (omega arith, omega arith))
nearer_ahead most cursor place turn turns places stays first (inr (inl below)) (inl within) (inr (behind, few)) =
    let reached : cursor ≤ turn = first.reached in
    absurd (omega arith)
nearer_ahead most cursor place turn turns places stays first (inr (inr above)) (inl within) (inl (ahead, few)) =
    cc (stays.0, first.first place ahead above)
nearer_ahead most cursor place turn turns places stays first (inr (inr above)) (inl within) (inr (behind, few)) =
    let reached : cursor ≤ turn = first.reached in
    inr (inr (omega arith, omega arith))

-- a turn of the first place of all, where there is none from the cursor on
nearer_around : (most cursor place turn turns : ℕ) (places : ℕ → Bool) → StaysIn most place places → AreOut places cursor
    → IsFirst places 0 turn → (turn ≡ place) ⊎ ((turn < place) ⊎ (place < turn)) → Near most cursor place (suc turns)
    → (turn ≡ place) ⊎ Near most (turn + 1) place turns
nearer_around most cursor place turn turns places stays out first (inl same) near = inl same
nearer_around most cursor place turn turns places stays out first order (inl (ahead, few)) = cc (stays.0, out place ahead)
nearer_around most cursor place turn turns places stays out first (inr (inl below)) (inr (behind, few)) =
    inr (inl (omega arith, omega arith))
nearer_around most cursor place turn turns places stays out first (inr (inr above)) (inr (behind, few)) =
    cc (stays.0, first.first place (omega arith) above)

-- a turn is that of the place, or brings it nearer
nearer : (most cursor place turn turns : ℕ) (places : ℕ → Bool) → StaysIn most place places → HasTurn places cursor turn
    → Near most cursor place (suc turns) → (turn ≡ place) ⊎ Near most (turn + 1) place turns
nearer most cursor place turn turns places stays (inl first) near =
    nearer_ahead most cursor place turn turns places stays first (cases_order turn place) (cases_lt turn most) near
nearer most cursor place turn turns places stays (inr (out, first)) near =
    nearer_around most cursor place turn turns places stays out first (cases_order turn place) near

-- it is the first of a list, or one of the others
among : (turn place : ℕ) (turns : List ℕ) → (turn ≡ place) ⊎ Contains turns place → Contains (turn ∷ turns) place
among turn place turns (inl same) = (0, omega arith, same)
among turn place turns (inr (index, within, is)) = (suc index, omega arith, is)

-- the place has its turn among so many
comes : (most cursor place : ℕ) (sets : List (ℕ → Bool)) (turns : List ℕ) → HaveTurns cursor sets turns
    → AllByRecursion (StaysIn most place) sets → Near most cursor place (length sets) → Contains turns place
comes most cursor place [] [] have stay (inl (ahead, few)) = absurd (omega arith)
comes most cursor place [] [] have stay (inr (behind, few)) = absurd (omega arith)
comes most cursor place [] (turn ∷ turns) have stay near = absurd have
comes most cursor place (places ∷ sets) [] have stay near = absurd have
comes most cursor place (places ∷ sets) (turn ∷ turns) (has, have) (stays, stay) near =
    among turn place turns (elim (nearer most cursor place turn (length sets) places stays has near) [
      | inl same ↦ inl same
      | inr closer ↦ inr (comes most (turn + 1) place sets turns have stay closer)
    ])

-- at first the place is near enough
begins : (most cursor place turns : ℕ) → most ≤ turns → place < most → (cursor ≤ place) ⊎ (place < cursor) → Near most cursor place turns
begins most cursor place turns enough within (inl ahead) = inl (ahead, omega arith)
begins most cursor place turns enough within (inr behind) = inr (behind, omega arith)

pub each_has_its_turn : EachHasItsTurn
each_has_its_turn most cursor place sets turns have stay enough within =
    comes most cursor place sets turns have stay (elim (cases_lt place cursor) as (λ order. Near most cursor place (length sets)) [
      | inl behind ↦ begins most cursor place (length sets) enough within (inr behind)
      | inr ahead ↦ begins most cursor place (length sets) enough within (inl ahead)
    ])
