-- A piece for an idle connection, whose first answer has kept room.
use Rattle.std.proofs.Common.{◌≡◌, ℕ, List, set, get_or, Some, sym, ap, ◌∙◌, subst, true≢false}
use Rattle.session_model.specs.Kept.{Kept, kept_of, cut_of}
use Rattle.session_hub.specs.Parties.{Requester}
use Rattle.session_hub.specs.FirstAnswers.{HasKeptAnswer, IsIdle, IsBehindFirst, AnswersFirst}
use Rattle.session_hub.specs.hub.Hubs.{IsAt, IsShut}
use Rattle.session_hub.proofs.places.PlaceLemmas.{kept_at_is, changed_at, cut_changed}

-- a connection that isn't held, or is closing
pub first_shut : (c : ℕ) (piece : List ℕ) (ks now : List (Kept Requester)) → IsShut (kept_of c ks) → AnswersFirst c piece ks now
first_shut c piece ks now shut = λ connection there idle kept. absurd (true≢false (sym (subst IsShut there shut) ∙ idle.still))

-- and one that is open
pub first_open : (c at : ℕ) (piece : List ℕ) (ks : List (Kept Requester)) (k now : Kept Requester) → IsAt c at ks → k ≡ get_or ks at k → now.number ≡ k.number →
    (IsIdle k → HasKeptAnswer k.rest piece → IsBehindFirst now.cut) → AnswersFirst c piece ks (set ks at now)
first_open c at piece ks k now place is number hears = λ connection there idle kept.
    let found : Some k ≡ Some connection = sym (kept_at_is c at ks k place is) ∙ there in
    let same : k ≡ connection = cc in
    subst IsBehindFirst (sym (ap (cut_of c) (sym (changed_at c at (λ _. now) ks k place is)) ∙ cut_changed c at (λ _. now) ks k place is number))
    (hears (subst IsIdle (sym same) idle) (subst (λ (x : Kept Requester). HasKeptAnswer x.rest piece) (sym same) kept))
