-- What is to be stored of a change.
use Rattle.std.proofs.Common.{◌≡◌, ℕ, Bool, true, false, List, [], ◌++◌, Result, Ok, Err, OnOk, refl, sym, ap, ◌∙◌, append-nil}
use Rattle.session_hub.specs.Outgoing.{Put}
use Rattle.session_hub.specs.Answering.{kept_changes}

-- nothing of what changes nothing
pub kept_none : (keeps : Bool) (xs : List ℕ) → xs ≡ xs ++ kept_changes keeps []
kept_none true xs = sym (append-nil xs)
kept_none false xs = sym (append-nil xs)

-- so of each answer that leaves what is to be stored
pub recorded_none : {A E : Type 0} (r : Result A E) (keeps : Bool) (xs changes : List ℕ) → changes ≡ [] → OnOk r (xs ≡ xs ++ kept_changes keeps changes)
recorded_none (Ok value) keeps xs changes none = kept_none keeps xs ∙ ap (λ ys. xs ++ kept_changes keeps ys) (sym none)
recorded_none (Err fault) keeps xs changes none = tt

-- all where changes are kept, and else nothing
pub kept_all : {A E : Type 0} (r : Result A E) (keeps : Bool) (old new changes : List ℕ) → keeps ≡ true → OnOk r (new ≡ old ++ changes) → OnOk r (new ≡ old ++ kept_changes keeps changes)
kept_all (Ok value) keeps old new changes on is = is ∙ ap (λ b. old ++ kept_changes b changes) (sym on)
kept_all (Err fault) keeps old new changes on is = tt

pub kept_off : (keeps : Bool) (old changes : List ℕ) → keeps ≡ false → old ≡ old ++ kept_changes keeps changes
kept_off keeps old changes off = sym (append-nil old) ∙ ap (λ b. old ++ kept_changes b changes) (sym off)

-- two puts of the same octets
pub put_same : (one two here there : List ℕ) → one ≡ two → here ≡ there → ◌≡◌ {A = Put} (record { replies = one; changes = here }) (record { replies = two; changes = there })
put_same one two here there e f = rw (e, f) refl
