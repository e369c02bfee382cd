-- What is heard of octets that were read, and what is kept of them.
use Rattle.std.specs.Prelude.{◌≡◌, ℕ, Bool, true}
use Rattle.fair_pieces.specs.Keeping.{KeptState}
use Rattle.wire_io.specs.declared.answers.Heard.{Heard}
use Rattle.wire_io.specs.declared.answers.Heard.TheVariants as heard

-- as many octets are heard as the cut gives, at least one; where it gives none nothing happened; an end comes where
-- the others can't be kept
abbrev pub HearsCut : ℕ → Heard → Type 0
HearsCut given (heard.Bytes conn count) = count ≡ given
HearsCut given heard.Idle = given ≡ 0
HearsCut given (heard.Ended conn) = Unit {0}
HearsCut given (heard.Opened conn) = ⊥
HearsCut given (heard.Ready conn) = ⊥
HearsCut given heard.Stop = ⊥

-- unless that end came, the others are kept
abbrev pub KeepsCut : KeptState → Heard → KeptState → Type 0
KeepsCut behind (heard.Bytes conn count) kept = kept ≡ behind
KeepsCut behind heard.Idle kept = kept ≡ behind
KeepsCut behind (heard.Ended conn) kept = Unit {0}
KeepsCut behind (heard.Opened conn) kept = ⊥
KeepsCut behind (heard.Ready conn) kept = ⊥
KeepsCut behind heard.Stop kept = ⊥

-- where its end is heard it has ended, and otherwise whether it has is as it was
abbrev pub EndsAsSaid : Heard → Bool → Bool → Type 0
EndsAsSaid (heard.Ended conn) old new = new ≡ true
EndsAsSaid (heard.Bytes conn count) old new = new ≡ old
EndsAsSaid heard.Idle old new = new ≡ old
EndsAsSaid (heard.Opened conn) old new = ⊥
EndsAsSaid (heard.Ready conn) old new = ⊥
EndsAsSaid heard.Stop old new = ⊥
