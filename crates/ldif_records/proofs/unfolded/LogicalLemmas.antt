-- Lemmas on lines with their continuations.
use Rattle.std.proofs.Common.{◌≡◌, ℕ, ◌∙◌, sym, ap, refl, true, false, List, [], ◌∷◌, ◌++◌, drop, if◌then◌else◌}
use Rattle.std.proofs.lemmas.List.{append-nil, append_assoc}
use Rattle.ldif_records.specs.declared.types.Position.{Position}
use Rattle.ldif_records.specs.lines.Lines.{Line, is_continuation, continued, beginning, logical}
use Rattle.ldif_records.specs.lines.Places.{physical_from, logical_from}
use Rattle.ldif_records.specs.reading.Steps.{goes_on}
use Rattle.dir_tree.proofs.base_laws_proofs.Theorems.{choose, other_choice}

-- where the first line is no continuation, there is none at the front
pub continued-none : (lines : List Line) → goes_on lines ≡ false → continued lines ≡ []
unfolding continued
continued-none [] none = refl
continued-none (line ∷ rest) none = other_choice (is_continuation line) _ [] none

pub beginning-none : (lines : List Line) → goes_on lines ≡ false → beginning lines ≡ logical lines
unfolding beginning logical
beginning-none [] none = refl
beginning-none (line ∷ rest) none = other_choice (is_continuation line) (beginning rest) _ none

-- a continuation at the front
pub continued-more : (line : Line) (rest : List Line) → is_continuation line ≡ true → continued (line ∷ rest) ≡ drop 1 line.octets ++ continued rest
unfolding continued
continued-more line rest more = choose (is_continuation line) _ [] more

pub beginning-more : (line : Line) (rest : List Line) → is_continuation line ≡ true → beginning (line ∷ rest) ≡ beginning rest
unfolding beginning
beginning-more line rest more = choose (is_continuation line) (beginning rest) _ more

-- the first line with continuations of which all were read
pub logical-joined : (text : List ℕ) (at after end : Position) (line : Line) (octets : List ℕ) → physical_from text at ≡ line ∷ physical_from text after
    → octets ≡ line.octets ++ continued (physical_from text after) → beginning (physical_from text after) ≡ logical_from text end
    → logical_from text at ≡ record { number = line.number; octets = octets } ∷ logical_from text end
unfolding logical_from logical
logical-joined text at after end line octets first joined rest =
    ap logical first
    ∙ ap (λ found. record { number = line.number; octets = found } ∷ beginning (physical_from text after)) (sym joined)
    ∙ ap (λ lines. record { number = line.number; octets = octets } ∷ lines) rest

-- the first line that has none
pub logical-alone : (text : List ℕ) (at after : Position) (line : Line) → physical_from text at ≡ line ∷ physical_from text after → goes_on (physical_from text after) ≡ false
    → logical_from text at ≡ line ∷ logical_from text after
unfolding logical_from
logical-alone text at after line first none =
    logical-joined text at after after line line.octets first
    (sym (append-nil line.octets) ∙ ap (λ more. line.octets ++ more) (sym (continued-none (physical_from text after) none)))
    (beginning-none (physical_from text after) none)

-- one continuation more was joined
pub continued-step : (front whole : List ℕ) (lines : List Line) (line : Line) (rest : List Line) → lines ≡ line ∷ rest → goes_on lines ≡ true
    → front ++ continued lines ≡ whole → (front ++ drop 1 line.octets) ++ continued rest ≡ whole
continued-step front whole lines line rest first more was =
    append_assoc front (drop 1 line.octets) (continued rest)
    ∙ ap (λ found. front ++ found) (sym (continued-more line rest (ap goes_on (sym first) ∙ more)) ∙ ap continued (sym first))
    ∙ was

pub beginning-step : (lines : List Line) (line : Line) (rest : List Line) → lines ≡ line ∷ rest → goes_on lines ≡ true → beginning lines ≡ beginning rest
beginning-step lines line rest first more = ap beginning first ∙ beginning-more line rest (ap goes_on (sym first) ∙ more)
