-- What joining the runs of spaces of a text keeps and leaves out.
use Rattle.std.proofs.Common.{inl, inr, ◌≡◌, ◌≢◌, ℕ, Bool, cond, ◌&&◌, List, [], ◌∷◌, ◌++◌, length, refl, sym, ap, subst, ◌∙◌, ◌≤◌, arith, zero-le}
use Rattle.std.proofs.lemmas.Bool.{cases_Bool, cond-true, cond-false, and_parts, eqb-true}
use Rattle.std.specs.List.{dedup_from}
use Rattle.match_rules.specs.Spaces.{is_space, cut_front, cut_end, single_spaces}
use Rattle.match_rules.proofs.laws.CutLemmas.{Each, keep, keep-filled, cut_end-cons}
use Rattle.match_rules.proofs.spaces.SpacesLemmas.{cut_front-space, cut_front-other}

-- both octets are spaces
abbrev pub are_spaces : ℕ → ℕ → Bool
are_spaces octet before = is_space octet && is_space before

-- the octets behind an octet, joined
abbrev pub joined_from : ℕ → List ℕ → List ℕ
joined_from = dedup_from are_spaces

-- the first octet stays
pub joined_from-first : (octet : ℕ) (octets : List ℕ) → (rest : List ℕ) × (joined_from octet octets ≡ octet ∷ rest)
joined_from-first octet [] = ([], refl)
joined_from-first octet (next ∷ octets) =
    let more = joined_from-first octet octets in
    elim (cases_Bool (are_spaces next octet)) [
      | inl both ↦ (more.0, cond-true _ _ _ both ∙ more.1)
      | inr other ↦ (joined_from next octets, cond-false _ _ _ other)
    ]

pub joined_from-filled : (octet : ℕ) (octets : List ℕ) → joined_from octet octets ≢ []
joined_from-filled octet octets is = absurd (cc ((joined_from-first octet octets).1, is))

-- what is joined once stays so
joined_from-again : (octet : ℕ) (octets : List ℕ) → single_spaces (joined_from octet octets) ≡ joined_from octet octets
joined_from-again octet [] = refl
joined_from-again octet (next ∷ octets) =
    let same = joined_from-again octet octets in
    let other_same = joined_from-again next octets in
    let first = joined_from-first next octets in
    elim (cases_Bool (are_spaces next octet)) [
      | inl both ↦ subst (λ text. single_spaces text ≡ text) (sym (cond-true _ (joined_from octet octets) (octet ∷ joined_from next octets) both)) same
      | inr other ↦
          let apart : joined_from octet (joined_from next octets) ≡ octet ∷ joined_from next octets =
          ap (joined_from octet) first.1
          ∙ cond-false _ (joined_from octet first.0) (octet ∷ joined_from next first.0) other
          ∙ ap (λ text. octet ∷ text) (ap single_spaces (sym first.1) ∙ other_same) in
          subst (λ text. single_spaces text ≡ text) (sym (cond-false _ (joined_from octet octets) (octet ∷ joined_from next octets) other)) apart
    ]

pub single_spaces-again : (octets : List ℕ) → single_spaces (single_spaces octets) ≡ single_spaces octets
single_spaces-again [] = refl
single_spaces-again (octet ∷ octets) = joined_from-again octet octets

-- a space more beside a space within
joined_from-inner : (octet : ℕ) (left right : List ℕ) → joined_from octet (left ++ 0x20 ∷ 0x20 ∷ right) ≡ joined_from octet (left ++ 0x20 ∷ right)
joined_from-inner octet [] right =
    elim (cases_Bool (is_space octet)) [
      | inl space ↦
          cond-true _ (joined_from octet (0x20 ∷ right)) (octet ∷ joined_from 0x20 (0x20 ∷ right)) space
      | inr other ↦
          cond-false _ (joined_from octet (0x20 ∷ right)) (octet ∷ joined_from 0x20 (0x20 ∷ right)) other
          ∙ sym (cond-false _ (joined_from octet right) (octet ∷ joined_from 0x20 right) other)
    ]
joined_from-inner octet (next ∷ left) right =
    let skipped = joined_from-inner octet left right in
    let kept = joined_from-inner next left right in
    ap (λ text. cond (are_spaces next octet) text (octet ∷ joined_from next (left ++ 0x20 ∷ 0x20 ∷ right))) skipped
    ∙ ap (λ text. cond (are_spaces next octet) (joined_from octet (left ++ 0x20 ∷ right)) (octet ∷ text)) kept

pub single_spaces-inner : (left right : List ℕ) → single_spaces (left ++ 0x20 ∷ 0x20 ∷ right) ≡ single_spaces (left ++ 0x20 ∷ right)
single_spaces-inner [] right = refl
single_spaces-inner (octet ∷ left) right = joined_from-inner octet left right

-- what is behind the first octet of a text that is kept whole is kept whole
by_rest : (octet next : ℕ) (octets rest : List ℕ) → keep octet rest ≡ octet ∷ next ∷ octets → rest ≡ next ∷ octets
by_rest octet next octets [] is =
    elim (cases_Bool (is_space octet)) [
      | inl space ↦ absurd (cc (cond-true (is_space octet) [] (octet ∷ []) space, is))
      | inr other ↦ absurd (cc (cond-false (is_space octet) [] (octet ∷ []) other, is))
    ]
by_rest octet next octets (first ∷ rest) is = cc is

-- an end without spaces stays so
joined_from-end : (octet : ℕ) (octets : List ℕ) → cut_end (octet ∷ octets) ≡ octet ∷ octets → cut_end (joined_from octet octets) ≡ joined_from octet octets
joined_from-end octet [] is = is
joined_from-end octet (next ∷ octets) is =
    let tail = by_rest octet next octets (cut_end (next ∷ octets)) (sym (cut_end-cons octet (next ∷ octets)) ∙ is) in
    let skipped = joined_from-end octet octets in
    let kept = joined_from-end next octets tail in
    elim (cases_Bool (are_spaces next octet)) [
      | inl both ↦
          let spaces = and_parts (is_space next) (is_space octet) both in
          let same : next ≡ octet = eqb-true next 0x20 spaces.0 ∙ sym (eqb-true octet 0x20 spaces.1) in
          subst (λ text. cut_end text ≡ text) (sym (cond-true _ (joined_from octet octets) (octet ∷ joined_from next octets) both))
          (skipped (subst (λ first. cut_end (first ∷ octets) ≡ first ∷ octets) same tail))
      | inr other ↦
          let whole = cut_end-cons octet (joined_from next octets) ∙ ap (keep octet) kept ∙ keep-filled octet (joined_from next octets) (joined_from-filled next octets) in
          subst (λ text. cut_end text ≡ text) (sym (cond-false _ (joined_from octet octets) (octet ∷ joined_from next octets) other)) whole
    ]

pub single_spaces-end : (octets : List ℕ) → cut_end octets ≡ octets → cut_end (single_spaces octets) ≡ single_spaces octets
single_spaces-end [] is = refl
single_spaces-end (octet ∷ octets) is = joined_from-end octet octets is

-- what is cut is no longer than the text
length-cut_front : (octets : List ℕ) → length (cut_front octets) ≤ length octets
length-cut_front [] = zero-le
length-cut_front (octet ∷ octets) =
    let more = length-cut_front octets in
    elim (cases_Bool (is_space octet)) [
      | inl space ↦ omega (arith, more, ap length (cut_front-space octet octets space))
      | inr other ↦ omega (arith, ap length (cut_front-other octet octets other))
    ]

-- and so does a front without spaces
pub single_spaces-front : (octets : List ℕ) → cut_front octets ≡ octets → cut_front (single_spaces octets) ≡ single_spaces octets
single_spaces-front [] is = refl
single_spaces-front (octet ∷ octets) is =
    let first = joined_from-first octet octets in
    elim (cases_Bool (is_space octet)) [
      | inl space ↦ absurd (omega (arith, ap length is, ap length (cut_front-space octet octets space), length-cut_front octets))
      | inr other ↦ ap cut_front first.1 ∙ cut_front-other octet first.0 other ∙ sym first.1
    ]

-- what holds of each octet holds of those that are left
Each-joined_from : (P : ℕ → Type 0) (octet : ℕ) (octets : List ℕ) → P octet → Each P octets → Each P (joined_from octet octets)
Each-joined_from P octet [] first each = (first, tt)
Each-joined_from P octet (next ∷ octets) first each =
    let skipped = Each-joined_from P octet octets first each.1 in
    let kept = Each-joined_from P next octets each.0 each.1 in
    elim (cases_Bool (are_spaces next octet)) [
      | inl both ↦ subst (Each P) (sym (cond-true _ (joined_from octet octets) (octet ∷ joined_from next octets) both)) skipped
      | inr other ↦ subst (Each P) (sym (cond-false _ (joined_from octet octets) (octet ∷ joined_from next octets) other)) (first, kept)
    ]

pub Each-joined : (P : ℕ → Type 0) (octets : List ℕ) → Each P octets → Each P (single_spaces octets)
Each-joined P [] each = tt
Each-joined P (octet ∷ octets) each = Each-joined_from P octet octets each.0 each.1
