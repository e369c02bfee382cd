-- Texts of ASCII octets: what preparation makes of them.
use Rattle.std.proofs.Common.{inl, inr, ◌≡◌, ◌==◌, ℕ, true, false, cond, not, List, [], ◌∷◌, IsAscii, refl, sym, ap, ◌∙◌}
use Rattle.std.proofs.lemmas.Bool.{cases_Bool, cond-true, cond-false, and_parts, and_left, not_from_true, or_left}
use Rattle.match_rules.specs.Keys.{is_separator, without_separators, prepared_text}
use Rattle.match_rules.specs.Laws.{lower_case}
use Rattle.match_rules.specs.Spaces.{is_space, cut_front, cut_end, single_spaces, cut_and_joined}
use Rattle.match_rules.proofs.laws.CutLemmas.{Each, Each-front, Each-end, keep, keep-other, cut_end-cons, cut_end-cut, cut_front-cut}
use Rattle.match_rules.proofs.folding.FoldingLemmas.{folded_octets-ascii}
use Rattle.match_rules.proofs.laws.JoinLemmas.{are_spaces, joined_from, Each-joined, single_spaces-again, single_spaces-end, single_spaces-front}
use Rattle.match_rules.proofs.spaces.SpacesLemmas.{cut_front-space, cut_front-other}

-- an ASCII text is prepared by small letters and spaces alone
pub prepared_text-ascii : (octets : List ℕ) → IsAscii octets → prepared_text octets ≡ cut_and_joined (lower_case octets)
unfolding prepared_text
prepared_text-ascii octets ascii = ap cut_and_joined (folded_octets-ascii octets ascii)

-- what is cut and joined once stays so
pub cut_and_joined-again : (octets : List ℕ) → cut_and_joined (cut_and_joined octets) ≡ cut_and_joined octets
cut_and_joined-again octets =
    let cut = cut_end (cut_front octets) in
    let joined = single_spaces cut in
    let front = single_spaces-front cut (cut_front-cut octets) in
    let end = single_spaces-end cut (cut_end-cut (cut_front octets)) in
    ap (λ text. single_spaces (cut_end text)) front ∙ ap single_spaces end ∙ single_spaces-again cut

pub Each-cut_and_joined : (P : ℕ → Type 0) (octets : List ℕ) → Each P octets → Each P (cut_and_joined octets)
Each-cut_and_joined P octets each = Each-joined P _ (Each-end P (cut_front octets) (Each-front P octets each))

-- spaces that are separators go in any case
drop-space : (octet : ℕ) (octets : List ℕ) → is_space octet ≡ true → without_separators (octet ∷ octets) ≡ without_separators octets
drop-space octet octets space = cond-false _ _ _ (not_from_true _ (or_left (is_space octet) (octet == 0x2D) space))

without_separators-front : (octets : List ℕ) → without_separators (cut_front octets) ≡ without_separators octets
without_separators-front [] = refl
without_separators-front (octet ∷ octets) =
    let more = without_separators-front octets in
    elim (cases_Bool (is_space octet)) [
      | inl space ↦ ap without_separators (cut_front-space octet octets space) ∙ more ∙ sym (drop-space octet octets space)
      | inr other ↦ ap without_separators (cut_front-other octet octets other)
    ]

without_separators-keep : (octet : ℕ) (octets : List ℕ) → without_separators (keep octet octets) ≡ without_separators (octet ∷ octets)
without_separators-keep octet [] =
    elim (cases_Bool (is_space octet)) [
      | inl space ↦ ap without_separators (cond-true (is_space octet) [] (octet ∷ []) space) ∙ sym (drop-space octet [] space)
      | inr other ↦ ap without_separators (cond-false (is_space octet) [] (octet ∷ []) other)
    ]
without_separators-keep octet (next ∷ octets) = refl

-- the same octet before texts that have the same octets
without_separators-cons : (octet : ℕ) (left right : List ℕ) → without_separators left ≡ without_separators right → without_separators (octet ∷ left) ≡ without_separators (octet ∷ right)
without_separators-cons octet left right same = ap (λ text. cond (not (is_separator octet)) (octet ∷ text) text) same

without_separators-end : (octets : List ℕ) → without_separators (cut_end octets) ≡ without_separators octets
without_separators-end [] = refl
without_separators-end (octet ∷ octets) =
    ap without_separators (cut_end-cons octet octets)
    ∙ without_separators-keep octet (cut_end octets)
    ∙ without_separators-cons octet (cut_end octets) octets (without_separators-end octets)

without_separators-joined_from : (octet : ℕ) (octets : List ℕ) → without_separators (joined_from octet octets) ≡ without_separators (octet ∷ octets)
without_separators-joined_from octet [] = refl
without_separators-joined_from octet (next ∷ octets) =
    let skipped = without_separators-joined_from octet octets in
    let kept = without_separators-joined_from next octets in
    elim (cases_Bool (are_spaces next octet)) [
      | inl both ↦
          let spaces = and_parts (is_space next) (is_space octet) both in
          ap without_separators (cond-true _ (joined_from octet octets) (octet ∷ joined_from next octets) both)
          ∙ skipped
          ∙ without_separators-cons octet octets (next ∷ octets) (sym (drop-space next octets spaces.0))
      | inr other ↦
          ap without_separators (cond-false _ (joined_from octet octets) (octet ∷ joined_from next octets) other)
          ∙ without_separators-cons octet (joined_from next octets) (next ∷ octets) kept
    ]

without_separators-joined : (octets : List ℕ) → without_separators (single_spaces octets) ≡ without_separators octets
without_separators-joined [] = refl
without_separators-joined (octet ∷ octets) = without_separators-joined_from octet octets

-- so cutting and joining are nothing to a telephone number
pub without_separators-cut_and_joined : (octets : List ℕ) → without_separators (cut_and_joined octets) ≡ without_separators octets
without_separators-cut_and_joined octets =
    without_separators-joined (cut_end (cut_front octets)) ∙ without_separators-end (cut_front octets) ∙ without_separators-front octets

-- texts without spaces
abbrev pub NoSpace : List ℕ → Type 0
NoSpace = Each (λ octet. is_space octet ≡ false)

pub cut_front-plain : (octets : List ℕ) → NoSpace octets → cut_front octets ≡ octets
cut_front-plain [] none = refl
cut_front-plain (octet ∷ octets) none = cut_front-other octet octets none.0

pub cut_end-plain : (octets : List ℕ) → NoSpace octets → cut_end octets ≡ octets
cut_end-plain [] none = refl
cut_end-plain (octet ∷ octets) none =
    cut_end-cons octet octets ∙ keep-other octet (cut_end octets) none.0 ∙ ap (λ text. octet ∷ text) (cut_end-plain octets none.1)

joined_from-plain : (octet : ℕ) (octets : List ℕ) → NoSpace octets → joined_from octet octets ≡ octet ∷ octets
joined_from-plain octet [] none = refl
joined_from-plain octet (next ∷ octets) none =
    cond-false _ (joined_from octet octets) (octet ∷ joined_from next octets) (and_left (is_space next) (is_space octet) none.0)
    ∙ ap (λ text. octet ∷ text) (joined_from-plain next octets none.1)

single_spaces-plain : (octets : List ℕ) → NoSpace octets → single_spaces octets ≡ octets
single_spaces-plain [] none = refl
single_spaces-plain (octet ∷ octets) none = joined_from-plain octet octets none.1

pub cut_and_joined-plain : (octets : List ℕ) → NoSpace octets → cut_and_joined octets ≡ octets
cut_and_joined-plain octets none =
    ap (λ text. single_spaces (cut_end text)) (cut_front-plain octets none)
    ∙ ap single_spaces (cut_end-plain octets none)
    ∙ single_spaces-plain octets none
