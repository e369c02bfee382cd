-- A space more at an end, or beside a space within, is cut or joined.
use Rattle.std.proofs.Common.{inl, inr, ◌≡◌, ℕ, List, [], ◌∷◌, ◌++◌, refl, sym, ap, ◌∙◌}
use Rattle.std.proofs.lemmas.Bool.{cases_Bool}
use Rattle.std.proofs.lemmas.List.{map-append}
use Rattle.std.specs.Char.{to_ascii_lowercase}
use Rattle.match_rules.specs.Laws.{lower_case, HasSpaceMore}
use Rattle.match_rules.specs.Spaces.{is_space, cut_front, cut_end, single_spaces, cut_and_joined}
use Rattle.match_rules.proofs.laws.CutLemmas.{keep, cut_end-cons, cut_end-snoc, cut_end-append_same, cut_end-append_filled}
use Rattle.match_rules.proofs.laws.JoinLemmas.{single_spaces-inner}
use Rattle.match_rules.proofs.spaces.SpacesLemmas.{cut_front-space, cut_front-other}

-- at the end
cut-snoc : (octets : List ℕ) → cut_end (cut_front (octets ++ 0x20 ∷ [])) ≡ cut_end (cut_front octets)
cut-snoc [] = refl
cut-snoc (octet ∷ octets) =
    let more = cut-snoc octets in
    elim (cases_Bool (is_space octet)) [
      | inl space ↦
          ap cut_end (cut_front-space octet (octets ++ 0x20 ∷ []) space) ∙ more ∙ ap cut_end (sym (cut_front-space octet octets space))
      | inr other ↦
          ap cut_end (cut_front-other octet (octets ++ 0x20 ∷ []) other) ∙ cut_end-snoc (octet ∷ octets) ∙ ap cut_end (sym (cut_front-other octet octets other))
    ]

-- within, by what is left of the text behind
inner_by : (left right rest : List ℕ) → cut_end right ≡ rest → single_spaces (cut_end (left ++ 0x20 ∷ 0x20 ∷ right)) ≡ single_spaces (cut_end (left ++ 0x20 ∷ right))
inner_by left right [] is =
    let one : cut_end (0x20 ∷ right) ≡ [] = cut_end-cons 0x20 right ∙ ap (keep 0x20) is in
    let two : cut_end (0x20 ∷ 0x20 ∷ right) ≡ [] = cut_end-cons 0x20 (0x20 ∷ right) ∙ ap (keep 0x20) one in
    ap single_spaces (cut_end-append_same left (0x20 ∷ 0x20 ∷ right) (0x20 ∷ right) (two ∙ sym one))
inner_by left right (first ∷ rest) is =
    let one : cut_end (0x20 ∷ right) ≡ 0x20 ∷ first ∷ rest = cut_end-cons 0x20 right ∙ ap (keep 0x20) is in
    let two : cut_end (0x20 ∷ 0x20 ∷ right) ≡ 0x20 ∷ 0x20 ∷ first ∷ rest = cut_end-cons 0x20 (0x20 ∷ right) ∙ ap (keep 0x20) one in
    ap single_spaces (cut_end-append_filled left (0x20 ∷ 0x20 ∷ right) (λ none. absurd (cc (two, none))) ∙ ap (λ text. left ++ text) two)
    ∙ single_spaces-inner left (first ∷ rest)
    ∙ sym (ap single_spaces (cut_end-append_filled left (0x20 ∷ right) (λ none. absurd (cc (one, none))) ∙ ap (λ text. left ++ text) one))

cut_and_joined-inner : (left right : List ℕ) → cut_and_joined (left ++ 0x20 ∷ 0x20 ∷ right) ≡ cut_and_joined (left ++ 0x20 ∷ right)
cut_and_joined-inner [] right = refl
cut_and_joined-inner (octet ∷ left) right =
    let more = cut_and_joined-inner left right in
    let two = left ++ 0x20 ∷ 0x20 ∷ right in
    let one = left ++ 0x20 ∷ right in
    elim (cases_Bool (is_space octet)) [
      | inl space ↦
          ap (λ text. single_spaces (cut_end text)) (cut_front-space octet two space)
          ∙ more
          ∙ ap (λ text. single_spaces (cut_end text)) (sym (cut_front-space octet one space))
      | inr other ↦
          ap (λ text. single_spaces (cut_end text)) (cut_front-other octet two other)
          ∙ inner_by (octet ∷ left) right (cut_end right) refl
          ∙ ap (λ text. single_spaces (cut_end text)) (sym (cut_front-other octet one other))
    ]

-- a space more changes nothing that is left
pub cut_and_joined-more : (text more : List ℕ) → HasSpaceMore text more → cut_and_joined (lower_case text) ≡ cut_and_joined (lower_case more)
cut_and_joined-more text more (inl (inl front)) = ap (λ octets. cut_and_joined (lower_case octets)) (sym front)
cut_and_joined-more text more (inl (inr end)) =
    sym (ap (λ octets. cut_and_joined (lower_case octets)) end
    ∙ ap cut_and_joined (map-append to_ascii_lowercase text (0x20 ∷ []))
    ∙ ap single_spaces (cut-snoc (lower_case text)))
cut_and_joined-more text more (inr within) =
    let left = within.0 in
    let right = within.1 in
    ap (λ octets. cut_and_joined (lower_case octets)) within.2
    ∙ ap cut_and_joined (map-append to_ascii_lowercase left (0x20 ∷ right))
    ∙ sym (cut_and_joined-inner (lower_case left) (lower_case right))
    ∙ ap cut_and_joined (sym (map-append to_ascii_lowercase left (0x20 ∷ 0x20 ∷ right)))
    ∙ ap (λ octets. cut_and_joined (lower_case octets)) (sym within.3)
