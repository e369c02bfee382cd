-- What cutting the spaces at both ends of a text keeps and leaves out.
use Rattle.std.proofs.Common.{if◌then◌else◌, inl, inr, ◌≡◌, ◌≢◌, ℕ, false, List, [], ◌∷◌, ◌++◌, length, reverse, refl, sym, ap, subst, ◌∙◌, arith}
use Rattle.std.proofs.lemmas.Bool.{cases_Bool, cond-true, cond-false}
use Rattle.std.proofs.lemmas.List.{reverse-append, length-reverse}
use Rattle.match_rules.specs.Spaces.{is_space, cut_front, cut_end}
use Rattle.match_rules.proofs.spaces.SpacesLemmas.{cut_front-space, cut_front-other}

-- an octet before what is left of a text: a space before nothing is cut
abbrev pub keep : ℕ → List ℕ → List ℕ
keep octet [] = if is_space octet then [] else octet ∷ []
keep octet (next ∷ octets) = octet ∷ next ∷ octets

pub keep-filled : (octet : ℕ) (octets : List ℕ) → octets ≢ [] → keep octet octets ≡ octet ∷ octets
keep-filled octet [] filled = absurd (filled refl)
keep-filled octet (next ∷ octets) filled = refl

pub keep-other : (octet : ℕ) (octets : List ℕ) → is_space octet ≡ false → keep octet octets ≡ octet ∷ octets
keep-other octet [] other = cond-false _ _ _ other
keep-other octet (next ∷ octets) other = refl

reverse-cons : (octet : ℕ) (octets : List ℕ) → reverse (octet ∷ octets) ≡ reverse octets ++ octet ∷ []
reverse-cons octet octets = reverse-append (octet ∷ []) octets

reverse-filled : (octet : ℕ) (octets : List ℕ) → reverse (octet ∷ octets) ≢ []
reverse-filled octet octets is = absurd (omega (arith, ap length is, length-reverse (octet ∷ octets)))

-- the reversed text has the octet at its end
front-snoc : (octet : ℕ) (octets : List ℕ) → reverse (cut_front (octets ++ octet ∷ [])) ≡ keep octet (reverse (cut_front octets))
front-snoc octet [] =
    elim (cases_Bool (is_space octet)) [
      | inl is ↦ ap reverse (cut_front-space octet [] is) ∙ sym (cond-true _ _ _ is)
      | inr other ↦ ap reverse (cut_front-other octet [] other) ∙ sym (cond-false _ _ _ other)
    ]
front-snoc octet (first ∷ octets) =
    let more = front-snoc octet octets in
    elim (cases_Bool (is_space first)) [
      | inl is ↦ ap reverse (cut_front-space first (octets ++ octet ∷ []) is) ∙ more ∙ ap (λ text. keep octet (reverse text)) (sym (cut_front-space first octets is))
      | inr other ↦
          ap reverse (cut_front-other first (octets ++ octet ∷ []) other)
          ∙ reverse-append (first ∷ octets) (octet ∷ [])
          ∙ sym (keep-filled octet (reverse (first ∷ octets)) (reverse-filled first octets))
          ∙ ap (λ text. keep octet (reverse text)) (sym (cut_front-other first octets other))
    ]

-- the end is cut octet by octet
pub cut_end-cons : (octet : ℕ) (octets : List ℕ) → cut_end (octet ∷ octets) ≡ keep octet (cut_end octets)
cut_end-cons octet octets = ap (λ text. reverse (cut_front text)) (reverse-cons octet octets) ∙ front-snoc octet (reverse octets)

-- a space at the end more is cut
pub cut_end-snoc : (octets : List ℕ) → cut_end (octets ++ 0x20 ∷ []) ≡ cut_end octets
cut_end-snoc [] = refl
cut_end-snoc (octet ∷ octets) = cut_end-cons octet (octets ++ 0x20 ∷ []) ∙ ap (keep octet) (cut_end-snoc octets) ∙ sym (cut_end-cons octet octets)

-- what is cut once stays so
pub cut_end-cut : (octets : List ℕ) → cut_end (cut_end octets) ≡ cut_end octets
cut_end-cut [] = refl
cut_end-cut (octet ∷ octets) =
    ap cut_end (cut_end-cons octet octets) ∙ again octet (cut_end octets) (cut_end-cut octets) ∙ sym (cut_end-cons octet octets)
  where
    again : (octet : ℕ) (text : List ℕ) → cut_end text ≡ text → cut_end (keep octet text) ≡ keep octet text
    again octet [] is =
        elim (cases_Bool (is_space octet)) [
          | inl space ↦ ap cut_end (cond-true _ _ _ space) ∙ sym (cond-true _ _ _ space)
          | inr other ↦ ap cut_end (cond-false _ _ _ other) ∙ cut_end-cons octet []
        ]
    again octet (next ∷ text) is = cut_end-cons octet (next ∷ text) ∙ ap (keep octet) is

pub cut_front-cut : (octets : List ℕ) → cut_front (cut_end (cut_front octets)) ≡ cut_end (cut_front octets)
cut_front-cut [] = refl
cut_front-cut (octet ∷ octets) =
    let more = cut_front-cut octets in
    elim (cases_Bool (is_space octet)) [
      | inl space ↦ subst (λ text. cut_front (cut_end text) ≡ cut_end text) (sym (cut_front-space octet octets space)) more
      | inr other ↦
          let kept = cut_end-cons octet octets ∙ keep-other octet (cut_end octets) other in
          let whole = ap cut_front kept ∙ cut_front-other octet (cut_end octets) other ∙ sym kept in
          subst (λ text. cut_front (cut_end text) ≡ cut_end text) (sym (cut_front-other octet octets other)) whole
    ]

-- what holds of each octet holds of those that are left
abbrev pub Each : (ℕ → Type 0) → List ℕ → Type 0
Each P [] = Unit {0}
Each P (octet ∷ octets) = P octet × Each P octets

pub Each-front : (P : ℕ → Type 0) (octets : List ℕ) → Each P octets → Each P (cut_front octets)
Each-front P [] each = tt
Each-front P (octet ∷ octets) each =
    let more = Each-front P octets each.1 in
    elim (cases_Bool (is_space octet)) [
      | inl space ↦ subst (Each P) (sym (cut_front-space octet octets space)) more
      | inr other ↦ subst (Each P) (sym (cut_front-other octet octets other)) each
    ]

Each-keep : (P : ℕ → Type 0) (octet : ℕ) (octets : List ℕ) → P octet → Each P octets → Each P (keep octet octets)
Each-keep P octet [] first each =
    elim (cases_Bool (is_space octet)) [
      | inl space ↦ subst (Each P) (sym (cond-true _ [] (octet ∷ []) space)) tt
      | inr other ↦ subst (Each P) (sym (cond-false _ [] (octet ∷ []) other)) (first, tt)
    ]
Each-keep P octet (next ∷ octets) first each = (first, each)

pub Each-end : (P : ℕ → Type 0) (octets : List ℕ) → Each P octets → Each P (cut_end octets)
Each-end P [] each = tt
Each-end P (octet ∷ octets) each =
    subst (Each P) (sym (cut_end-cons octet octets)) (Each-keep P octet (cut_end octets) each.0 (Each-end P octets each.1))

-- an end that is cut whole makes no difference
pub cut_end-append_same : (left right other : List ℕ) → cut_end right ≡ cut_end other → cut_end (left ++ right) ≡ cut_end (left ++ other)
cut_end-append_same [] right other same = same
cut_end-append_same (octet ∷ left) right other same =
    cut_end-cons octet (left ++ right) ∙ ap (keep octet) (cut_end-append_same left right other same) ∙ sym (cut_end-cons octet (left ++ other))

-- and before an end that stays nothing is cut
pub cut_end-append_filled : (left right : List ℕ) → cut_end right ≢ [] → cut_end (left ++ right) ≡ left ++ cut_end right
cut_end-append_filled [] right filled = refl
cut_end-append_filled (octet ∷ left) right filled =
    cut_end-cons octet (left ++ right)
    ∙ ap (keep octet) (cut_end-append_filled left right filled)
    ∙ keep-filled octet (left ++ cut_end right) (filled_sum left (cut_end right) filled)
  where
    filled_sum : (left right : List ℕ) → right ≢ [] → left ++ right ≢ []
    filled_sum [] right filled is = filled is
    filled_sum (octet ∷ left) right filled is = absurd (cc is)
