-- The test of parts by cuts says that the key has the parts.
use Rattle.std.proofs.Common.{◌≡◌, ◌↔◌, ℕ, Bool, true, false, List, [], ◌∷◌, ◌++◌, refl, sym, ap, ◌∙◌, inl, inr, subst}
use Rattle.std.proofs.lemmas.Bool.{false≢true, and_parts, and_from, or_right, or_left, or_cases}
use Rattle.std.proofs.lemmas.Slice.Eq.{bytes_eq-Decides}
use Rattle.std.specs.List.{list_any}
use Rattle.dir_tree.proofs.base_laws_proofs.Theorems.{list_any-map}
use Rattle.dir_tree.specs.match_rules.substrings.Substrings.{InOrder, IsSubstring}
use Rattle.filter_match.specs.Substrings.{Cut, cuts, begins_with, are_in_order, ends_with, is_substring}

-- one octet more at the front of a cut
abbrev further : ℕ → Cut → Cut
further octet cut = record { front = octet ∷ cut.front; rest = cut.rest }

-- a cut that passes is a cut of the text
cut_found : (test : Cut → Bool) (text : List ℕ) → list_any test (cuts text) ≡ true
    → (cut : Cut) × (text ≡ cut.front ++ cut.rest) × (test cut ≡ true)
cut_found test [] found =
    elim (or_cases (test (record { front = []; rest = [] })) false found) [
      | inl here ↦ (record { front = []; rest = [] }, refl, here)
      | inr never ↦ absurd (false≢true never)
    ]
cut_found test (octet ∷ octets) found =
    elim (or_cases (test (record { front = []; rest = octet ∷ octets })) _ found) [
      | inl here ↦ (record { front = []; rest = octet ∷ octets }, refl, here)
      | inr later ↦
          let further_on = cut_found (λ cut. test (further octet cut)) octets (sym (list_any-map (further octet) test (cuts octets)) ∙ later) in
          (further octet further_on.0, ap (λ rest. octet ∷ rest) further_on.1, further_on.2)
    ]

-- each cut of a text is among its cuts
cut_finds : (test : Cut → Bool) (front rest : List ℕ) → test (record { front = front; rest = rest }) ≡ true
    → list_any test (cuts (front ++ rest)) ≡ true
cut_finds test [] [] holds = or_left (test (record { front = []; rest = [] })) false holds
cut_finds test [] (octet ∷ octets) holds = or_left (test (record { front = []; rest = octet ∷ octets })) _ holds
cut_finds test (octet ∷ front) rest holds =
    or_right (test (record { front = []; rest = octet ∷ (front ++ rest) })) _
    (list_any-map (further octet) test (cuts (front ++ rest)) ∙ cut_finds (λ cut. test (further octet cut)) front rest holds)

-- ---- a text that begins with octets

begins_found : (octets : List ℕ) (test : List ℕ → Bool) (text : List ℕ) → begins_with octets test text ≡ true
    → (rest : List ℕ) × (text ≡ octets ++ rest) × (test rest ≡ true)
begins_found octets test text found =
    let cut = cut_found _ text found in
    let parts = and_parts _ _ cut.2 in
    let same : octets ≡ cut.0.front = (bytes_eq-Decides octets cut.0.front).0 parts.0 in
    (cut.0.rest, cut.1 ∙ ap (λ front. front ++ cut.0.rest) (sym same), parts.1)

begins_finds : (octets : List ℕ) (test : List ℕ → Bool) (rest : List ℕ) → test rest ≡ true → begins_with octets test (octets ++ rest) ≡ true
begins_finds octets test rest holds =
    cut_finds _ octets rest (and_from _ _ ((bytes_eq-Decides octets octets).1 refl) holds)

-- ---- parts in order

order_found : (parts : List (List ℕ)) (text : List ℕ) → are_in_order parts text ≡ true → InOrder parts text
order_found [] text found = tt
order_found (part ∷ parts) text found =
    let cut = cut_found _ text found in
    let begin = begins_found part (are_in_order parts) cut.0.rest cut.2 in
    (cut.0.front, begin.0, cut.1 ∙ ap (λ rest. cut.0.front ++ rest) begin.1, order_found parts begin.0 begin.2)

order_finds : (parts : List (List ℕ)) (text : List ℕ) → InOrder parts text → are_in_order parts text ≡ true
order_finds [] text order = refl
order_finds (part ∷ parts) text order =
    let begins = begins_finds part (are_in_order parts) order.1 (order_finds parts order.1 order.3) in
    subst (λ (octets : List ℕ). are_in_order (part ∷ parts) octets ≡ true) (sym order.2) (cut_finds _ order.0 (part ++ order.1) begins)

-- ---- the last part

ends_found : (middle : List (List ℕ)) (last text : List ℕ) → ends_with middle last text ≡ true
    → (between : List ℕ) × (text ≡ between ++ last) × InOrder middle between
ends_found middle last text found =
    let cut = cut_found _ text found in
    let parts = and_parts _ _ cut.2 in
    let same : last ≡ cut.0.rest = (bytes_eq-Decides last cut.0.rest).0 parts.0 in
    (cut.0.front, cut.1 ∙ ap (λ rest. cut.0.front ++ rest) (sym same), order_found middle cut.0.front parts.1)

ends_finds : (middle : List (List ℕ)) (last between : List ℕ) → InOrder middle between → ends_with middle last (between ++ last) ≡ true
ends_finds middle last between order =
    cut_finds _ between last (and_from _ _ ((bytes_eq-Decides last last).1 refl) (order_finds middle between order))

-- ---- all parts

substring_found : (key first last : List ℕ) (middle : List (List ℕ)) → is_substring key first middle last ≡ true → IsSubstring key first middle last
unfolding is_substring
substring_found key first last middle found =
    let begin = begins_found first (ends_with middle last) key found in
    let end = ends_found middle last begin.0 begin.2 in
    (end.0, begin.1 ∙ ap (λ rest. first ++ rest) end.1, end.2)

substring_finds : (key first last : List ℕ) (middle : List (List ℕ)) → IsSubstring key first middle last → is_substring key first middle last ≡ true
unfolding is_substring
substring_finds key first last middle sub =
    let begins = begins_finds first (ends_with middle last) (sub.0 ++ last) (ends_finds middle last sub.0 sub.2) in
    subst (λ (octets : List ℕ). begins_with first (ends_with middle last) octets ≡ true) (sym sub.1) begins

pub is_substring-IsSubstring : (key first last : List ℕ) (middle : List (List ℕ)) → (is_substring key first middle last ≡ true) ↔ IsSubstring key first middle last
is_substring-IsSubstring key first last middle = (substring_found key first last middle, substring_finds key first last middle)
