-- The computed heading is the one that the octets have.
use Rattle.std.proofs.Common.{◌≡◌, ℕ, suc, ◌+◌, ◌-◌, ◌%◌, ◌<◌, ◌≤◌, List, [], ◌∷◌, ◌++◌, length, take, drop, replicate, refl, sym, ap, subst, ◌∙◌, inl, inr, arith}
use Rattle.std.proofs.lemmas.Bool.{cases_lt, cases_eq, lt-ltb, le-ltb, eq-eqb, ne_eqb}
use Rattle.std.proofs.lemmas.List.{length-append, length-take, length-replicate, take_at, append-nil, take-append-drop, append_assoc, length-take-le}
use Rattle.ber_elements.specs.declared.kinds.Header.{Header}
use Rattle.ber_elements.specs.declared.kinds.Header.TheVariants.{Head, Short, Bad}
use Rattle.ber_elements.specs.write.Element.{number_after, IsTag, IsHeader}
use Rattle.ber_elements.specs.Heading.{Begins, IsFront, IsUnreadable, IsHeading, length_at, header_at}

add-two : (n : ℕ) → n + 2 ≡ suc (suc n)
add-two n = omega arith

-- 0 is a tag
zero_tag : IsTag 0
zero_tag h = absurd (omega arith)

-- a long form that is all there
whole_length : (tag b : ℕ) (octets : List ℕ) → IsTag tag → 128 ≤ b → (b ≡ 128 → ⊥) → b ≤ 132 → b - 128 ≤ length octets
    → Begins (tag ∷ b ∷ octets) tag (b - 128 + 2) (number_after 0 (take (b - 128) octets))
whole_length tag b octets is_tag high other few all =
    let count : length (take (b - 128) octets) ≡ b - 128 = omega (arith, length-take (b - 128) octets) in
    record {
      within = omega arith;
      heads = rw add-two (refl, is_tag, inr (omega arith, omega arith, omega arith, refl));
    }

-- the cases of a length behind a good tag
length_sound : (tag b : ℕ) (octets : List ℕ) → IsTag tag → IsHeading (tag ∷ b ∷ octets) (length_at tag (b ∷ octets))
unfolding length_at
length_sound tag b octets is_tag =
    elim (cases_lt b 128) [
      | inl low ↦ rw (lt-ltb b 128 low) (record { within = omega arith; heads = (refl, is_tag, inl (low, refl, refl)) })
      | inr high ↦ rw (le-ltb b 128 high) (
          elim (cases_eq b 128) [
            | inl is ↦ rw (eq-eqb b 128 is) (inr (inl is))
            | inr other ↦ rw (ne_eqb b 128 other) (
                elim (cases_lt 132 b) [
                  | inl above ↦ rw (lt-ltb 132 b above) (inr (inr above))
                  | inr few ↦ rw (le-ltb 132 b few) (
                      elim (cases_lt (length octets) (b - 128)) [
                        | inl short ↦ rw (lt-ltb (length octets) (b - 128) short) (
                            let tail : List ℕ = replicate (b - 128 - length octets) 0 in
                            let count : length (octets ++ tail) ≡ b - 128 = omega (arith, length-append octets tail, length-replicate {A = ℕ} (b - 128 - length octets) 0) in
                            record {
                              tag = tag;
                              len = number_after 0 (octets ++ tail);
                              tail = tail;
                              more = omega (arith, length-replicate {A = ℕ} (b - 128 - length octets) 0);
                              heads = (refl, is_tag, inr (omega arith, omega arith, omega arith, refl));
                            })
                        | inr all ↦ rw (le-ltb (length octets) (b - 128) all) (whole_length tag b octets is_tag high other few all)
                      ])
                ])
          ])
    ]

-- the heading that is computed is the one that the octets have
pub heading_sound : (bytes : List ℕ) → IsHeading bytes (header_at bytes)
unfolding header_at length_at
heading_sound [] = record { tag = 0; len = 0; tail = 0 ∷ 0 ∷ []; more = omega arith; heads = (refl, zero_tag, inl (omega arith, refl, refl)) }
heading_sound (tag ∷ []) =
    elim (cases_eq (tag % 32) 31) [
      | inl full ↦ rw (eq-eqb (tag % 32) 31 full) full
      | inr is_tag ↦ rw (ne_eqb (tag % 32) 31 is_tag) (record { tag = tag; len = 0; tail = 0 ∷ []; more = omega arith; heads = (refl, is_tag, inl (omega arith, refl, refl)) })
    ]
heading_sound (tag ∷ b ∷ octets) =
    elim (cases_eq (tag % 32) 31) [
      | inl full ↦ rw (eq-eqb (tag % 32) 31 full) (inl full)
      | inr is_tag ↦ rw (ne_eqb (tag % 32) 31 is_tag) (length_sound tag b octets is_tag)
    ]

-- a header at the front is found, whatever follows it
pub header_again : (header rest : List ℕ) (tag len : ℕ) → IsHeader header tag len → header_at (header ++ rest) ≡ Head tag (length header) len
unfolding header_at length_at
header_again [] rest tag len h = absurd h
header_again (first ∷ []) rest tag len h = absurd h.2
header_again (first ∷ b ∷ octets) rest tag len h =
    rw (ne_eqb (first % 32) 31 (rw h.0 h.1)) (
    elim h.2 [
      | inl short ↦ rw (lt-ltb b 128 short.0, h.0, short.1, short.2) refl
      | inr long ↦
          let count : length octets ≡ b - 128 = omega arith in
          let there : b - 128 ≤ length (octets ++ rest) = omega (arith, length-append octets rest) in
          rw (le-ltb b 128 (omega arith), ne_eqb b 128 (λ is. absurd (omega arith)), le-ltb 132 b (omega arith), le-ltb (length (octets ++ rest)) (b - 128) there, take_at octets rest (b - 128) count, h.0, long.3) (ap (λ (n : ℕ). Head tag n (number_after 0 octets)) (omega arith))
    ])

-- an unreadable front stays so, whatever follows it
pub unreadable_again : (bytes rest : List ℕ) → IsUnreadable bytes → header_at (bytes ++ rest) ≡ Bad
unfolding header_at length_at
unreadable_again [] rest h = absurd h
unreadable_again (tag ∷ []) rest h = rw (eq-eqb (tag % 32) 31 h) refl
unreadable_again (tag ∷ b ∷ octets) rest h =
    elim (cases_eq (tag % 32) 31) [
      | inl full ↦ rw (eq-eqb (tag % 32) 31 full) refl
      | inr is_tag ↦ rw (ne_eqb (tag % 32) 31 is_tag) (
          elim h [
            | inl full ↦ absurd (is_tag full)
            | inr first ↦ rw (le-ltb b 128 (elim first [ inl is ↦ omega arith | inr above ↦ omega arith ]))
                (elim first [
                  | inl is ↦ rw (eq-eqb b 128 is) refl
                  | inr above ↦ rw (ne_eqb b 128 (λ is. absurd (omega arith)), lt-ltb 132 b above) refl
                ])
          ])
    ]

-- a header that is all there
pub begins_again : (bytes : List ℕ) (tag n len : ℕ) → Begins bytes tag n len → (rest : List ℕ) → header_at (bytes ++ rest) ≡ Head tag n len
begins_again bytes tag n len h rest =
    let parts : bytes ++ rest ≡ take n bytes ++ (drop n bytes ++ rest) =
    ap (λ (s : List ℕ). s ++ rest) (sym (take-append-drop n bytes)) ∙ append_assoc (take n bytes) (drop n bytes) rest in
    let found = header_again (take n bytes) (drop n bytes ++ rest) tag len h.heads in
    ap header_at parts ∙ found ∙ ap (λ (k : ℕ). Head tag k len) (length-take-le n bytes h.within)

-- the front of a header is no whole one, and not unreadable
front_is_short : (bytes : List ℕ) (front : IsFront bytes) (heading : Header) → header_at bytes ≡ heading → Short ≡ heading
front_is_short bytes front (Head tag n len) e =
    let begins : Begins bytes tag n len = subst (IsHeading bytes) e (heading_sound bytes) in
    let one = begins_again bytes tag n len begins front.tail in
    let nil : header_at ((bytes ++ front.tail) ++ []) ≡ Head front.tag (length (bytes ++ front.tail)) front.len = header_again (bytes ++ front.tail) [] front.tag front.len front.heads in
    let other : header_at (bytes ++ front.tail) ≡ Head front.tag (length (bytes ++ front.tail)) front.len = rw append-nil at nil in
    let same : Head tag n len ≡ Head front.tag (length (bytes ++ front.tail)) front.len = sym one ∙ other in
    let count : n ≡ length (bytes ++ front.tail) = cc in
    let within : n ≤ length bytes = begins.within in
    let more : 0 < length front.tail = front.more in
    absurd (omega (arith, length-append bytes front.tail))
front_is_short bytes front Short e = refl
front_is_short bytes front Bad e =
    let unreadable : IsUnreadable bytes = subst (IsHeading bytes) e (heading_sound bytes) in
    let one = unreadable_again bytes front.tail unreadable in
    let nil : header_at ((bytes ++ front.tail) ++ []) ≡ Head front.tag (length (bytes ++ front.tail)) front.len = header_again (bytes ++ front.tail) [] front.tag front.len front.heads in
    let other : header_at (bytes ++ front.tail) ≡ Head front.tag (length (bytes ++ front.tail)) front.len = rw append-nil at nil in
    absurd cc

-- the heading that the octets have is the computed one
pub heading_complete : (bytes : List ℕ) (heading : Header) → IsHeading bytes heading → heading ≡ header_at bytes
heading_complete bytes (Head tag n len) h = sym (ap header_at (sym (append-nil bytes)) ∙ begins_again bytes tag n len h [])
heading_complete bytes Short h = front_is_short bytes h (header_at bytes) refl
heading_complete bytes Bad h = sym (ap header_at (sym (append-nil bytes)) ∙ unreadable_again bytes [] h)
