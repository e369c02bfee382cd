-- The computed frame is the one that the stream has.
use Rattle.std.proofs.Common.{◌≡◌, ℕ, zero, suc, ◌+◌, ◌<◌, List, [], ◌∷◌, ◌++◌, length, take, drop, refl, sym, ap, subst, ◌∙◌, inl, inr, arith}
use Rattle.std.proofs.lemmas.Bool.{cases_lt, cases_eq, lt-ltb, le-ltb, eq-eqb, ne_eqb}
use Rattle.std.proofs.lemmas.List.{length-append, length-take-le, take-append-drop, length-drop, append_assoc, append-nil}
use Rattle.ber_elements.specs.declared.kinds.Header.{Header}
use Rattle.ber_elements.specs.declared.kinds.Header.TheVariants as header
use Rattle.ber_elements.specs.write.Element.{SpellsLength, IsHeader, Elem}
use Rattle.ber_elements.specs.Heading.{IsUnreadable, IsHeading, header_at}
use Rattle.ber_elements.proofs.Theorems.{heading_sound, heading_begins, header_again, unreadable_again, element_again, element_there}
use Rattle.ldap_msg.specs.declared.kinds.Frame.{Frame}
use Rattle.ldap_msg.specs.declared.kinds.Frame.TheVariants.{Whole, More, Bad}
use Rattle.ldap_msg.specs.Streams.{most_content, IsOuter, SpellsTooMuch, IsBrokenLength, IsBroken, IsFrame, framed, frame_at}
use Rattle.ldap_msg.proofs.framing.StreamLemmas.{frame_opened, frame_there, frame_bound}

-- ---- whole messages

header_tag : (header rest : List ℕ) (len : ℕ) → IsHeader header 48 len → (behind : List ℕ) × (header ++ rest ≡ 48 ∷ behind)
header_tag [] rest len h = absurd h
header_tag (first ∷ octets) rest len h = (octets ++ rest, ap (λ (b : ℕ). b ∷ (octets ++ rest)) h.0)

-- an outer element is a whole message, whatever follows it
pub outer_frame : (message rest : List ℕ) → IsOuter message → frame_at (message ++ rest) ≡ Whole (length message)
outer_frame message rest outer =
    let e = outer.element in
    let size : length message ≡ length e.header + length outer.content = ap length e.joined ∙ length-append e.header outer.content in
    let opened = header_tag e.header (outer.content ++ rest) (length outer.content) e.heads in
    let opens : message ++ rest ≡ 48 ∷ opened.0 = ap (λ (s : List ℕ). s ++ rest) e.joined ∙ append_assoc e.header outer.content rest ∙ opened.1 in
    frame_there (message ++ rest) opened.0 (length message) opens (record {
      tag = 48;
      head = length e.header;
      len = length outer.content;
      heading = element_again 48 outer.content message rest e;
      size = size;
      fits = outer.fits;
      there = omega (arith, length-append message rest);
    })

-- the tag of a header that was found is the first octet
first_is : (s behind : List ℕ) (tag n len : ℕ) → s ≡ 48 ∷ behind → IsHeader (take n s) tag len → tag ≡ 48
first_is s behind tag zero len opens h = absurd h
first_is s behind tag (suc n) len opens h =
    let front : take (suc n) s ≡ 48 ∷ take n behind = ap (take (suc n)) opens in
    let heads : IsHeader (48 ∷ take n behind) tag len = subst (λ (t : List ℕ). IsHeader t tag len) front h in
    sym heads.0

-- a whole message is an outer element
pub frame_outer : (s : List ℕ) (n : ℕ) → frame_at s ≡ Whole n → IsOuter (take n s)
frame_outer s n e =
    let o = frame_opened s n e in
    let f = o.framing in
    let element = element_there s f.tag f.head f.len f.heading (omega (arith, f.size, f.there)) in
    let begins = heading_begins s f.tag f.head f.len f.heading in
    let count : length (take f.len (drop f.head s)) ≡ f.len = length-take-le f.len (drop f.head s) (omega (arith, f.size, f.there, length-drop f.head s)) in
    let tag : f.tag ≡ 48 = first_is s o.behind f.tag f.head f.len o.opens begins.heads in
    let sized : Elem f.tag (take f.len (drop f.head s)) (take n s) = subst (λ (k : ℕ). Elem f.tag (take f.len (drop f.head s)) (take k s)) (sym f.size) element in
    record {
      content = take f.len (drop f.head s);
      element = subst (λ (t : ℕ). Elem t (take f.len (drop f.head s)) (take n s)) tag sized;
      fits = omega (arith, count, f.fits);
    }

-- a whole message is one by itself
pub whole_alone : (s : List ℕ) (n : ℕ) → frame_at s ≡ Whole n → frame_at (take n s) ≡ Whole (length (take n s))
whole_alone s n e = ap frame_at (sym (append-nil (take n s))) ∙ outer_frame (take n s) [] (frame_outer s n e)

-- ---- streams that can't go on

too_much : (octets : List ℕ) (t : SpellsTooMuch octets) → header_at (48 ∷ octets) ≡ header.Head 48 (length (48 ∷ t.spelled)) t.len
too_much octets t =
    ap (λ (s : List ℕ). header_at (48 ∷ s)) t.joins ∙ header_again (48 ∷ t.spelled) t.after 48 t.len (refl, (λ h. absurd (omega arith)), t.spells)

bad_length : (octets : List ℕ) → IsBrokenLength octets → framed (length (48 ∷ octets)) (header_at (48 ∷ octets)) ≡ Bad
unfolding framed
bad_length [] broken = absurd broken
bad_length (b ∷ octets) broken =
    elim broken [
      | inl first ↦
          let unreadable : header_at (48 ∷ b ∷ octets) ≡ header.Bad = ap header_at (sym (append-nil (48 ∷ b ∷ octets))) ∙ unreadable_again (48 ∷ b ∷ octets) [] (inr first) in
          rw unreadable refl
      | inr much ↦ rw (too_much (b ∷ octets) much, lt-ltb most_content much.len much.above) refl
    ]

pub broken_frame : (s : List ℕ) → IsBroken s → frame_at s ≡ Bad
unfolding frame_at
broken_frame [] broken = absurd broken
broken_frame (tag ∷ octets) broken =
    elim (cases_eq tag 48) [
      | inl is ↦ rw (eq-eqb tag 48 is) (
          elim broken [
            | inl other ↦ absurd (other is)
            | inr length_of ↦ ap (λ (t : ℕ). framed (length (t ∷ octets)) (header_at (t ∷ octets))) is ∙ bad_length octets length_of
          ])
      | inr other ↦ rw (ne_eqb tag 48 other) refl
    ]

-- a header's length octets behind its tag
spelled_there : (octets : List ℕ) (n len : ℕ) → IsHeader (take n (48 ∷ octets)) 48 len → most_content < len → SpellsTooMuch octets
spelled_there octets zero len h above = absurd h
spelled_there octets (suc n) len h above = record {
  spelled = take n octets;
  after = drop n octets;
  len = len;
  joins = sym (take-append-drop n octets);
  spells = h.2;
  above = above;
}

no_spelling : (spelled after : List ℕ) (len : ℕ) → [] ≡ spelled ++ after → SpellsLength spelled len → ⊥
no_spelling [] after len joins spells = spells
no_spelling (b ∷ octets) after len joins spells = cc

-- an unreadable header behind the tag of a SEQUENCE
unreadable_length : (octets : List ℕ) → IsUnreadable (48 ∷ octets) → IsBrokenLength octets
unreadable_length [] h = absurd (omega arith)
unreadable_length (b ∷ octets) h = elim h [ inl full ↦ absurd (omega arith) | inr first ↦ inl first ]

nothing_spelled : SpellsTooMuch [] → ⊥
nothing_spelled t = no_spelling t.spelled t.after t.len t.joins t.spells

some_octets : (octets : List ℕ) → SpellsTooMuch octets → IsBrokenLength octets
some_octets [] t = absurd (nothing_spelled t)
some_octets (b ∷ octets) t = inr t

framed_bad : (octets : List ℕ) (h : Header) → header_at (48 ∷ octets) ≡ h → framed (length (48 ∷ octets)) h ≡ Bad → IsBrokenLength octets
unfolding framed
framed_bad octets (header.Head tag head len) heading e =
    elim (cases_lt most_content len) [
      | inl above ↦
          let begins = heading_begins (48 ∷ octets) tag head len heading in
          let tag_is : tag ≡ 48 = first_is (48 ∷ octets) octets tag head len refl begins.heads in
          some_octets octets (spelled_there octets head len (subst (λ (t : ℕ). IsHeader (take head (48 ∷ octets)) t len) tag_is begins.heads) above)
      | inr fits ↦
          elim (cases_lt (length (48 ∷ octets)) (head + len)) [
            | inl short ↦
                let more : More ≡ Bad = rw (le-ltb most_content len fits, lt-ltb (length (48 ∷ octets)) (head + len) short) at e in
                absurd cc
            | inr there ↦
                let is : Whole (head + len) ≡ Bad = rw (le-ltb most_content len fits, le-ltb (length (48 ∷ octets)) (head + len) there) at e in
                absurd cc
          ]
    ]
framed_bad octets header.Short heading e = absurd cc
framed_bad octets header.Bad heading e = unreadable_length octets (subst (IsHeading (48 ∷ octets)) heading (heading_sound (48 ∷ octets)))

pub frame_broken : (s : List ℕ) → frame_at s ≡ Bad → IsBroken s
unfolding frame_at
frame_broken [] e = absurd cc
frame_broken (tag ∷ octets) e =
    elim (cases_eq tag 48) [
      | inl is ↦
          let of_header : framed (length (tag ∷ octets)) (header_at (tag ∷ octets)) ≡ Bad = rw (eq-eqb tag 48 is) at e in
          let known : framed (length (48 ∷ octets)) (header_at (48 ∷ octets)) ≡ Bad = subst (λ (t : ℕ). framed (length (t ∷ octets)) (header_at (t ∷ octets)) ≡ Bad) is of_header in
          inr (framed_bad octets (header_at (48 ∷ octets)) refl known)
      | inr other ↦ inl other
    ]

-- ---- the frame that a stream has

frame_is : (s : List ℕ) (f : Frame) → frame_at s ≡ f → IsFrame s f
frame_is s (Whole n) e = ((frame_bound s n e).1, frame_outer s n e)
frame_is s More e = (
  (λ message after outer joins. let whole : More ≡ Whole (length message) = sym e ∙ ap frame_at joins ∙ outer_frame message after outer in cc),
  (λ broken. let bad : More ≡ Bad = sym e ∙ broken_frame s broken in cc),
)
frame_is s Bad e = frame_broken s e

-- the computed frame is the one that the stream has
pub frame_sound : (s : List ℕ) → IsFrame s (frame_at s)
frame_sound s = frame_is s (frame_at s) refl

neither : (s : List ℕ) (f : Frame) → frame_at s ≡ f → IsFrame s More → More ≡ f
neither s (Whole n) e h = absurd (h.0 (take n s) (drop n s) (frame_outer s n e) (sym (take-append-drop n s)))
neither s More e h = refl
neither s Bad e h = absurd (h.1 (frame_broken s e))

-- the frame that the stream has is the computed one
pub frame_complete : (s : List ℕ) (f : Frame) → IsFrame s f → f ≡ frame_at s
frame_complete s (Whole n) h =
    let found : frame_at s ≡ Whole (length (take n s)) = ap frame_at (sym (take-append-drop n s)) ∙ outer_frame (take n s) (drop n s) h.1 in
    sym (found ∙ ap (λ (k : ℕ). Whole k) (length-take-le n s h.0))
frame_complete s More h = neither s (frame_at s) refl h
frame_complete s Bad h = sym (broken_frame s h)
