-- A message that was heard in part, and one that can't be.
use Rattle.std.proofs.Common.{◌≡◌, ℕ, ◌+◌, ◌<◌, ◌≤◌, List, [], ◌∷◌, ◌++◌, length, refl, sym, ap, subst, ◌∙◌, inl, inr, arith}
use Rattle.std.proofs.lemmas.Bool.{cases_lt, cases_eq, lt-ltb, le-ltb, eq-eqb, ne_eqb}
use Rattle.std.proofs.lemmas.List.{append_assoc}
use Rattle.ber_elements.specs.declared.kinds.Header.TheVariants as header
use Rattle.ber_elements.specs.Heading.{header_at}
use Rattle.ldap_msg.specs.declared.kinds.Frame.TheVariants.{Whole, More, Bad}
use Rattle.ldap_msg.specs.Streams.{most_content, SpellsTooMuch, IsBrokenLength, IsBroken, IsFrame, framed, frame_at}
use Rattle.ldap_msg.proofs.Theorems.{frame_sound, frame_complete}

-- ---- a message of which a part is there

-- the content of the header is one that a message may have, and not all of it is there
framed_part : (count tag head len : ℕ) → framed count (header.Head tag head len) ≡ More → (len ≤ most_content) × (count < head + len)
unfolding framed
framed_part count tag head len e =
    elim (cases_lt most_content len) [
      | inl above ↦
          let bad : Bad ≡ More = rw (lt-ltb most_content len above) at e in
          absurd cc
      | inr fits ↦
          elim (cases_lt count (head + len)) [
            | inl short ↦ (fits, short)
            | inr there ↦
                let is : Whole (head + len) ≡ More = rw (le-ltb most_content len fits, le-ltb count (head + len) there) at e in
                absurd cc
          ]
    ]

-- the front of a message with its header
pub record IsOpened (s : List ℕ) (head len : ℕ) : Type 0 where
  pub behind : List ℕ
  pub opens : s ≡ 48 ∷ behind
  pub fits : len ≤ most_content
  pub short : length s < head + len

pub part_opened : (s : List ℕ) (tag head len : ℕ) → frame_at s ≡ More → header_at s ≡ header.Head tag head len → IsOpened s head len
unfolding frame_at header_at
part_opened [] tag head len e heading = absurd cc
part_opened (first ∷ octets) tag head len e heading =
    elim (cases_eq first 48) [
      | inl is ↦
          let of_header : framed (length (first ∷ octets)) (header_at (first ∷ octets)) ≡ More = rw (eq-eqb first 48 is) at e in
          let known : framed (length (first ∷ octets)) (header.Head tag head len) ≡ More = sym (ap (framed (length (first ∷ octets))) heading) ∙ of_header in
          let part = framed_part (length (first ∷ octets)) tag head len known in
          record { behind = octets; opens = ap (λ (b : ℕ). b ∷ octets) is; fits = part.0; short = part.1 }
      | inr other ↦
          let bad : Bad ≡ More = rw (ne_eqb first 48 other) at e in
          absurd cc
    ]

-- behind the tag of a message the header says what stands there
framed_by : (s behind : List ℕ) (tag head len : ℕ) → s ≡ 48 ∷ behind → header_at s ≡ header.Head tag head len
    → frame_at s ≡ framed (length s) (header.Head tag head len)
unfolding frame_at
framed_by s behind tag head len opens heading =
    let at : frame_at (48 ∷ behind) ≡ framed (length s) (header.Head tag head len) =
    subst (λ (t : List ℕ). framed (length t) (header_at t) ≡ framed (length s) (header.Head tag head len)) opens (ap (framed (length s)) heading) in
    ap frame_at opens ∙ at

framed_short : (count tag head len : ℕ) → len ≤ most_content → count < head + len → framed count (header.Head tag head len) ≡ More
unfolding framed
framed_short count tag head len fits short = rw (le-ltb most_content len fits, lt-ltb count (head + len) short) refl

framed_there : (count tag head len : ℕ) → len ≤ most_content → head + len ≤ count → framed count (header.Head tag head len) ≡ Whole (head + len)
unfolding framed
framed_there count tag head len fits there = rw (le-ltb most_content len fits, le-ltb count (head + len) there) refl

-- the part goes on, and is still one
pub still_part : (s behind : List ℕ) (tag head len : ℕ) → s ≡ 48 ∷ behind → header_at s ≡ header.Head tag head len → len ≤ most_content
    → length s < head + len → frame_at s ≡ More
still_part s behind tag head len opens heading fits short = framed_by s behind tag head len opens heading ∙ framed_short (length s) tag head len fits short

-- the part goes on, and is whole
pub now_whole : (s behind : List ℕ) (tag head len : ℕ) → s ≡ 48 ∷ behind → header_at s ≡ header.Head tag head len → len ≤ most_content
    → length s ≡ head + len → frame_at s ≡ Whole (length s)
now_whole s behind tag head len opens heading fits size =
    framed_by s behind tag head len opens heading
    ∙ framed_there (length s) tag head len fits (omega (arith, size))
    ∙ ap (λ (n : ℕ). Whole n) (sym size)

-- a header that can't be read is no front of a message
pub unreadable_part : (s : List ℕ) → frame_at s ≡ More → header_at s ≡ header.Bad → ⊥
unfolding frame_at framed header_at
unreadable_part [] e heading = absurd cc
unreadable_part (first ∷ octets) e heading =
    elim (cases_eq first 48) [
      | inl is ↦
          let of_header : framed (length (first ∷ octets)) (header_at (first ∷ octets)) ≡ More = rw (eq-eqb first 48 is) at e in
          let known : framed (length (first ∷ octets)) header.Bad ≡ More = sym (ap (framed (length (first ∷ octets))) heading) ∙ of_header in
          absurd cc
      | inr other ↦
          let bad : Bad ≡ More = rw (ne_eqb first 48 other) at e in
          absurd cc
    ]

-- ---- octets that begin no message

too_much_again : (octets p : List ℕ) → SpellsTooMuch octets → SpellsTooMuch (octets ++ p)
too_much_again octets p t = record {
  spelled = t.spelled;
  after = t.after ++ p;
  len = t.len;
  joins = ap (λ (s : List ℕ). s ++ p) t.joins ∙ append_assoc t.spelled t.after p;
  spells = t.spells;
  above = t.above;
}

length_again : (octets p : List ℕ) → IsBrokenLength octets → IsBrokenLength (octets ++ p)
length_again [] p broken = absurd broken
length_again (octet ∷ octets) p broken = elim broken [ inl first ↦ inl first | inr much ↦ inr (too_much_again (octet ∷ octets) p much) ]

broken_again : (s p : List ℕ) → IsBroken s → IsBroken (s ++ p)
broken_again [] p broken = absurd broken
broken_again (tag ∷ octets) p broken = elim broken [ inl other ↦ inl other | inr long ↦ inr (length_again octets p long) ]

-- they stay so, whatever follows
pub bad_again : (s p : List ℕ) → frame_at s ≡ Bad → frame_at (s ++ p) ≡ Bad
bad_again s p e =
    let broken : IsBroken s = subst (IsFrame s) e (frame_sound s) in
    sym (frame_complete (s ++ p) Bad (broken_again s p broken))
