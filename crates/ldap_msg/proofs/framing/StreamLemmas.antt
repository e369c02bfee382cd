-- The messages of a stream, one step at a time and over a stream that goes on.
use Rattle.std.proofs.Common.{◌≡◌, ℕ, ◌+◌, ◌≤◌, List, [], ◌∷◌, ◌++◌, length, refl, sym, ap, subst, ◌∙◌, inl, inr, arith}
use Rattle.std.proofs.lemmas.Bool.{cases_lt, cases_eq, lt-ltb, le-ltb, eq-eqb, ne_eqb}
use Rattle.std.proofs.lemmas.List.{length-append}
use Rattle.ber_elements.specs.declared.kinds.Header.{Header}
use Rattle.ber_elements.specs.declared.kinds.Header.TheVariants as header
use Rattle.ber_elements.specs.Heading.{IsFront, IsHeading, header_at}
use Rattle.ber_elements.proofs.Theorems.{heading_sound, header_bound, heading_again, heading_bound}
use Rattle.ldap_msg.specs.declared.kinds.Frame.{Frame}
use Rattle.ldap_msg.specs.declared.kinds.Frame.TheVariants.{Whole, More, Bad}
use Rattle.ldap_msg.specs.Streams.{most_content, framed, frame_at}

-- what a whole message at the front says of its header
pub record IsFramed (s : List ℕ) (n : ℕ) : Type 0 where
  pub tag : ℕ
  pub head : ℕ
  pub len : ℕ
  pub heading : header_at s ≡ header.Head tag head len
  pub size : n ≡ head + len
  pub fits : len ≤ most_content
  pub there : n ≤ length s

abbrev number : Frame → ℕ
number (Whole n) = n
number More = 0
number Bad = 0

framed_whole : (s : List ℕ) (h : Header) (n : ℕ) → header_at s ≡ h → framed (length s) h ≡ Whole n → IsFramed s n
unfolding framed
framed_whole s (header.Head tag head len) n heading e =
    elim (cases_lt most_content len) [
      | inl above ↦
          let bad : Bad ≡ Whole n = rw (lt-ltb most_content len above) at e in
          absurd cc
      | inr fits ↦
          elim (cases_lt (length s) (head + len)) [
            | inl short ↦
                let more : More ≡ Whole n = rw (le-ltb most_content len fits, lt-ltb (length s) (head + len) short) at e in
                absurd cc
            | inr there ↦
                let is : Whole (head + len) ≡ Whole n = rw (le-ltb most_content len fits, le-ltb (length s) (head + len) there) at e in
                let size : head + len ≡ n = ap number is in
                record { tag = tag; head = head; len = len; heading = heading; size = sym size; fits = fits; there = omega arith }
          ]
    ]
framed_whole s header.Short n heading e = absurd cc
framed_whole s header.Bad n heading e = absurd cc

-- the first octet of a message
pub record IsOpened (s : List ℕ) (n : ℕ) : Type 0 where
  pub behind : List ℕ
  pub opens : s ≡ 48 ∷ behind
  pub framing : IsFramed s n

pub frame_opened : (s : List ℕ) (n : ℕ) → frame_at s ≡ Whole n → IsOpened s n
unfolding frame_at
frame_opened [] n e = absurd cc
frame_opened (tag ∷ octets) n e =
    elim (cases_eq tag 48) [
      | inl is ↦
          let of_header : framed (length (tag ∷ octets)) (header_at (tag ∷ octets)) ≡ Whole n = rw (eq-eqb tag 48 is) at e in
          record { behind = octets; opens = ap (λ (b : ℕ). b ∷ octets) is; framing = framed_whole (tag ∷ octets) (header_at (tag ∷ octets)) n refl of_header }
      | inr other ↦
          let bad : Bad ≡ Whole n = rw (ne_eqb tag 48 other) at e in
          absurd cc
    ]

-- a header that fits and is followed by its content makes a whole message
pub framed_there : (s : List ℕ) (n : ℕ) → IsFramed s n → framed (length s) (header_at s) ≡ Whole n
unfolding framed
framed_there s n f =
    let there : f.head + f.len ≤ length s = omega (arith, f.size, f.there) in
    rw (f.heading, le-ltb most_content f.len f.fits, le-ltb (length s) (f.head + f.len) there) (ap (λ (k : ℕ). Whole k) (sym f.size))

pub frame_there : (s behind : List ℕ) (n : ℕ) → s ≡ 48 ∷ behind → IsFramed s n → frame_at s ≡ Whole n
unfolding frame_at
frame_there s behind n opens f =
    let at : frame_at (48 ∷ behind) ≡ Whole n = subst (λ (t : List ℕ). framed (length t) (header_at t) ≡ Whole n) opens (framed_there s n f) in
    ap frame_at opens ∙ at

-- a whole message at the front stays, whatever follows
pub frame_again : (s p : List ℕ) (n : ℕ) → frame_at s ≡ Whole n → frame_at (s ++ p) ≡ Whole n
frame_again s p n e =
    let o = frame_opened s n e in
    let f = o.framing in
    let grown : IsFramed (s ++ p) n = record {
      tag = f.tag;
      head = f.head;
      len = f.len;
      heading = heading_again s p f.tag f.head f.len f.heading;
      size = f.size;
      fits = f.fits;
      there = omega (arith, f.there, length-append s p);
    } in
    frame_there (s ++ p) (o.behind ++ p) n (ap (λ (t : List ℕ). t ++ p) o.opens) grown

-- a message has at least two octets, and is there
pub frame_bound : (s : List ℕ) (n : ℕ) → frame_at s ≡ Whole n → (2 ≤ n) × (n ≤ length s)
frame_bound s n e =
    let f = (frame_opened s n e).framing in
    let bound = heading_bound s f.tag f.head f.len f.heading in
    (omega (arith, bound.0, f.size), f.there)

-- less than a header is less than six octets
short_bound : (s : List ℕ) → IsFront s → length s ≤ 5
short_bound s f = let bound = header_bound (s ++ f.tail) f.tag f.len f.heads in omega (arith, bound.1, f.more, length-append s f.tail)

framed_more : (s : List ℕ) (h : Header) → header_at s ≡ h → framed (length s) h ≡ More → length s ≤ 1048581
unfolding framed
framed_more s (header.Head tag head len) heading e =
    elim (cases_lt most_content len) [
      | inl above ↦
          let bad : Bad ≡ More = rw (lt-ltb most_content len above) at e in
          absurd cc
      | inr fits ↦
          elim (cases_lt (length s) (head + len)) [
            | inl short ↦
                let bound = heading_bound s tag head len heading in
                omega (arith, bound.1)
            | inr there ↦
                let is : Whole (head + len) ≡ More = rw (le-ltb most_content len fits, le-ltb (length s) (head + len) there) at e in
                absurd cc
          ]
    ]
framed_more s header.Short heading e =
    let front : IsFront s = subst (IsHeading s) heading (heading_sound s) in
    omega (arith, short_bound s front)
framed_more s header.Bad heading e = absurd cc

-- less than a whole message is at most a header and the most content, less one octet
pub more_bound : (s : List ℕ) → frame_at s ≡ More → length s ≤ 1048581
unfolding frame_at
more_bound [] e = omega arith
more_bound (tag ∷ octets) e =
    elim (cases_eq tag 48) [
      | inl is ↦
          let of_header : framed (length (tag ∷ octets)) (header_at (tag ∷ octets)) ≡ More = rw (eq-eqb tag 48 is) at e in
          framed_more (tag ∷ octets) (header_at (tag ∷ octets)) refl of_header
      | inr other ↦
          let bad : Bad ≡ More = rw (ne_eqb tag 48 other) at e in
          absurd cc
    ]
