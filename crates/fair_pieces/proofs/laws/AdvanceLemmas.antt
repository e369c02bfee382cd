-- Where nothing is given, the front of a header stands there.
use Rattle.std.proofs.Common.{◌≡◌, ℕ, ◌+◌, ◌<◌, ◌≤◌, false, List, ◌++◌, length, take, drop, refl, sym, ap, subst, ◌∙◌, inl, inr, arith}
use Rattle.std.specs.Prelude.{◌==◌}
use Rattle.std.proofs.lemmas.Bool.{cases_lt, cases_Bool, cases_eq, ne_eqb}
use Rattle.std.proofs.lemmas.List.{length-append}
use Rattle.ber_elements.specs.declared.kinds.Header.{Header}
use Rattle.ber_elements.specs.declared.kinds.Header.TheVariants as header
use Rattle.ber_elements.specs.Heading.{IsFront, IsHeading, header_at}
use Rattle.ber_elements.proofs.Theorems.{heading_sound, header_bound}
use Rattle.ldap_msg.specs.declared.kinds.Frame.{Frame}
use Rattle.ldap_msg.specs.declared.kinds.Frame.TheVariants.{Whole, More, Bad}
use Rattle.ldap_msg.specs.Streams.{frame_at}
use Rattle.ldap_msg.proofs.Theorems.{frame_bound}
use Rattle.fair_pieces.specs.declared.cuts.Cut.{Cut}
use Rattle.fair_pieces.specs.Wide.{is_wide}
use Rattle.fair_pieces.specs.Cuts.{front_of, part_cut, fresh_cut, rest_cut, cut_at}
use Rattle.fair_pieces.specs.Laws.{IsFrontOfHeader}
use Rattle.fair_pieces.proofs.cuts.FrontLemmas.{front_step}
use Rattle.fair_pieces.proofs.laws.FairLemmas.{cut_fresh, cut_rest}

-- the front of a header has at most five octets
short_bound : (s : List ℕ) → header_at s ≡ header.Short → length s ≤ 5
short_bound s e =
    let f : IsFront s = subst (IsHeading s) e (heading_sound s) in
    let bound = header_bound (s ++ f.tail) f.tag f.len f.heads in
    omega (arith, bound.1, f.more, length-append s f.tail)

part_advances : (s : List ℕ) (h : Header) → header_at s ≡ h → (part_cut s h).given ≡ 0 → 0 < length s → (header_at s ≡ header.Short) × (length s ≤ 5)
part_advances s (header.Head tag head len) heading e some = absurd (omega (arith, e, some))
part_advances s header.Short heading e some = (heading, short_bound s heading)
part_advances s header.Bad heading e some = absurd (omega (arith, e, some))

whole_advances : (s : List ℕ) (n : ℕ) → frame_at s ≡ Whole n → 0 < front_of s
whole_advances s n e =
    let bound = frame_bound s n e in
    elim (cases_Bool (is_wide (take n s))) [
      | inl wide ↦ let all : front_of s ≡ n = rw wide at (front_step s n e) in omega (arith, all, bound.0)
      | inr narrow ↦ let all : front_of s ≡ n + front_of (drop n s) = rw narrow at (front_step s n e) in omega (arith, all, bound.0)
    ]

fresh_advances : (s : List ℕ) (fr : Frame) → frame_at s ≡ fr → (fresh_cut s fr).given ≡ 0 → 0 < length s → (header_at s ≡ header.Short) × (length s ≤ 5)
fresh_advances s (Whole n) is e some = absurd (omega (arith, whole_advances s n is, e))
fresh_advances s More is e some = part_advances s (header_at s) refl e some
fresh_advances s Bad is e some = absurd (omega (arith, e, some))

pub advances : (left : ℕ) (s : List ℕ) → (cut_at left s).given ≡ 0 → 0 < length s → IsFrontOfHeader left s
advances left s e some =
    elim (cases_lt 0 left) [
      | inl more ↦
          let none : (rest_cut left s).given ≡ 0 = sym (ap (λ (c : Cut). c.given) (cut_rest left s more)) ∙ e in
          absurd (omega (arith, none, more, some))
      | inr nothing ↦
          let zero_left : left ≡ 0 = omega (arith, nothing) in
          let at_zero : (cut_at 0 s).given ≡ 0 = subst (λ (l : ℕ). (cut_at l s).given ≡ 0) zero_left e in
          let none : (fresh_cut s (frame_at s)).given ≡ 0 = sym (ap (λ (c : Cut). c.given) (cut_fresh s)) ∙ at_zero in
          let front = fresh_advances s (frame_at s) refl none some in
          record { fresh = zero_left; heading = front.0; few = front.1 }
    ]

-- of more octets than a short header has, something is given
pub few_given : (left : ℕ) (s : List ℕ) → 5 < length s → ((cut_at left s).given == 0) ≡ false
few_given left s many =
    elim (cases_eq (cut_at left s).given 0) [
      | inl none ↦ let front = advances left s none (omega (arith, many)) in absurd (omega (arith, front.few, many))
      | inr some ↦ ne_eqb (cut_at left s).given 0 some
    ]
