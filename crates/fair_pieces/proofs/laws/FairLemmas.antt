-- With what is given at once, at most the last of the messages that are then whole is wide.
use Rattle.std.proofs.Common.{◌≡◌, ℕ, zero, suc, ◌+◌, ◌-◌, ◌<◌, ◌≤◌, false, List, [], ◌∷◌, ◌++◌, length, take, drop, refl, sym, ap, subst, ◌∙◌, inl, inr, arith}
use Rattle.std.specs.Prelude.{min}
use Rattle.std.proofs.Math.Seq.{take-add, take-append_seam, drop-append_seam, take-length, drop-length}
use Rattle.std.proofs.lemmas.Bool.{cases_lt, cases_Bool, lt-ltb}
use Rattle.std.proofs.lemmas.List.{length-append, length-take-le, take-append-drop, append_assoc}
use Rattle.ber_elements.specs.declared.kinds.Header.{Header}
use Rattle.ber_elements.specs.declared.kinds.Header.TheVariants as header
use Rattle.ber_elements.specs.Heading.{header_at}
use Rattle.ber_elements.proofs.Theorems.{heading_again, heading_begins}
use Rattle.ldap_msg.specs.declared.kinds.Frame.{Frame}
use Rattle.ldap_msg.specs.declared.kinds.Frame.TheVariants.{Whole, More, Bad}
use Rattle.ldap_msg.specs.Streams.{frame_at, whole, rest_of, joined}
use Rattle.ldap_msg.proofs.Theorems.{frame_bound, frame_again, whole_alone, whole_step, rest_step, whole_nil, rest_nil, whole_more, rest_more, whole_bad, rest_bad}
use Rattle.fair_pieces.specs.declared.cuts.Cut.{Cut}
use Rattle.fair_pieces.specs.Wide.{is_wide}
use Rattle.fair_pieces.specs.Cuts.{front_of, part_cut, fresh_cut, rest_cut, cut_at, given_of, kept_of, pieces_of, kept_behind}
use Rattle.fair_pieces.specs.Laws.{OnlyLastIsWide, IsPart, Awaits, IsFair, AreFair}
use Rattle.fair_pieces.proofs.cuts.FrontLemmas.{shorter, front_step, front_more, front_bad}
use Rattle.fair_pieces.proofs.laws.PartLemmas.{part_opened, still_part, now_whole, unreadable_part, bad_again}

-- ---- whole messages

-- a whole message is the first, and those behind it follow
one_before : (m p : List ℕ) → frame_at m ≡ Whole (length m) → whole (m ++ p) ≡ m ∷ whole p
one_before m p e =
    whole_step (m ++ p) (length m) (frame_again m p (length m) e)
    ∙ ap (λ (t : List ℕ). t ∷ whole (drop (length m) (m ++ p))) (take-append_seam m p)
    ∙ ap (λ (t : List ℕ). m ∷ whole t) (drop-append_seam m p)

rest_before : (m p : List ℕ) → frame_at m ≡ Whole (length m) → rest_of (m ++ p) ≡ rest_of p
rest_before m p e = rest_step (m ++ p) (length m) (frame_again m p (length m) e) ∙ ap rest_of (drop-append_seam m p)

-- a whole message by itself
alone : (m : List ℕ) → frame_at m ≡ Whole (length m) → whole m ≡ m ∷ []
alone m e =
    whole_step m (length m) e
    ∙ ap (λ (t : List ℕ). t ∷ whole (drop (length m) m)) (take-length m)
    ∙ ap (λ (t : List ℕ). m ∷ whole t) (drop-length m)
    ∙ ap (λ (t : List (List ℕ)). m ∷ t) whole_nil

rest_alone : (m : List ℕ) → frame_at m ≡ Whole (length m) → rest_of m ≡ []
rest_alone m e = rest_step m (length m) e ∙ ap rest_of (drop-length m) ∙ rest_nil

-- one that isn't wide may stand before others
before_fair : (m : List ℕ) (ms : List (List ℕ)) → is_wide m ≡ false → OnlyLastIsWide ms → OnlyLastIsWide (m ∷ ms)
before_fair m [] narrow h = tt
before_fair m (next ∷ ms) narrow h = (narrow, h)

-- of the messages at the front up to the first wide one, only the last is wide, and nothing follows them
record IsFairFront (s : List ℕ) : Type 0 where
  pub only_last : OnlyLastIsWide (whole (take (front_of s) s))
  pub rest : rest_of (take (front_of s) s) ≡ []

no_front : (s : List ℕ) → front_of s ≡ 0 → IsFairFront s
no_front s none =
    let nothing : take (front_of s) s ≡ [] = ap (λ (k : ℕ). take k s) none in
    record {
      only_last = subst OnlyLastIsWide (sym (ap whole nothing ∙ whole_nil)) tt;
      rest = ap rest_of nothing ∙ rest_nil;
    }

fair_front : (k : ℕ) (s : List ℕ) (fr : Frame) → frame_at s ≡ fr → length s ≤ k → IsFairFront s
fair_front zero s (Whole n) e h = let bound = frame_bound s n e in absurd (omega (arith, bound.0, bound.1))
fair_front (suc k) s (Whole n) e h =
    let is_one : frame_at (take n s) ≡ Whole (length (take n s)) = whole_alone s n e in
    elim (cases_Bool (is_wide (take n s))) [
      | inl wide ↦
          let all : front_of s ≡ n = rw wide at (front_step s n e) in
          let front : take (front_of s) s ≡ take n s = ap (λ (j : ℕ). take j s) all in
          record {
            only_last = subst OnlyLastIsWide (sym (ap whole front ∙ alone (take n s) is_one)) tt;
            rest = ap rest_of front ∙ rest_alone (take n s) is_one;
          }
      | inr narrow ↦
          let all : front_of s ≡ n + front_of (drop n s) = rw narrow at (front_step s n e) in
          let others = take (front_of (drop n s)) (drop n s) in
          let front : take (front_of s) s ≡ take n s ++ others = ap (λ (j : ℕ). take j s) all ∙ take-add n (front_of (drop n s)) s in
          let behind = fair_front k (drop n s) (frame_at (drop n s)) refl (shorter s n k e h) in
          record {
            only_last = subst OnlyLastIsWide (sym (ap whole front ∙ one_before (take n s) others is_one)) (before_fair (take n s) (whole others) narrow behind.only_last);
            rest = ap rest_of front ∙ rest_before (take n s) others is_one ∙ behind.rest;
          }
    ]
fair_front k s More e h = no_front s (front_more s e)
fair_front k s Bad e h = no_front s (front_bad s e)

-- ---- the cut by rows

pub cut_fresh : (s : List ℕ) → cut_at 0 s ≡ fresh_cut s (frame_at s)
unfolding cut_at
cut_fresh s = refl

pub cut_rest : (left : ℕ) (s : List ℕ) → 0 < left → cut_at left s ≡ rest_cut left s
unfolding cut_at
cut_rest left s some = rw (lt-ltb 0 left some) refl

-- what is given makes no message whole, and is what is now heard in part
quiet : (heard s given : List ℕ) (left : ℕ) → given ≡ s → whole (heard ++ s) ≡ [] → rest_of (heard ++ s) ≡ heard ++ s → Awaits (heard ++ s) left
    → OnlyLastIsWide (whole (heard ++ given)) × Awaits (rest_of (heard ++ given)) left
quiet heard s given left is none rest awaits = (
  subst OnlyLastIsWide (sym (ap (λ (p : List ℕ). whole (heard ++ p)) is ∙ none)) tt,
  subst (λ (r : List ℕ). Awaits r left) (sym (ap (λ (p : List ℕ). rest_of (heard ++ p)) is ∙ rest)) awaits,
)

part_fair : (s : List ℕ) (h : Header) → frame_at s ≡ More → header_at s ≡ h → IsFair [] s (part_cut s h)
part_fair s (header.Head tag head len) e heading =
    let opened = part_opened s tag head len e heading in
    let begins = heading_begins s tag head len heading in
    let part : IsPart s (len - (length s - head)) = record {
      tag = tag;
      head = head;
      len = len;
      frame = e;
      heading = heading;
      missing = omega (arith, opened.short, begins.within);
    } in
    let q = quiet [] s (take (length s) s) (len - (length s - head)) (take-length s) (whole_more s e) (rest_more s e) (inr (inl part)) in
    record { only_last = q.0; awaits = q.1 }
part_fair s header.Short e heading = record { only_last = subst OnlyLastIsWide (sym whole_nil) tt; awaits = inl (rest_nil, refl) }
part_fair s header.Bad e heading = absurd (unreadable_part s e heading)

-- where nothing was heard in part
fresh_fair : (s : List ℕ) (fr : Frame) → frame_at s ≡ fr → IsFair [] s (fresh_cut s fr)
fresh_fair s (Whole n) e = let f = fair_front (length s) s (Whole n) e (omega arith) in record { only_last = f.only_last; awaits = inl (f.rest, refl) }
fresh_fair s More e = part_fair s (header_at s) e refl
fresh_fair s Bad e =
    let q = quiet [] s (take (length s) s) 0 (take-length s) (whole_bad s e) (rest_bad s e) (inr (inr e)) in
    record { only_last = q.0; awaits = q.1 }

-- where a message was heard in part
rest_fair : (heard s : List ℕ) (left : ℕ) → IsPart heard left → IsFair heard s (rest_cut left s)
rest_fair heard s left h =
    let opened = part_opened heard h.tag h.head h.len h.frame h.heading in
    elim (cases_lt (length s) left) [
      | inl short ↦
          let count : min left (length s) ≡ length s = omega (arith, short) in
          let all : take (min left (length s)) s ≡ s = ap (λ (k : ℕ). take k s) count ∙ take-length s in
          let size : length (heard ++ s) ≡ length heard + length s = length-append heard s in
          let opens : heard ++ s ≡ 48 ∷ (opened.behind ++ s) = ap (λ (t : List ℕ). t ++ s) opened.opens in
          let heading = heading_again heard s h.tag h.head h.len h.heading in
          let more : frame_at (heard ++ s) ≡ More =
          still_part (heard ++ s) (opened.behind ++ s) h.tag h.head h.len opens heading opened.fits (omega (arith, size, h.missing, short)) in
          let part : IsPart (heard ++ s) (left - length s) = record {
            tag = h.tag;
            head = h.head;
            len = h.len;
            frame = more;
            heading = heading;
            missing = omega (arith, size, h.missing, short);
          } in
          let q = quiet heard s (take (min left (length s)) s) (left - length s) all (whole_more (heard ++ s) more) (rest_more (heard ++ s) more) (inr (inl part)) in
          record { only_last = q.0; awaits = q.1 }
      | inr there ↦
          let p = take left s in
          let count : min left (length s) ≡ left = omega (arith, there) in
          let given : take (min left (length s)) s ≡ p = ap (λ (k : ℕ). take k s) count in
          let size : length (heard ++ p) ≡ h.head + h.len = omega (arith, length-append heard p, length-take-le left s there, h.missing) in
          let opens : heard ++ p ≡ 48 ∷ (opened.behind ++ p) = ap (λ (t : List ℕ). t ++ p) opened.opens in
          let is_one = now_whole (heard ++ p) (opened.behind ++ p) h.tag h.head h.len opens (heading_again heard p h.tag h.head h.len h.heading) opened.fits size in
          record {
            only_last = subst OnlyLastIsWide (sym (ap (λ (t : List ℕ). whole (heard ++ t)) given ∙ alone (heard ++ p) is_one)) tt;
            awaits = inl (ap (λ (t : List ℕ). rest_of (heard ++ t)) given ∙ rest_alone (heard ++ p) is_one, omega (arith, there));
          }
    ]

-- where no message can come any more
broken_fair : (heard s : List ℕ) (cut : Cut) → frame_at heard ≡ Bad → IsFair heard s cut
broken_fair heard s cut e =
    let p = take cut.given s in
    let bad = bad_again heard p e in
    let q = quiet heard p p cut.left refl (whole_bad (heard ++ p) bad) (rest_bad (heard ++ p) bad) (inr (inr bad)) in
    record { only_last = q.0; awaits = q.1 }

-- something of a message that was heard in part is still to come
some_left : (heard : List ℕ) (left : ℕ) → IsPart heard left → 0 < left
some_left heard left h =
    let opened = part_opened heard h.tag h.head h.len h.frame h.heading in
    omega (arith, opened.short, h.missing)

-- one piece
pub fair : (heard s : List ℕ) (left : ℕ) → Awaits heard left → IsFair heard s (cut_at left s)
fair heard s left w =
    elim w [
      | inl nothing ↦
          let at_zero : IsFair [] s (cut_at 0 s) = subst (IsFair [] s) (sym (cut_fresh s)) (fresh_fair s (frame_at s) refl) in
          let at_left : IsFair [] s (cut_at left s) = subst (λ (l : ℕ). IsFair [] s (cut_at l s)) (sym nothing.1) at_zero in
          subst (λ (t : List ℕ). IsFair t s (cut_at left s)) (sym nothing.0) at_left
      | inr something ↦
          elim something [
            | inl part ↦ subst (IsFair heard s) (sym (cut_rest left s (some_left heard left part))) (rest_fair heard s left part)
            | inr bad ↦ broken_fair heard s (cut_at left s) bad
          ]
    ]

-- each piece in turn
pub all_fair : (most : ℕ) (heard : List ℕ) (left : ℕ) (s : List ℕ) → Awaits heard left → AreFair heard (pieces_of most left s)
unfolding pieces_of
all_fair zero heard left s w = tt
all_fair (suc most) heard left s w =
    let f = fair heard s left w in
    (f.only_last, all_fair most (rest_of (heard ++ given_of left s)) (cut_at left s).left (kept_of left s) f.awaits)

-- the pieces and what is kept are all
pub cuts_joined : (most left : ℕ) (s : List ℕ) → joined (pieces_of most left s) ++ kept_behind most left s ≡ s
unfolding pieces_of kept_behind
cuts_joined zero left s = refl
cuts_joined (suc most) left s =
    let others = joined (pieces_of most (cut_at left s).left (kept_of left s)) in
    append_assoc (given_of left s) others (kept_behind most (cut_at left s).left (kept_of left s))
    ∙ ap (λ (t : List ℕ). given_of left s ++ t) (cuts_joined most (cut_at left s).left (kept_of left s))
    ∙ take-append-drop (cut_at left s).given s
