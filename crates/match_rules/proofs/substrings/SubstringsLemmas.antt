-- Parts that are sought one behind the other: the first place of a part leaves the longest rest.
use Rattle.std.proofs.Common.{false, true, nat_eq, ◌≡◌, ◌≢◌, ℕ, ◌+◌, ◌-◌, ◌<◌, ◌≤◌, List, [], ◌∷◌, ◌++◌, length, take, drop, drop-cons, get_or, map, suc, add-one, append_assoc, ◌∙◌, ap, sym, arith, length-append, length-drop, take_all, zero-le, subst, le_of_suc-le-suc}
use Rattle.std.proofs.lemmas.List.{take-append-drop, drop-drop, append_cancel_left, append_cancel_right}
use Rattle.std.proofs.Math.Nat.{lt_of_not-le}
use Rattle.std.proofs.Math.Seq.{drop-append_seam, take-append_seam}
use Rattle.std.proofs.lemmas.Bool.{false≢true}
use Rattle.std.specs.Cmp.Lexicographic.{pointwise, bytes_decides}
use Rattle.memchr.specs.Find.{OccursAt, Nowhere, NoneBefore}
use Rattle.memchr.proofs.lemmas.MatchLemmas.{OccursAt-from_part, OccursAt-split}
use Rattle.match_rules.specs.substrings.Substrings.{InOrder}

-- octets in front take no part away
pub InOrder-front : (parts : List (List ℕ)) (front text : List ℕ) → InOrder parts text → InOrder parts (front ++ text)
InOrder-front [] front text order = tt
InOrder-front (part ∷ parts) front text order =
    (front ++ order.0, order.1, ap (λ octets. front ++ octets) order.2 ∙ sym (append_assoc front order.0 (part ++ order.1)), order.3)

-- a text that is cut round a part has the part there
OccursAt-cut : (part before rest text : List ℕ) → text ≡ before ++ (part ++ rest) → OccursAt text part (length before)
OccursAt-cut part before rest text cut =
    let behind : drop (length before) text ≡ part ++ rest = ap (drop (length before)) cut ∙ drop-append_seam before (part ++ rest) in
    let here = ap (take (length part)) behind ∙ take-append_seam part rest in
    let whole : length text ≡ length before + (length part + length rest) = ap length cut ∙ length-append before (part ++ rest) ∙ ap (λ n. length before + n) (length-append part rest) in
    OccursAt-from_part text part (length before) (omega arith) here

-- and leaves the rest
drop-cut : (part before rest text : List ℕ) → text ≡ before ++ (part ++ rest) → drop (length before + length part) text ≡ rest
drop-cut part before rest text cut =
    sym (drop-drop (length part) (length before) text)
    ∙ ap (λ octets. drop (length part) (drop (length before) octets)) cut
    ∙ ap (drop (length part)) (drop-append_seam before (part ++ rest))
    ∙ drop-append_seam part rest

-- where a part stands, and the others behind it, all stand in order
pub InOrder-at : (part : List ℕ) (parts : List (List ℕ)) (text : List ℕ) (place : ℕ) → OccursAt text part place
    → InOrder parts (drop (place + length part) text) → InOrder (part ∷ parts) text
InOrder-at part parts text place occurs order = (
  take place text,
  drop (place + length part) text,
  sym (take-append-drop place text) ∙ ap (λ octets. take place text ++ octets) (OccursAt-split text part place occurs),
  order,
)

-- behind the first place of a part there is room for all that can stand behind another
pub InOrder-first : (part : List ℕ) (parts : List (List ℕ)) (text : List ℕ) (place : ℕ) → NoneBefore (OccursAt text part) 0 (length text + 1) place
    → InOrder (part ∷ parts) text → InOrder parts (drop (place + length part) text)
InOrder-first part parts text place first order =
    let other = length order.0 in
    let occurs = OccursAt-cut part order.0 order.1 text order.2 in
    let near : other < place → ⊥ = λ nearer. first.before other zero-le nearer occurs in
    let reaches : place ≤ other = le_of_suc-le-suc (lt_of_not-le near) in
    let more = drop (place + length part) text in
    let gap : place + length part + (other - place) ≡ other + length part = omega arith in
    let rest : drop (other - place) more ≡ order.1 =
    drop-drop (other - place) (place + length part) text ∙ ap (λ n. drop n text) gap ∙ drop-cut part order.0 order.1 text order.2 in
    let split : take (other - place) more ++ order.1 ≡ more = ap (λ octets. take (other - place) more ++ octets) (sym rest) ∙ take-append-drop (other - place) more in
    subst (InOrder parts) split (InOrder-front parts (take (other - place) more) order.1 order.3)

-- a part that stands nowhere
pub InOrder-nowhere : (part : List ℕ) (parts : List (List ℕ)) (text : List ℕ) → Nowhere (OccursAt text part) 0 (length text + 1) → ¬ (InOrder (part ∷ parts) text)
InOrder-nowhere part parts text nowhere order =
    let occurs = OccursAt-cut part order.0 order.1 text order.2 in
    nowhere (length order.0) zero-le (omega (arith, occurs.fits)) occurs

-- a key that does not begin with the first part is no sum with it in front
pub begins-false : (key first rest : List ℕ) → pointwise nat_eq (take (length first) key) first ≡ false → key ≢ first ++ rest
begins-false key first rest differs is =
    let begins = ap (take (length first)) is ∙ take-append_seam first rest in
    false≢true (sym differs ∙ (bytes_decides _ first).1 begins)

pub begins-true : (key first : List ℕ) → pointwise nat_eq (take (length first) key) first ≡ true → key ≡ first ++ drop (length first) key
begins-true key first agrees =
    sym (take-append-drop (length first) key) ∙ ap (λ front. front ++ drop (length first) key) ((bytes_decides _ first).0 agrees)

-- the same at the end
pub ends-false : (key between last : List ℕ) → pointwise nat_eq (drop (length key - length last) key) last ≡ false → key ≢ between ++ last
ends-false key between last differs is =
    let front : length key - length last ≡ length between = omega (arith, ap length is ∙ length-append between last) in
    let ends = ap (λ n. drop n key) front ∙ ap (drop (length between)) is ∙ drop-append_seam between last in
    false≢true (sym differs ∙ (bytes_decides _ last).1 ends)

pub ends-true : (key last : List ℕ) → pointwise nat_eq (drop (length key - length last) key) last ≡ true → key ≡ take (length key - length last) key ++ last
ends-true key last agrees =
    let front = length key - length last in
    sym (take-append-drop front key) ∙ ap (λ end. take front key ++ end) ((bytes_decides _ last).0 agrees)

-- there is one text between two parts
pub between-one : (first last between other : List ℕ) → first ++ (between ++ last) ≡ first ++ (other ++ last) → between ≡ other
between-one first last between other is = append_cancel_right between other last (append_cancel_left first (between ++ last) (other ++ last) is)

-- the rest of a text from a place on
pub rest-drop : (text : List ℕ) (place : ℕ) → take (length text - place) (drop place text) ≡ drop place text
rest-drop text place = take_all (length text - place) (drop place text) (omega (arith, length-drop place text))

-- the parts from an index on: the one there, and those behind it
pub map-drop : {V : Type 0} (octets_of : V → List ℕ) (parts : List V) (index : ℕ) (part : V) → index < length parts → part ≡ get_or parts index part
    → map octets_of (drop index parts) ≡ octets_of part ∷ map octets_of (drop (index + 1) parts)
map-drop octets_of parts index part within is =
    rw (add-one, drop-cons parts index part) (ap (λ first. octets_of first ∷ map octets_of (drop (suc index) parts)) (sym is))
