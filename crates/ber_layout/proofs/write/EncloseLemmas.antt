-- A header that was put behind a content and then moved before it.
use Rattle.std.proofs.Common.{◌≡◌, ℕ, ◌+◌, ◌-◌, ◌≤◌, List, [], ◌++◌, length, take, drop, refl, ap, subst, ◌∙◌, arith, append_assoc, length-append, length-drop}
use Rattle.std.proofs.lemmas.List.{take-append-drop, take_at, drop_at, length-take-le, nil_from_length}
use Rattle.std.specs.List.{slice_rotate_right}
use Rattle.ber_elements.specs.write.Spelling.{length_octets, header_octets}
use Rattle.ber_layout.specs.Spellings.{element_octets}

-- the octets before, the content and the header, with the header moved to the content's front
moved : (before content header : List ℕ) → take (length before) ((before ++ content) ++ header) ++ slice_rotate_right (drop (length before) ((before ++ content) ++ header)) (length header)
    ≡ before ++ (header ++ content)
moved before content header =
    let front : take (length before) ((before ++ content) ++ header) ≡ before = ap (take (length before)) (append_assoc before content header) ∙ take_at before (content ++ header) (length before) refl in
    let back : drop (length before) ((before ++ content) ++ header) ≡ content ++ header = ap (drop (length before)) (append_assoc before content header) ∙ drop_at before (content ++ header) (length before) refl in
    let count : length (content ++ header) - length header ≡ length content = omega (arith, length-append content header) in
    let last : drop (length (content ++ header) - length header) (content ++ header) ≡ header = ap (λ (k : ℕ). drop k (content ++ header)) count ∙ drop_at content header (length content) refl in
    let first : take (length (content ++ header) - length header) (content ++ header) ≡ content = ap (λ (k : ℕ). take k (content ++ header)) count ∙ take_at content header (length content) refl in
    rw (front, back, last, first) refl

-- the same, of octets that are known by their number
pub enclosed : (old new : List ℕ) (tag start by : ℕ) → start ≤ length old → new ≡ old ++ header_octets tag (length old - start) → by ≡ 1 + length (length_octets (length old - start))
    → take start new ++ slice_rotate_right (drop start new) by ≡ take start old ++ element_octets tag (drop start old)
unfolding element_octets
enclosed old new tag start by within is count =
    let before = take start old in
    let content = drop start old in
    let header = header_octets tag (length content) in
    let size : length before ≡ start = length-take-le start old within in
    let left : length content ≡ length old - start = length-drop start old in
    let whole : new ≡ (before ++ content) ++ header = is ∙ rw (take-append-drop start old, left) refl in
    let many : by ≡ length header = omega (arith, count, ap (λ (k : ℕ). length (length_octets k)) left) in
    let at_start : take start ((before ++ content) ++ header) ++ slice_rotate_right (drop start ((before ++ content) ++ header)) (length header) ≡ before ++ (header ++ content) =
    subst (λ (k : ℕ). take k ((before ++ content) ++ header) ++ slice_rotate_right (drop k ((before ++ content) ++ header)) (length header) ≡ before ++ (header ++ content)) size (moved before content header) in
    ap (λ (s : List ℕ). take start s ++ slice_rotate_right (drop start s) by) whole
    ∙ ap (λ (k : ℕ). take start ((before ++ content) ++ header) ++ slice_rotate_right (drop start ((before ++ content) ++ header)) k) many
    ∙ at_start

-- octets that were written over all others
pub written_over : (new items : List ℕ) (len : ℕ) → len ≡ length items → length new ≡ length items → take len (new ++ drop (length new) items) ≡ new
written_over new items len is same =
    let left : drop (length new) items ≡ [] = nil_from_length (drop (length new) items) (omega (arith, length-drop (length new) items)) in
    ap (λ (s : List ℕ). take len (new ++ s)) left ∙ take_at new [] len (omega arith)
