-- No element is the front of another.
use Rattle.std.proofs.Common.{◌≡◌, ℕ, ◌+◌, ◌≤◌, List, [], ◌∷◌, ◌++◌, length, take, drop, inl, inr, refl, sym, ap, subst, ◌∙◌, arith}
use Rattle.std.proofs.lemmas.List.{append_assoc, append_cancel_left, take_at, drop_at, length-append, length-take-le, length-drop, take-append-drop, drop-take, take-take}
use Rattle.ber_elements.specs.declared.kinds.Header.TheVariants.{Head}
use Rattle.ber_elements.specs.write.Element.{IsHeader, Elem}
use Rattle.ber_elements.specs.Heading.{Begins, IsHeading, header_at}
use Rattle.ber_elements.specs.Laws.{SameElement}
use Rattle.ber_elements.proofs.laws.HeadingLemmas.{heading_sound, begins_again, header_again}

-- the heading of an element, whatever follows it
pub element_again : (tag : ℕ) (content bytes rest : List ℕ) (e : Elem tag content bytes) → header_at (bytes ++ rest) ≡ Head tag (length e.header) (length content)
element_again tag content bytes rest e =
    let parts : bytes ++ rest ≡ e.header ++ (content ++ rest) = ap (λ (s : List ℕ). s ++ rest) e.joined ∙ append_assoc e.header content rest in
    ap header_at parts ∙ header_again e.header (content ++ rest) tag (length content) e.heads

-- a header has two to six octets
pub header_bound : (header : List ℕ) (tag len : ℕ) → IsHeader header tag len → (2 ≤ length header) × (length header ≤ 6)
header_bound [] tag len h = absurd h
header_bound (first ∷ []) tag len h = absurd h.2
header_bound (first ∷ b ∷ octets) tag len h =
    elim h.2 [
      | inl short ↦ let none : length octets ≡ 0 = ap length short.1 in (omega arith, omega arith)
      | inr long ↦ (omega arith, omega arith)
    ]

same_heads : (tag n len tag' n' len' : ℕ) → Head tag n len ≡ Head tag' n' len' → (tag ≡ tag') × (n ≡ n') × (len ≡ len')
same_heads tag n len tag' n' len' e = (cc, cc, cc)

-- the length of an element
element_length : (tag : ℕ) (content bytes : List ℕ) (e : Elem tag content bytes) → length bytes ≡ length e.header + length content
element_length tag content bytes e = ap length e.joined ∙ length-append e.header content

-- no element is the front of another
pub no_front : (tag tag' : ℕ) (content content' bytes bytes' rest rest' : List ℕ)
    → Elem tag content bytes → Elem tag' content' bytes' → bytes ++ rest ≡ bytes' ++ rest'
    → SameElement tag tag' content content' bytes bytes' rest rest'
no_front tag tag' content content' bytes bytes' rest rest' e e' joins =
    let one = element_again tag content bytes rest e in
    let other = element_again tag' content' bytes' rest' e' in
    let heads = same_heads tag (length e.header) (length content) tag' (length e'.header) (length content') (sym one ∙ ap header_at joins ∙ other) in
    let count : length bytes ≡ length bytes' = omega (arith, element_length tag content bytes e, element_length tag' content' bytes' e', heads.1, heads.2) in
    let same : bytes ≡ bytes' = sym (take_at bytes rest (length bytes) refl) ∙ ap (take (length bytes)) joins ∙ take_at bytes' rest' (length bytes) (sym count) in
    let behind : rest ≡ rest' = append_cancel_left bytes rest rest' (joins ∙ ap (λ (s : List ℕ). s ++ rest') (sym same)) in
    let whole : e.header ++ content ≡ e'.header ++ content' = sym e.joined ∙ same ∙ e'.joined in
    let header_is : content ≡ content' =
    sym (drop_at e.header content (length e.header) refl) ∙ ap (drop (length e.header)) whole ∙ drop_at e'.header content' (length e.header) (sym heads.1) in
    record { tags = heads.0; contents = header_is; elements = same; rests = behind }

-- a heading that was found has a header there
pub heading_begins : (bytes : List ℕ) (tag n len : ℕ) → header_at bytes ≡ Head tag n len → Begins bytes tag n len
heading_begins bytes tag n len e = subst (IsHeading bytes) e (heading_sound bytes)

-- a heading that was found stays, whatever follows
pub heading_again : (bytes rest : List ℕ) (tag n len : ℕ) → header_at bytes ≡ Head tag n len → header_at (bytes ++ rest) ≡ Head tag n len
heading_again bytes rest tag n len e = begins_again bytes tag n len (heading_begins bytes tag n len e) rest

-- a heading that was found is of two to six octets
pub heading_bound : (bytes : List ℕ) (tag n len : ℕ) → header_at bytes ≡ Head tag n len → (2 ≤ n) × (n ≤ 6)
heading_bound bytes tag n len e =
    let begins = heading_begins bytes tag n len e in
    let bound = header_bound (take n bytes) tag len begins.heads in
    let count = length-take-le n bytes begins.within in
    (omega (arith, bound.0, count), omega (arith, bound.1, count))

-- the element whose heading was found
pub element_there : (bytes : List ℕ) (tag n len : ℕ) → header_at bytes ≡ Head tag n len → n + len ≤ length bytes
    → Elem tag (take len (drop n bytes)) (take (n + len) bytes)
element_there bytes tag n len e there =
    let begins = heading_begins bytes tag n len e in
    let count : length (take len (drop n bytes)) ≡ len = length-take-le len (drop n bytes) (omega (arith, length-drop n bytes)) in
    let front : take n (take (n + len) bytes) ≡ take n bytes = take-take n (n + len) bytes (omega arith) in
    let behind : drop n (take (n + len) bytes) ≡ take len (drop n bytes) = drop-take n len bytes in
    record {
      header = take n bytes;
      heads = rw count begins.heads;
      joined = sym (take-append-drop n (take (n + len) bytes)) ∙ rw (front, behind) refl;
    }
