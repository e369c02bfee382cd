-- Elements one after the other: one at the front, and all of them.
use Rattle.std.proofs.Common.{◌≡◌, ℕ, zero, suc, ◌<◌, ◌≤◌, Bool, true, false, eqb, List, [], ◌∷◌, ◌++◌, length, take, drop, Option, Some, None, refl, sym, ap, subst, ◌∙◌, inl, inr, arith}
use Rattle.std.specs.Prelude.{◌&&◌}
use Rattle.std.proofs.lemmas.Bool.{cases_lt, lt-ltb, le-ltb, eqb-true, eqb-false}
use Rattle.std.proofs.lemmas.List.{length-drop, length-append, take-append-drop, append_assoc, take_at, drop_at, length-take-le, nil_from_length}
use Rattle.std.proofs.lemmas.Option.{same_Some}
use Rattle.ber_elements.specs.declared.kinds.Header.{Header}
use Rattle.ber_elements.specs.declared.kinds.Header.TheVariants as header
use Rattle.ber_elements.specs.write.Element.{Elem}
use Rattle.ber_elements.specs.Heading.{header_at}
use Rattle.ber_elements.proofs.Theorems.{heading_begins, heading_bound, element_again}
use Rattle.ber_layout.specs.element.Pieces.{Piece, piece_of, piece_at, piece_and, pieces_of, are_pieces}

-- an element at the front, and what is left
pub record Takes (bytes : List ℕ) (piece : Piece) : Type 0 where
  pub front : List ℕ
  pub element : Elem piece.tag piece.content front
  pub joins : bytes ≡ front ++ piece.rest
  pub shorter : length piece.rest < length bytes

taken_by : (bytes : List ℕ) (h : Header) (piece : Piece) → header_at bytes ≡ h → piece_of bytes h ≡ Some piece → Takes bytes piece
unfolding piece_of
taken_by bytes (header.Head tag head len) piece heading e =
    elim (cases_lt (length (drop head bytes)) len) [
      | inl short ↦
          let none : None ≡ Some piece = rw (lt-ltb (length (drop head bytes)) len short) at e in
          absurd cc
      | inr there ↦
          let is : Some (record { tag = tag; content = take len (drop head bytes); rest = drop len (drop head bytes) }) ≡ Some piece = rw (le-ltb (length (drop head bytes)) len there) at e in
          let made : Piece = record { tag = tag; content = take len (drop head bytes); rest = drop len (drop head bytes) } in
          let begins = heading_begins bytes tag head len heading in
          let bound = heading_bound bytes tag head len heading in
          let count : length (take len (drop head bytes)) ≡ len = length-take-le len (drop head bytes) there in
          let taken : Takes bytes made = record {
            front = take head bytes ++ take len (drop head bytes);
            element = record { header = take head bytes; heads = rw count begins.heads; joined = refl };
            joins = sym (append_assoc (take head bytes) (take len (drop head bytes)) (drop len (drop head bytes)) ∙ rw (take-append-drop len (drop head bytes)) (take-append-drop head bytes));
            shorter = omega (arith, bound.0, begins.within, length-drop len (drop head bytes), length-drop head bytes);
          } in
          subst (Takes bytes) (same_Some made piece is) taken
    ]
taken_by bytes header.Short piece heading e = absurd cc
taken_by bytes header.Bad piece heading e = absurd cc

-- an element that was found stands at the front
pub piece_sound : (bytes : List ℕ) (piece : Piece) → piece_at bytes ≡ Some piece → Takes bytes piece
unfolding piece_at
piece_sound bytes piece e = taken_by bytes (header_at bytes) piece refl e

-- an element at the front is found, whatever follows it
pub piece_again : (tag : ℕ) (content front rest : List ℕ) → Elem tag content front
    → piece_at (front ++ rest) ≡ Some (record { tag = tag; content = content; rest = rest })
unfolding piece_at piece_of
piece_again tag content front rest e =
    let behind : drop (length e.header) (front ++ rest) ≡ content ++ rest =
    ap (λ (s : List ℕ). drop (length e.header) (s ++ rest)) e.joined
    ∙ ap (drop (length e.header)) (append_assoc e.header content rest)
    ∙ drop_at e.header (content ++ rest) (length e.header) refl in
    let there : length content ≤ length (content ++ rest) = omega (arith, length-append content rest) in
    rw (element_again tag content front rest e, behind, le-ltb (length (content ++ rest)) (length content) there, take_at content rest (length content) refl, drop_at content rest (length content) refl) refl

-- ---- all elements, one step at a time

same_pieces : (allowed : ℕ → Bool) (f g : List ℕ → Bool) (bytes : List ℕ) (o : Option Piece) → piece_at bytes ≡ o
    → ((piece : Piece) → piece_at bytes ≡ Some piece → f piece.rest ≡ g piece.rest) → piece_and allowed f o ≡ piece_and allowed g o
same_pieces allowed f g bytes None e h = refl
same_pieces allowed f g bytes (Some piece) e h = ap (λ (b : Bool). allowed piece.tag && b) (h piece e)

pieces_enough : (j k : ℕ) (allowed : ℕ → Bool) (bytes : List ℕ) → length bytes ≤ j → length bytes ≤ k → pieces_of j allowed bytes ≡ pieces_of k allowed bytes
unfolding pieces_of
pieces_enough j k allowed [] hj hk = refl
pieces_enough zero k allowed (b ∷ bytes) hj hk = absurd (omega arith)
pieces_enough (suc j) zero allowed (b ∷ bytes) hj hk = absurd (omega arith)
pieces_enough (suc j) (suc k) allowed (b ∷ bytes) hj hk =
    same_pieces allowed (pieces_of j allowed) (pieces_of k allowed) (b ∷ bytes) (piece_at (b ∷ bytes)) refl
    (λ piece e. let shorter = (piece_sound (b ∷ bytes) piece e).shorter in pieces_enough j k allowed piece.rest (omega (arith, shorter)) (omega (arith, shorter)))

pub pieces_nil : (allowed : ℕ → Bool) → are_pieces allowed [] ≡ true
unfolding are_pieces pieces_of
pieces_nil allowed = refl

pub pieces_step : (allowed : ℕ → Bool) (bytes : List ℕ) (piece : Piece) → piece_at bytes ≡ Some piece
    → are_pieces allowed bytes ≡ (allowed piece.tag && are_pieces allowed piece.rest)
unfolding are_pieces pieces_of
pieces_step allowed [] piece e = let shorter = (piece_sound [] piece e).shorter in absurd (omega arith)
pieces_step allowed (b ∷ bytes) piece e =
    let shorter = (piece_sound (b ∷ bytes) piece e).shorter in
    ap (piece_and allowed (pieces_of (length bytes) allowed)) e
    ∙ ap (λ (t : Bool). allowed piece.tag && t) (pieces_enough (length bytes) (length piece.rest) allowed piece.rest (omega (arith, shorter)) (omega arith))

pub pieces_none : (allowed : ℕ → Bool) (bytes : List ℕ) → 0 < length bytes → piece_at bytes ≡ None → are_pieces allowed bytes ≡ false
unfolding are_pieces pieces_of
pieces_none allowed [] some e = absurd (omega arith)
pieces_none allowed (b ∷ bytes) some e = ap (piece_and allowed (pieces_of (length bytes) allowed)) e

-- what a test for no octets says
pub some_left : (bytes : List ℕ) → eqb (length bytes) 0 ≡ false → 0 < length bytes
some_left bytes e = let some = eqb-false (length bytes) 0 e in omega (arith, some)

pub none_left : (bytes : List ℕ) → eqb (length bytes) 0 ≡ true → bytes ≡ []
none_left bytes e = nil_from_length bytes (eqb-true (length bytes) 0 e)
