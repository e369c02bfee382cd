-- A step of a reading, an element with a tag, a number, and further elements: what is read stands there, and what stands
-- there is read.
use Rattle.std.proofs.Common.{◌≡◌, ℕ, zero, suc, ◌^◌, ◌<◌, ◌≤◌, Bool, true, false, cond, eqb, leb, List, [], ◌∷◌, ◌++◌, length, Option, Some, None, refl, sym, ap, subst, ◌∙◌, arith}
use Rattle.std.specs.Prelude.{◌&&◌, ℤ, pos, negsuc, IfSome}
use Rattle.std.proofs.lemmas.Bool.{and_parts, and_from, leb-true, le-leb, eq-eqb, eqb-true}
use Rattle.ber_elements.specs.write.Element.{Elem}
use Rattle.ber_elements.specs.Integer.{IsInteger, int_at}
use Rattle.ber_elements.proofs.Theorems.{int_sound, int_complete, natural_short}
use Rattle.ber_layout.specs.element.Pieces.{ArePieces, IsFurther, IsNumberIn, Piece, ◌>>=◌, piece_at, tagged_at, natural_in, number_in, are_pieces}
use Rattle.ber_layout.proofs.element.PieceLemmas.{Takes, piece_sound, piece_again, pieces_nil, pieces_step, pieces_none}

-- the value of a step that gave one
pub bind_some : {A B : Type 0} (o : Option A) (f : A → Option B) (y : B) → (o >>= f) ≡ Some y → (x : A) × (o ≡ Some x) × (f x ≡ Some y)
bind_some (Some x) f y e = (x, refl, e)
bind_some None f y e = absurd cc

-- a test that passed
pub guard_some : {A : Type 0} (b : Bool) (x y : A) → cond b (Some x) None ≡ Some y → (b ≡ true) × (x ≡ y)
guard_some true x y e = (refl, cc)
guard_some false x y e = absurd cc

pub guard_passed : {A : Type 0} (b : Bool) (o : Option A) (y : A) → cond b o None ≡ Some y → (b ≡ true) × (o ≡ Some y)
guard_passed true o y e = (refl, e)
guard_passed false o y e = absurd cc

-- ---- an element with a tag

pub tagged_sound : (tag : ℕ) (bytes : List ℕ) (piece : Piece) → tagged_at tag bytes ≡ Some piece → Takes bytes piece × (piece.tag ≡ tag)
unfolding tagged_at
tagged_sound tag bytes piece e =
    let found = bind_some (piece_at bytes) (λ p. cond (eqb p.tag tag) (Some p) None) piece e in
    let passed = guard_some (eqb found.0.tag tag) found.0 piece found.2 in
    let same : found.0 ≡ piece = passed.1 in
    (subst (Takes bytes) same (piece_sound bytes found.0 found.1), ap (λ (p : Piece). p.tag) (sym same) ∙ eqb-true found.0.tag tag passed.0)

pub tagged_again : (tag : ℕ) (content front rest : List ℕ) → Elem tag content front
    → tagged_at tag (front ++ rest) ≡ Some (record { tag = tag; content = content; rest = rest })
unfolding tagged_at
tagged_again tag content front rest e = rw (piece_again tag content front rest e, eq-eqb tag tag refl) refl

-- ---- a number

number_by : (low high : ℕ) (content : List ℕ) (o : Option ℤ) (n : ℕ) → IfSome o (λ value. IsInteger content value × (length content ≤ 8))
    → natural_in low high o ≡ Some n → IsNumberIn low high content n
number_by low high content None n stands e = absurd cc
number_by low high content (Some (pos m)) n stands e =
    let passed = guard_some (leb low m && leb m high) m n e in
    let tests = and_parts (leb low m) (leb m high) passed.0 in
    let same : m ≡ n = passed.1 in
    record {
      stands = subst (λ (k : ℕ). IsInteger content (pos k)) same stands.0;
      from_low = omega (arith, leb-true low m tests.0, same);
      to_high = omega (arith, leb-true m high tests.1, same);
    }
number_by low high content (Some (negsuc m)) n stands e = absurd cc

pub number_sound : (low high : ℕ) (content : List ℕ) (n : ℕ) → number_in low high content ≡ Some n → IsNumberIn low high content n
unfolding number_in
number_sound low high content n e = number_by low high content (int_at content) n (int_sound content) e

pub number_again : (low high : ℕ) (content : List ℕ) (n : ℕ) → high < 2 ^ 63 → IsNumberIn low high content n → number_in low high content ≡ Some n
unfolding number_in
number_again low high content n below is =
    let short = natural_short content n is.stands (omega (arith, is.to_high)) in
    rw (int_complete content (pos n) is.stands short, and_from (leb low n) (leb n high) (le-leb low n is.from_low) (le-leb n high is.to_high)) refl

-- ---- further elements

further_by : (k : ℕ) (allowed : ℕ → Bool) (bytes : List ℕ) (o : Option Piece) → piece_at bytes ≡ o → length bytes ≤ k → are_pieces allowed bytes ≡ true → IsFurther allowed bytes
further_by k allowed [] o found h e = record { pieces = []; are = refl }
further_by k allowed (b ∷ bytes) None found h e =
    let none = pieces_none allowed (b ∷ bytes) (omega arith) found in
    absurd cc
further_by zero allowed (b ∷ bytes) (Some piece) found h e = absurd (omega arith)
further_by (suc k) allowed (b ∷ bytes) (Some piece) found h e =
    let takes = piece_sound (b ∷ bytes) piece found in
    let both = and_parts (allowed piece.tag) (are_pieces allowed piece.rest) (sym (pieces_step allowed (b ∷ bytes) piece found) ∙ e) in
    let others = further_by k allowed piece.rest (piece_at piece.rest) refl (omega (arith, takes.shorter)) both.1 in
    record {
      pieces = takes.front ∷ others.pieces;
      are = (record { tag = piece.tag; content = piece.content; element = takes.element; allows = both.0 }, (piece.rest, takes.joins, others.are));
    }

pub further_sound : (allowed : ℕ → Bool) (bytes : List ℕ) → are_pieces allowed bytes ≡ true → IsFurther allowed bytes
further_sound allowed bytes e = further_by (length bytes) allowed bytes (piece_at bytes) refl (omega arith) e

pieces_again : (allowed : ℕ → Bool) (pieces : List (List ℕ)) (bytes : List ℕ) → ArePieces allowed pieces bytes → are_pieces allowed bytes ≡ true
pieces_again allowed [] bytes are = ap (are_pieces allowed) are ∙ pieces_nil allowed
pieces_again allowed (piece ∷ pieces) bytes are =
    let rest = are.1.0 in
    let found = piece_again are.0.tag are.0.content piece rest are.0.element in
    ap (are_pieces allowed) are.1.1
    ∙ pieces_step allowed (piece ++ rest) (record { tag = are.0.tag; content = are.0.content; rest = rest }) found
    ∙ and_from (allowed are.0.tag) (are_pieces allowed rest) are.0.allows (pieces_again allowed pieces rest are.1.2)

pub further_again : (allowed : ℕ → Bool) (bytes : List ℕ) → IsFurther allowed bytes → are_pieces allowed bytes ≡ true
further_again allowed bytes is = pieces_again allowed is.pieces bytes is.are
