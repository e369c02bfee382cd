-- A word of a set of places is changed, or looked at.
use Rattle.std.proofs.Common.{◌≡◌, ◌≢◌, ◌⊎◌, inl, inr, ℕ, zero, suc, ◌+◌, ◌*◌, ◌/◌, ◌%◌, ◌<◌, ◌≤◌, Bool, true, false, ◌==◌, ◌&&◌, List, [], ◌∷◌, length, get_or, refl, ap, sym, ◌∙◌, arith}
use Rattle.std.proofs.Math.ListN.{set}
use Rattle.std.specs.Int.{bit_at}
use Rattle.std.proofs.lemmas.Bool.{cases_order, cases_lt, lt-ltb, le-ltb}
use Rattle.std.proofs.lemmas.List.{get_or-set_other}
use Rattle.std.proofs.lemmas.Grind.{get_or-set_at}
use Rattle.std.proofs.lemmas.Nat.Bits.{bit_at-zero}
use Rattle.mio_link.specs.Places.{has, bit_of}
use Rattle.mio_link.specs.Turns.{IsFirst}
use Rattle.mio_link.specs.declared.ready.Ready.{Ready}

-- the bit says that the place is in the set
pub has-one : (ready : Ready) (place : ℕ) → bit_of ready.words place ≡ 1 → place < 320 → has ready place ≡ true
unfolding has
has-one ready place one few = rw one (lt-ltb place 320 few)

-- or that it isn't
pub has-zero : (ready : Ready) (place : ℕ) → bit_of ready.words place ≡ 0 → has ready place ≡ false
unfolding has
has-zero ready place none = rw none refl

and_false : (test : Bool) → (test && false) ≡ false
and_false true = refl
and_false false = refl

-- no place from 320 on is
pub has-far : (ready : Ready) (place : ℕ) → 320 ≤ place → has ready place ≡ false
unfolding has
has-far ready place far = ap (λ few. (bit_of ready.words place == 1) && few) (le-ltb place 320 far) ∙ and_false (bit_of ready.words place == 1)

-- two sets whose bits of a place are the same
pub has-same : (old new : Ready) (place : ℕ) → bit_of new.words place ≡ bit_of old.words place → has new place ≡ has old place
unfolding has
has-same old new place same = rw same refl

-- the words of a set without a place
abbrev pub zeros : List ℕ
zeros = 0 ∷ 0 ∷ 0 ∷ 0 ∷ 0 ∷ []

zero_at : (index : ℕ) → get_or zeros index 0 ≡ 0
zero_at zero = refl
zero_at (suc zero) = refl
zero_at (suc (suc zero)) = refl
zero_at (suc (suc (suc zero))) = refl
zero_at (suc (suc (suc (suc zero)))) = refl
zero_at (suc (suc (suc (suc (suc index))))) = refl

-- in them no bit is set
pub bit_of-zeros : (place : ℕ) → bit_of zeros place ≡ 0
bit_of-zeros place = ap (λ word. bit_at word (place % 64)) (zero_at (place / 64)) ∙ bit_at-zero (place % 64)

-- the bit of the place in a word that was replaced
pub bit_of-set_same : (words : List ℕ) (place word : ℕ) → place / 64 < length words
    → bit_of (set words (place / 64) word) place ≡ bit_at word (place % 64)
bit_of-set_same words place word within =
    ap (λ found. bit_at found (place % 64)) (get_or-set_at words (place / 64) (place / 64) word 0 refl within)

-- the bit of another place, where the others of the word are as they were
set_other : (words : List ℕ) (place word other : ℕ) → place / 64 < length words → other ≢ place
    → ((bit : ℕ) → bit < 64 → bit ≢ place % 64 → bit_at word bit ≡ bit_at (get_or words (place / 64) 0) bit)
    → (other / 64 ≡ place / 64) ⊎ ((other / 64 < place / 64) ⊎ (place / 64 < other / 64))
    → bit_of (set words (place / 64) word) other ≡ bit_of words other
set_other words place word other within different others (inl same) =
    ap (λ found. bit_at found (other % 64)) (get_or-set_at words (place / 64) (other / 64) word 0 same within)
    ∙ (others (other % 64) (omega arith) (λ alike. different (omega arith))
    ∙ ap (λ index. bit_at (get_or words index 0) (other % 64)) (sym same))
set_other words place word other within different others (inr (inl below)) =
    ap (λ found. bit_at found (other % 64)) (get_or-set_other words (place / 64) (other / 64) word 0 (λ same. absurd (omega arith)))
set_other words place word other within different others (inr (inr above)) =
    ap (λ found. bit_at found (other % 64)) (get_or-set_other words (place / 64) (other / 64) word 0 (λ same. absurd (omega arith)))

pub bit_of-set_other : (words : List ℕ) (place word other : ℕ) → place / 64 < length words → other ≢ place
    → ((bit : ℕ) → bit < 64 → bit ≢ place % 64 → bit_at word bit ≡ bit_at (get_or words (place / 64) 0) bit)
    → bit_of (set words (place / 64) word) other ≡ bit_of words other
bit_of-set_other words place word other within different others =
    set_other words place word other within different others (cases_order (other / 64) (place / 64))

-- the bits of a word from a place on, where that is in the word
pub from_exact : (words : List ℕ) (index from left : ℕ) → index ≡ from / 64
    → ((bit : ℕ) → from % 64 ≤ bit → bit < 64 → bit_at left bit ≡ bit_at (get_or words index 0) bit)
    → (other : ℕ) → other / 64 ≡ index → from ≤ other → bit_at left (other % 64) ≡ bit_of words other
from_exact words index from left at others other same reached =
    others (other % 64) (omega arith) (omega arith) ∙ ap (λ word. bit_at (get_or words word 0) (other % 64)) (sym same)

pub from_below : (index from left : ℕ) → index ≡ from / 64 → ((bit : ℕ) → bit < from % 64 → bit_at left bit ≡ 0)
    → (other : ℕ) → other / 64 ≡ index → other < from → bit_at left (other % 64) ≡ 0
from_below index from left at below other same passed = below (other % 64) (omega arith)

-- none of the places of the words up to this index
pub past : (ready : Ready) (from index left : ℕ) → left ≡ 0
    → ((other : ℕ) → other / 64 ≡ index → from ≤ other → bit_at left (other % 64) ≡ bit_of ready.words other)
    → ((other : ℕ) → from ≤ other → other < index * 64 → has ready other ≡ false)
    → (other : ℕ) → from ≤ other → other < (index + 1) * 64 → (other < index * 64) ⊎ (index * 64 ≤ other) → has ready other ≡ false
past ready from index left none exact before other reached passed (inl below) = before other reached below
past ready from index left none exact before other reached passed (inr above) =
    has-zero ready other (sym (exact other (omega arith) reached) ∙ (ap (λ word. bit_at word (other % 64)) none ∙ bit_at-zero (other % 64)))

never_both : (bit : ℕ) → bit ≡ 0 → bit ≡ 1 → ⊥
never_both bit clear set = omega arith

-- the lowest bit that is left is that of the first place
pub found : (ready : Ready) (from index left low place : ℕ) → place / 64 ≡ index → place % 64 ≡ low → place < 320
    → bit_at left low ≡ 1 → ((bit : ℕ) → bit < low → bit_at left bit ≡ 0)
    → ((other : ℕ) → other / 64 ≡ index → from ≤ other → bit_at left (other % 64) ≡ bit_of ready.words other)
    → ((other : ℕ) → other / 64 ≡ index → other < from → bit_at left (other % 64) ≡ 0)
    → ((other : ℕ) → from ≤ other → other < index * 64 → has ready other ≡ false)
    → (place < from) ⊎ (from ≤ place) → IsFirst (has ready) from place
found ready from index left low place at is few one lowest exact below before (inl passed) =
    absurd (never_both (bit_at left (place % 64)) (below place at passed) (ap (bit_at left) is ∙ one))
found ready from index left low place at is few one lowest exact below before (inr reached) = record {
  within = has-one ready place (sym (exact place at reached) ∙ (ap (bit_at left) is ∙ one)) few;
  reached = reached;
  first = λ other behind ahead. elim (cases_lt other (index * 64)) [
    | inl below ↦ before other behind below
    | inr above ↦ has-zero ready other (sym (exact other (omega arith) behind) ∙ lowest (other % 64) (omega arith))
  ];
}
