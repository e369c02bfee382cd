-- One octet of a value's text, for the loop that collects the value.
use Rattle.std.proofs.Common.{◌≡◌, ◌≤◌, ◌+◌, ◌*◌, ◌<◌, ℕ, true, false, List, [], ◌∷◌, ◌++◌, length, take, drop, get_or, refl, sym, ap, subst, ◌∙◌, append_assoc}
use Rattle.std.specs.Prelude.{if◌then◌else◌, ◌==◌}
use Rattle.std.proofs.lemmas.List.{take-append-le, take_all, drop_more}
use Rattle.dn_names.specs.declared.octets.Reading.{Reading}
use Rattle.dn_names.specs.declared.octets.Reading.TheVariants.{Plain, Escaped, HalfByte}
use Rattle.dn_names.specs.declared.octets.Piece.{Piece}
use Rattle.dn_names.specs.declared.octets.Piece.TheVariants.{Within, BareSpace, Octet}
use Rattle.dn_names.specs.Classes.{class_of, is_hex}
use Rattle.dn_names.specs.Reading.{spaced, hex_value, piece_of, octets_from}

-- octets before others; those that are kept where no other comes
abbrev pub ended : ℕ → List ℕ → List ℕ → List ℕ
ended kept octets [] = take kept octets
ended kept octets (x ∷ xs) = octets ++ x ∷ xs

-- the octets of a text by its first octet
abbrev pub after_piece : Piece → List ℕ → List ℕ
after_piece (Within reading) xs = octets_from reading xs
after_piece BareSpace xs = spaced (octets_from Plain xs)
after_piece (Octet x) xs = x ∷ octets_from Plain xs

pub octets_from-cons : (reading : Reading) (x : ℕ) (xs : List ℕ) → octets_from reading (x ∷ xs) ≡ after_piece (piece_of reading x) xs
octets_from-cons Plain x xs =
    elim (x == 92) as (λ b. (if b then octets_from Escaped xs else if x == 32 then spaced (octets_from Plain xs) else x ∷ octets_from Plain xs) ≡ after_piece (if b then Within Escaped else if x == 32 then BareSpace else Octet x) xs) [
      | true ↦ refl
      | false ↦ elim (x == 32) as (λ b. (if b then spaced (octets_from Plain xs) else x ∷ octets_from Plain xs) ≡ after_piece (if b then BareSpace else Octet x) xs) [ true ↦ refl | false ↦ refl ]
    ]
octets_from-cons Escaped x xs =
    elim (is_hex (class_of x)) as (λ b. (if b then octets_from (HalfByte (16 * hex_value x)) xs else x ∷ octets_from Plain xs) ≡ after_piece (if b then Within (HalfByte (16 * hex_value x)) else Octet x) xs) [ true ↦ refl | false ↦ refl ]
octets_from-cons (HalfByte high) x xs = refl

-- a bare space
pub ended-space : (kept : ℕ) (octets rest : List ℕ) → kept ≤ length octets → ended kept (octets ++ 32 ∷ []) rest ≡ ended kept octets (spaced rest)
ended-space kept octets [] h = take-append-le kept octets (32 ∷ []) h
ended-space kept octets (x ∷ rest) h = append_assoc octets (32 ∷ []) (x ∷ rest)

-- the end of a piece
pub ended-octet : (kept size x : ℕ) (octets rest : List ℕ) → length (octets ++ x ∷ []) ≤ size → ended size (octets ++ x ∷ []) rest ≡ ended kept octets (x ∷ rest)
ended-octet kept size x octets [] h = take_all size (octets ++ x ∷ []) h
ended-octet kept size x octets (y ∷ rest) h = append_assoc octets (x ∷ []) (y ∷ rest)

module _ (kept : ℕ) (octets text total : List ℕ) (reading : Reading) (place : ℕ) (piece : Piece) (within : place < length text) (is : piece ≡ piece_of reading (get_or text place 0)) (so_far : ended kept octets (octets_from reading (drop place text)) ≡ total) where
  -- what the loop has, by what the next octet is
  next_piece : ended kept octets (after_piece piece (drop (place + 1) text)) ≡ total
  next_piece =
      ap (λ p. ended kept octets (after_piece p (drop (place + 1) text))) is
      ∙ ap (ended kept octets) (sym (octets_from-cons reading (get_or text place 0) (drop (place + 1) text)))
      ∙ ap (λ t. ended kept octets (octets_from reading t)) (sym (drop_more text place 0 within))
      ∙ so_far

  -- within an escape
  pub next-within : (escape : Reading) → piece ≡ Within escape → ended kept octets (octets_from escape (drop (place + 1) text)) ≡ total
  next-within go_on e = ap (λ p. ended kept octets (after_piece p (drop (place + 1) text))) (sym e) ∙ next_piece

  -- at a bare space
  pub next-space : kept ≤ length octets → piece ≡ BareSpace → (items : List ℕ) → items ≡ octets ++ 32 ∷ [] → ended kept items (octets_from Plain (drop (place + 1) text)) ≡ total
  next-space h e items more =
      ap (λ t. ended kept t (octets_from Plain (drop (place + 1) text))) more
      ∙ ended-space kept octets (octets_from Plain (drop (place + 1) text)) h
      ∙ ap (λ p. ended kept octets (after_piece p (drop (place + 1) text))) (sym e) ∙ next_piece

  -- at the end of a piece
  pub next-octet : (octet size : ℕ) (items : List ℕ) → piece ≡ Octet octet → items ≡ octets ++ octet ∷ [] → length items ≤ size → ended size items (octets_from Plain (drop (place + 1) text)) ≡ total
  next-octet octet size items e more h =
      ap (λ t. ended size t (octets_from Plain (drop (place + 1) text))) more
      ∙ ended-octet kept size octet octets (octets_from Plain (drop (place + 1) text)) (subst (λ (t : List ℕ). length t ≤ size) more h)
      ∙ ap (λ p. ended kept octets (after_piece p (drop (place + 1) text))) (sym e) ∙ next_piece
