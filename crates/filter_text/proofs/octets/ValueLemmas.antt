-- One octet of a value's text, for the loop that collects the value.
use Rattle.std.proofs.Common.{◌≡◌, ◌+◌, ◌<◌, ℕ, true, false, List, [], ◌∷◌, ◌++◌, length, drop, get_or, refl, sym, ap, ◌∙◌, append_assoc}
use Rattle.std.specs.Prelude.{if◌then◌else◌, ◌==◌}
use Rattle.std.proofs.lemmas.List.{drop_more}
use Rattle.filter_text.specs.declared.octets.Reading.{Reading}
use Rattle.filter_text.specs.declared.octets.Reading.TheVariants.{Plain, Escaped, HalfByte}
use Rattle.filter_text.specs.declared.octets.Piece.{Piece}
use Rattle.filter_text.specs.declared.octets.Piece.TheVariants.{Within, Octet}
use Rattle.filter_text.specs.Items.{piece_of, octets_from}

-- the octets of a text by its first octet
abbrev pub after_piece : Piece → List ℕ → List ℕ
after_piece (Within reading) xs = octets_from reading xs
after_piece (Octet x) xs = x ∷ octets_from Plain xs

pub octets_from-cons : (reading : Reading) (x : ℕ) (xs : List ℕ) → octets_from reading (x ∷ xs) ≡ after_piece (piece_of reading x) xs
octets_from-cons Plain x xs =
    elim (x == 92) as (λ b. (if b then octets_from Escaped xs else x ∷ octets_from Plain xs) ≡ after_piece (if b then Within Escaped else Octet x) xs) [ true ↦ refl | false ↦ refl ]
octets_from-cons Escaped x xs = refl
octets_from-cons (HalfByte high) x xs = refl

module _ (octets text total : List ℕ) (reading : Reading) (place : ℕ) (piece : Piece) (within : place < length text) (is : piece ≡ piece_of reading (get_or text place 0)) (so_far : octets ++ octets_from reading (drop place text) ≡ total) where
  -- what the loop has, by what the next octet is
  next_piece : octets ++ after_piece piece (drop (place + 1) text) ≡ total
  next_piece =
      ap (λ p. octets ++ after_piece p (drop (place + 1) text)) is
      ∙ ap (λ t. octets ++ t) (sym (octets_from-cons reading (get_or text place 0) (drop (place + 1) text)))
      ∙ ap (λ t. octets ++ octets_from reading t) (sym (drop_more text place 0 within))
      ∙ so_far

  -- within an escape
  pub next-within : (escape : Reading) → piece ≡ Within escape → octets ++ octets_from escape (drop (place + 1) text) ≡ total
  next-within go_on e = ap (λ p. octets ++ after_piece p (drop (place + 1) text)) (sym e) ∙ next_piece

  -- at the end of a piece
  pub next-octet : (octet : ℕ) (items : List ℕ) → piece ≡ Octet octet → items ≡ octets ++ octet ∷ [] → items ++ octets_from Plain (drop (place + 1) text) ≡ total
  next-octet octet items e more =
      ap (λ t. t ++ octets_from Plain (drop (place + 1) text)) more
      ∙ append_assoc octets (octet ∷ []) (octets_from Plain (drop (place + 1) text))
      ∙ ap (λ p. octets ++ after_piece p (drop (place + 1) text)) (sym e) ∙ next_piece
