-- Lemmas on texts in one line: what stays, and what the parts of a name are in one line.
use Rattle.std.proofs.Common.{◌≡◌, ◌≢◌, ℕ, ◌==◌, ◌∙◌, sym, ap, subst, cond, refl, arith, inl, inr, ◌⊎◌, Bool, true, false, List, [], ◌∷◌, ◌++◌, get_or}
use Rattle.std.specs.Prelude.{codes, slice_index}
use Rattle.std.specs.List.{AllByRecursion}
use Rattle.std.proofs.lemmas.Bool.Decides.{nat_tests}
use Rattle.std.proofs.lemmas.List.{append-nil}
use Rattle.std.proofs.lemmas.List.Concat.{flat_map-append}
use Rattle.dn_names.specs.Classes.{class_of, is_hex, is_plain, is_escapable}
use Rattle.dn_names.specs.Spelling.{AreSpaces, IsPiece}
use Rattle.line_text.specs.Escapes.{one_line_octet, one_line}

pub one_line-append : (one other : List ℕ) → one_line (one ++ other) ≡ one_line one ++ one_line other
unfolding one_line
one_line-append one other = flat_map-append one_line_octet one other

-- an octet that ends no line stays
pub octet-stays : (octet : ℕ) → octet ≢ 10 → octet ≢ 13 → one_line_octet octet ≡ octet ∷ []
octet-stays octet feed return = grind (arith, nat_tests)

-- a text of such octets stays
pub text-stays : (P : ℕ → Type 0) → ((octet : ℕ) → P octet → one_line_octet octet ≡ octet ∷ []) → (text : List ℕ) → AllByRecursion P text → one_line text ≡ text
unfolding one_line
text-stays P stay [] all = refl
text-stays P stay (octet ∷ text) all = ap (λ front. front ++ one_line text) (stay octet all.0) ∙ ap (λ rest. octet ∷ rest) (text-stays P stay text all.1)

space-stays : (octet : ℕ) → octet ≡ 32 → one_line_octet octet ≡ octet ∷ []
space-stays octet is = rw is refl

pub spaces-stay : (text : List ℕ) → AreSpaces text → one_line text ≡ text
spaces-stay text spaces = text-stays (λ octet. octet ≡ 32) space-stays text spaces

-- the first octet stays or becomes a backslash
front-by : (octet : ℕ) (text : List ℕ) (is_feed is_return : Bool)
    → (slice_index (cond is_feed (codes "\\0a") (cond is_return (codes "\\0d") (octet ∷ [])) ++ text) 0 ≡ octet)
    ⊎ (slice_index (cond is_feed (codes "\\0a") (cond is_return (codes "\\0d") (octet ∷ [])) ++ text) 0 ≡ 92)
front-by octet text true is_return = inr refl
front-by octet text false true = inr refl
front-by octet text false false = inl refl

pub front-one_line : (text : List ℕ) → (slice_index (one_line text) 0 ≡ slice_index text 0) ⊎ (slice_index (one_line text) 0 ≡ 92)
unfolding one_line
front-one_line [] = inl refl
front-one_line (octet ∷ text) = front-by octet (one_line text) (octet == 10) (octet == 13)

-- another first octet is still another
other-by : (now then wanted : ℕ) → wanted ≢ 92 → then ≢ wanted → (now ≡ then) ⊎ (now ≡ 92) → now ≢ wanted
other-by now then wanted backslash other (inl same) = λ is. other (sym same ∙ is)
other-by now then wanted backslash other (inr is_backslash) = λ is. backslash (sym is ∙ is_backslash)

pub front-other : (text : List ℕ) (wanted : ℕ) → wanted ≢ 92 → slice_index text 0 ≢ wanted → slice_index (one_line text) 0 ≢ wanted
front-other text wanted backslash other = other-by (slice_index (one_line text) 0) (slice_index text 0) wanted backslash other (front-one_line text)

-- one space in one line was one space
empty-by : (octet : ℕ) (text : List ℕ) (is_feed is_return : Bool) → cond is_feed (codes "\\0a") (cond is_return (codes "\\0d") (octet ∷ [])) ++ text ≢ []
empty-by octet text true is_return = λ is. cc
empty-by octet text false true = λ is. cc
empty-by octet text false false = λ is. cc

empty-was : (text : List ℕ) → one_line text ≡ [] → text ≡ []
unfolding one_line
empty-was [] is = refl
empty-was (octet ∷ text) is = absurd (empty-by octet (one_line text) (octet == 10) (octet == 13) is)

backslash-space : (text : List ℕ) → 92 ∷ text ≡ 32 ∷ [] → ⊥
backslash-space text is = let first : get_or (92 ∷ text) 0 0 ≡ 32 = ap (λ octets. get_or octets 0 0) is in omega (arith, first)

space-by : (octet : ℕ) (text : List ℕ) (is_feed is_return : Bool) → (one_line text ≡ [] → text ≡ [])
    → cond is_feed (codes "\\0a") (cond is_return (codes "\\0d") (octet ∷ [])) ++ one_line text ≡ 32 ∷ [] → octet ∷ text ≡ 32 ∷ []
space-by octet text true is_return empty is = absurd (backslash-space (48 ∷ 97 ∷ one_line text) is)
space-by octet text false true empty is = absurd (backslash-space (48 ∷ 100 ∷ one_line text) is)
space-by octet text false false empty is = (let rest : one_line text ≡ [] = cc in let none = empty rest in cc)

pub space-was : (text : List ℕ) → one_line text ≡ 32 ∷ [] → text ≡ 32 ∷ []
unfolding one_line
space-was [] is = is
space-was (octet ∷ text) is = space-by octet text (octet == 10) (octet == 13) (empty-was text) is

-- hexadecimal digits and octets that may be escaped end no line
pub hex-stays : (octet : ℕ) → is_hex (class_of octet) ≡ true → one_line_octet octet ≡ octet ∷ []
unfolding class_of
hex-stays octet is = grind (arith, nat_tests)

pub escapable-stays : (octet : ℕ) → is_escapable (class_of octet) ≡ true → one_line_octet octet ≡ octet ∷ []
unfolding class_of
escapable-stays octet is = grind (arith, nat_tests)

zero_hex : is_hex (class_of 48) ≡ true
unfolding class_of
zero_hex = refl

a_hex : is_hex (class_of 97) ≡ true
unfolding class_of
a_hex = refl

d_hex : is_hex (class_of 100) ≡ true
unfolding class_of
d_hex = refl

-- an octet that stood alone stands alone or as an escape
plain-by : (octet : ℕ) (is_feed is_return : Bool) → (octet == 10) ≡ is_feed → (octet == 13) ≡ is_return → is_plain (class_of octet) ≡ true
    → IsPiece octet (cond is_feed (codes "\\0a") (cond is_return (codes "\\0d") (octet ∷ [])))
plain-by octet true is_return feed return plain = inr (inr (48, 97, refl, zero_hex, a_hex, grind (arith, nat_tests)))
plain-by octet false true feed return plain = inr (inr (48, 100, refl, zero_hex, d_hex, grind (arith, nat_tests)))
plain-by octet false false feed return plain = inl (refl, plain)

plain-one_line : (octet : ℕ) → is_plain (class_of octet) ≡ true → IsPiece octet (one_line (octet ∷ []))
unfolding one_line
plain-one_line octet plain = rw append-nil (plain-by octet (octet == 10) (octet == 13) refl refl plain)

-- two and three octets of which all but the first stay
escape-one_line : (octet : ℕ) → one_line_octet octet ≡ octet ∷ [] → one_line (92 ∷ octet ∷ []) ≡ 92 ∷ octet ∷ []
unfolding one_line
escape-one_line octet stays = ap (λ text. 92 ∷ text ++ []) stays

pair-one_line : (high low : ℕ) → one_line_octet high ≡ high ∷ [] → one_line_octet low ≡ low ∷ [] → one_line (92 ∷ high ∷ low ∷ []) ≡ 92 ∷ high ∷ low ∷ []
unfolding one_line
pair-one_line high low stays too = ap (λ text. 92 ∷ text ++ (one_line_octet low ++ [])) stays ∙ ap (λ text. 92 ∷ high ∷ text ++ []) too

-- an octet's text in one line is a text of the octet
pub piece-one_line : (octet : ℕ) (text : List ℕ) → IsPiece octet text → IsPiece octet (one_line text)
piece-one_line octet text (inl alone) = subst (λ (text : List ℕ). IsPiece octet (one_line text)) (sym alone.0) (plain-one_line octet alone.1)
piece-one_line octet text (inr (inl behind)) = inr (inl (ap one_line behind.0 ∙ escape-one_line octet (escapable-stays octet behind.1), behind.1))
piece-one_line octet text (inr (inr pair)) =
    inr (inr (pair.0, pair.1, ap one_line pair.2 ∙ pair-one_line pair.0 pair.1 (hex-stays pair.0 pair.3) (hex-stays pair.1 pair.4), pair.3, pair.4, pair.5))
