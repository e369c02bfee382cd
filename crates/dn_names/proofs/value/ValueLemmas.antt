-- What spells a value's octets is read as those octets, and is one part at the marks between pairs and RDNs.
use Rattle.std.proofs.Common.{◌≡◌, ◌≢◌, ◌+◌, ◌*◌, ℕ, Bool, true, false, List, [], ◌∷◌, ◌++◌, inl, inr, refl, sym, ap, subst, ◌∙◌, arith, eqb-true}
use Rattle.std.specs.Prelude.{◌==◌, ◌%◌, if◌then◌else◌, slice_index}
use Rattle.std.specs.Char.{digit_value}
use Rattle.std.proofs.lemmas.Bool.{cond-false, cond-true}
use Rattle.std.proofs.lemmas.Bool.Decides.{nat_tests}
use Rattle.dn_names.specs.declared.octets.Reading.TheVariants.{Plain, Escaped, HalfByte}
use Rattle.dn_names.specs.Classes.{class_of, is_hex, is_plain, is_escapable}
use Rattle.dn_names.specs.Spelling.{AreSpaces, IsPiece, SpellsOctets, SpellsValue}
use Rattle.dn_names.specs.Reading.{without_spaces, spaced, hex_value, octets_from, value_octets}
use Rattle.dn_names.proofs.name.ClassLemmas.{hex_value_is, hex_below, plain_other, hex_other, escapable_no_hex}
use Rattle.dn_names.proofs.parts.PartsLemmas.{is_clean, is_clean-append}

-- the mark between RDNs, or between pairs
abbrev pub separator : Bool → ℕ
separator true = 44
separator false = 43

-- spaces alone are read as nothing
octets_from-spaces : (text : List ℕ) → AreSpaces text → octets_from Plain text ≡ []
octets_from-spaces [] h = refl
octets_from-spaces (x ∷ xs) h = rw h.0 (ap spaced (octets_from-spaces xs h.1))

spaced-cons : (octets : List ℕ) → octets ≢ [] → spaced octets ≡ 32 ∷ octets
spaced-cons [] h = absurd (h refl)
spaced-cons (x ∷ xs) h = refl

-- one piece before the others
plain_piece : (octet : ℕ) (octets rest : List ℕ) → is_plain (class_of octet) ≡ true → octets_from Plain rest ≡ octets → (octets ≡ [] → octet ∷ [] ≢ 32 ∷ []) → octets_from Plain (octet ∷ rest) ≡ octet ∷ octets
plain_piece octet octets rest plain e last =
    let others = plain_other octet plain in
    cond-false (octet == 92) (octets_from Escaped rest) (if octet == 32 then spaced (octets_from Plain rest) else octet ∷ octets_from Plain rest) others.2
    ∙ (elim (octet == 32) as (λ b. (octet == 32) ≡ b → (if b then spaced (octets_from Plain rest) else octet ∷ octets_from Plain rest) ≡ octet ∷ octets) [
      | true ↦ λ is. (let same = eqb-true octet 32 is in
          ap spaced e ∙ spaced-cons octets (λ nil. last nil (ap (λ x. x ∷ []) same)) ∙ ap (λ x. x ∷ octets) (sym same))
      | false ↦ λ _. ap (λ t. octet ∷ t) e
    ] refl)

escaped_piece : (octet : ℕ) (octets rest : List ℕ) → is_escapable (class_of octet) ≡ true → octets_from Plain rest ≡ octets → octets_from Plain (92 ∷ octet ∷ rest) ≡ octet ∷ octets
escaped_piece octet octets rest h e =
    cond-false (is_hex (class_of octet)) (octets_from (HalfByte (16 * hex_value octet)) rest) (octet ∷ octets_from Plain rest) (escapable_no_hex octet h)
    ∙ ap (λ t. octet ∷ t) e

hex_piece : (octet high low : ℕ) (octets rest : List ℕ) → is_hex (class_of high) ≡ true → is_hex (class_of low) ≡ true → octet ≡ 16 * digit_value high + digit_value low → octets_from Plain rest ≡ octets → octets_from Plain (92 ∷ high ∷ low ∷ rest) ≡ octet ∷ octets
hex_piece octet high low octets rest is_high is_low e others =
    let a = hex_value_is high is_high in
    let b = hex_value_is low is_low in
    let c = hex_below high is_high in
    let d = hex_below low is_low in
    let whole : (16 * hex_value high + hex_value low) % 256 ≡ octet = (rw (a, b, e) (omega (arith, c, d))) in
    cond-true (is_hex (class_of high)) (octets_from (HalfByte (16 * hex_value high)) (low ∷ rest)) (high ∷ octets_from Plain (low ∷ rest)) is_high
    ∙ ap (λ x. x ∷ octets_from Plain rest) whole ∙ ap (λ t. octet ∷ t) others

-- what spells octets is read as them
pub octets_from-spelled : (octets text : List ℕ) → SpellsOctets octets text → octets_from Plain text ≡ octets
octets_from-spelled [] text h = octets_from-spaces text h
octets_from-spelled (octet ∷ octets) text (front, rest, e, inl p, more, last) =
    let others = octets_from-spelled octets rest more in
    ap (octets_from Plain) (e ∙ ap (λ t. t ++ rest) p.0)
    ∙ plain_piece octet octets rest p.1 others (λ nil. subst (λ (t : List ℕ). t ≢ 32 ∷ []) p.0 (last nil))
octets_from-spelled (octet ∷ octets) text (front, rest, e, inr (inl p), more, last) =
    let others = octets_from-spelled octets rest more in
    ap (octets_from Plain) (e ∙ ap (λ t. t ++ rest) p.0) ∙ escaped_piece octet octets rest p.1 others
octets_from-spelled (octet ∷ octets) text (front, rest, e, inr (inr p), more, last) =
    let others = octets_from-spelled octets rest more in
    ap (octets_from Plain) (e ∙ ap (λ t. t ++ rest) p.2)
    ∙ hex_piece octet p.0 p.1 octets rest p.3 p.4 p.5 others

-- spaces before a text that begins with none
pub without_spaces-append : (gap rest : List ℕ) → AreSpaces gap → slice_index rest 0 ≢ 32 → without_spaces (gap ++ rest) ≡ rest
without_spaces-append [] [] h n = refl
without_spaces-append [] (x ∷ rest) h n =
    cond-false (x == 32) (without_spaces rest) (x ∷ rest) (grind (arith, nat_tests, n))
without_spaces-append (x ∷ gap) rest h n = rw h.0 (without_spaces-append gap rest h.1 n)

-- what spells a value is read as its octets
pub value_octets-spelled : (octets text : List ℕ) → SpellsValue octets text → value_octets text ≡ octets
unfolding value_octets
value_octets-spelled octets text (gap, rest, e, spaces, no_space, no_hash, spelled) =
    ap (λ t. octets_from Plain (without_spaces t)) e
    ∙ ap (octets_from Plain) (without_spaces-append gap rest spaces no_space)
    ∙ octets_from-spelled octets rest spelled

clean_one : (mark x : ℕ) → (x == mark) ≡ false → (x == 92) ≡ false → is_clean mark false (x ∷ []) ≡ true
clean_one mark x a b = rw (a, b)

clean_pair : (m : Bool) (x : ℕ) → is_clean (separator m) false (92 ∷ x ∷ []) ≡ true
clean_pair true x = refl
clean_pair false x = refl

other_mark : (m : Bool) (x : ℕ) → ((x == 43) ≡ false) × ((x == 44) ≡ false) × ((x == 92) ≡ false) → (x == separator m) ≡ false
other_mark true x h = h.1
other_mark false x h = h.0

-- a piece is one part
piece_clean : (m : Bool) (octet : ℕ) (text : List ℕ) → IsPiece octet text → is_clean (separator m) false text ≡ true
piece_clean m octet text (inl p) =
    let others = plain_other octet p.1 in
    ap (is_clean (separator m) false) p.0 ∙ clean_one (separator m) octet (other_mark m octet others) others.2
piece_clean m octet text (inr (inl p)) = ap (is_clean (separator m) false) p.0 ∙ clean_pair m octet
piece_clean m octet text (inr (inr p)) =
    let others = hex_other p.1 p.4 in
    ap (is_clean (separator m) false) p.2
    ∙ is_clean-append (separator m) false (92 ∷ p.0 ∷ []) (p.1 ∷ []) (clean_pair m p.0)
    (clean_one (separator m) p.1 (other_mark m p.1 others) others.2)

space_clean : (m : Bool) → is_clean (separator m) false (32 ∷ []) ≡ true
space_clean true = refl
space_clean false = refl

-- spaces are one part
pub spaces_clean : (m : Bool) (text : List ℕ) → AreSpaces text → is_clean (separator m) false text ≡ true
spaces_clean m [] h = refl
spaces_clean m (x ∷ xs) h =
    is_clean-append (separator m) false (x ∷ []) xs (ap (λ y. is_clean (separator m) false (y ∷ [])) h.0 ∙ space_clean m) (spaces_clean m xs h.1)

octets_clean : (m : Bool) (octets text : List ℕ) → SpellsOctets octets text → is_clean (separator m) false text ≡ true
octets_clean m [] text h = spaces_clean m text h
octets_clean m (octet ∷ octets) text (front, rest, e, piece, more, last) =
    ap (is_clean (separator m) false) e
    ∙ is_clean-append (separator m) false front rest (piece_clean m octet front piece) (octets_clean m octets rest more)

-- a value is one part
pub value_clean : (m : Bool) (octets text : List ℕ) → SpellsValue octets text → is_clean (separator m) false text ≡ true
value_clean m octets text (gap, rest, e, spaces, no_space, no_hash, spelled) =
    ap (is_clean (separator m) false) e
    ∙ is_clean-append (separator m) false gap rest (spaces_clean m gap spaces) (octets_clean m octets rest spelled)
