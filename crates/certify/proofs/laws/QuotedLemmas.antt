-- A printed tag is a string also where its octets are kept in one line, and so a tuple's line is in its form.
use Rattle.std.proofs.Common.{◌≡◌, ℕ, ◌==◌, ◌∙◌, ap, cond, refl, Bool, true, false, ◌||◌, List, [], ◌∷◌, ◌++◌}
use Rattle.std.specs.Prelude.{codes, if◌then◌else◌}
use Rattle.std.proofs.lemmas.List.{append_assoc, append-nil}
use Rattle.std.proofs.lemmas.List.Concat.{flat_map-append}
use Rattle.acdf_filters.specs.gser_tree.Strings.{doubled, quoted}
use Rattle.acdf_filters.specs.gser_tree.Writing.{text_of, print_string}
use Rattle.line_text.specs.Escapes.{escaped_octet, escaped}
use Rattle.explanation.specs.Texts.{effect}
use Rattle.certify.specs.FormLines.{is_closed, is_quoted, is_effect}

-- an octet that is no quotation mark, or its escape, opens and closes nothing
other-by : (octet : ℕ) (rest : List ℕ) (is_backslash is_feed is_return : Bool) → (octet == 34) ≡ false
    → is_closed false (cond is_backslash (codes "\\5c") (cond is_feed (codes "\\0a") (cond is_return (codes "\\0d") (octet ∷ []))) ++ rest) ≡ is_closed false rest
other-by octet rest true is_feed is_return other = refl
other-by octet rest false true is_return other = refl
other-by octet rest false false true other = refl
other-by octet rest false false false other = ap (λ half. is_closed half rest) other

-- and neither do doubled quotation marks
is_closed-doubled : (text rest : List ℕ) → is_closed false (escaped (doubled text) ++ rest) ≡ is_closed false rest
unfolding escaped
is_closed-doubled [] rest = refl
is_closed-doubled (octet ∷ text) rest = by (octet == 34) refl (is_closed-doubled text rest)
  where
    by : (is_mark : Bool) → (octet == 34) ≡ is_mark → is_closed false (escaped (doubled text) ++ rest) ≡ is_closed false rest
        → is_closed false (escaped (if is_mark then 34 ∷ 34 ∷ doubled text else octet ∷ doubled text) ++ rest) ≡ is_closed false rest
    by true mark behind = behind
    by false mark behind =
        ap (is_closed false) (append_assoc (escaped_octet octet) (escaped (doubled text)) rest)
        ∙ other-by octet (escaped (doubled text) ++ rest) (octet == 92) (octet == 10) (octet == 13) mark
        ∙ behind

one_mark : is_closed false (escaped (34 ∷ [])) ≡ true
unfolding escaped
one_mark = refl

pub is_quoted-string : (tag : List ℕ) → is_quoted (escaped (text_of (print_string tag))) ≡ true
unfolding escaped
is_quoted-string tag =
    ap (λ text. is_quoted (escaped text)) (append-nil (quoted tag))
    ∙ ap (is_closed false) (flat_map-append escaped_octet (doubled tag) (34 ∷ []))
    ∙ is_closed-doubled tag (escaped (34 ∷ []))
    ∙ one_mark

-- what a tuple does, and its tag
pub is_effect-printed : (grants : Bool) (string : List ℕ) → is_quoted string ≡ true → is_effect (codes " " ++ (effect grants ++ (codes " " ++ string))) ≡ true
is_effect-printed true string is = ap (λ is. is || false) is
is_effect-printed false string is = is
