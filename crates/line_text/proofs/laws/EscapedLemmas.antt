-- What is escaped is read back.
use Rattle.std.proofs.Common.{◌≡◌, ℕ, ◌==◌, ◌∙◌, ap, cond, refl, arith, Bool, true, false, List, [], ◌∷◌, ◌++◌, Some}
use Rattle.std.specs.Prelude.{option_map, codes}
use Rattle.std.proofs.lemmas.Bool.Decides.{nat_tests}
use Rattle.line_text.specs.Escapes.{escaped_octet, escaped, read_back}
use Rattle.line_text.proofs.reading.ReadingLemmas.{read_back-plain, read_back-escape}

-- by the octet: a backslash, LF, CR or another
octet-by : (octet : ℕ) (text : List ℕ) (is_backslash is_feed is_return : Bool) → (octet == 92) ≡ is_backslash → (octet == 10) ≡ is_feed → (octet == 13) ≡ is_return
    → read_back (cond is_backslash (codes "\\5c") (cond is_feed (codes "\\0a") (cond is_return (codes "\\0d") (octet ∷ []))) ++ text)
    ≡ option_map (λ rest. octet ∷ rest) (read_back text)
octet-by octet text true is_feed is_return backslash feed return =
    let same : octet ≡ 92 = grind (arith, nat_tests) in rw same (read_back-escape 53 99 92 text refl)
octet-by octet text false true is_return backslash feed return =
    let same : octet ≡ 10 = grind (arith, nat_tests) in rw same (read_back-escape 48 97 10 text refl)
octet-by octet text false false true backslash feed return =
    let same : octet ≡ 13 = grind (arith, nat_tests) in rw same (read_back-escape 48 100 13 text refl)
octet-by octet text false false false backslash feed return = read_back-plain octet text backslash

-- an octet that was escaped is read back
octet-read : (octet : ℕ) (text : List ℕ) → read_back (escaped_octet octet ++ text) ≡ option_map (λ rest. octet ∷ rest) (read_back text)
octet-read octet text = octet-by octet text (octet == 92) (octet == 10) (octet == 13) refl refl refl

no_octets : read_back [] ≡ Some []
unfolding read_back
no_octets = refl

pub read_back-escaped : (octets : List ℕ) → read_back (escaped octets) ≡ Some octets
unfolding escaped
read_back-escaped [] = no_octets
read_back-escaped (octet ∷ octets) = octet-read octet (escaped octets) ∙ ap (option_map (λ rest. octet ∷ rest)) (read_back-escaped octets)
