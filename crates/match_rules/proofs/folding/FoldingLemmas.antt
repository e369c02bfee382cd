-- Folded texts of ASCII characters alone.
use Rattle.std.proofs.Common.{◌≡◌, ℕ, List, map, IsAscii, encode_utf8_all, ap, ◌∙◌}
use Rattle.std.proofs.lemmas.Str.{chars-IsAscii}
use Rattle.std.proofs.lemmas.Str.Ascii.{All-from_ascii, IsAscii-map, lowercase_ascii, encodes-IsAscii}
use Rattle.std.specs.Char.{to_ascii_lowercase}
use Rattle.caseless.specs.Caseless.{default_case_fold}
use Rattle.caseless.proofs.CaselessLemmas.{default_case_fold-ascii}
use Rattle.unicode_normalization.specs.Forms.{nfkc, Nfkc}
use Rattle.unicode_normalization.proofs.FormsLemmas.{normalize-ascii}
use Rattle.match_rules.specs.Folding.{folded, folded_octets}

-- the small letters of an ASCII text are an ASCII text
pub IsAscii-lower : (octets : List ℕ) → IsAscii octets → IsAscii (map to_ascii_lowercase octets)
IsAscii-lower octets ascii = IsAscii-map to_ascii_lowercase octets lowercase_ascii ascii

-- ASCII characters fold to their small letters
pub folded-ascii : (octets : List ℕ) → IsAscii octets → folded octets ≡ map to_ascii_lowercase octets
folded-ascii octets ascii =
    let all = All-from_ascii octets ascii in
    let composed = normalize-ascii Nfkc octets all in
    let caseless = default_case_fold-ascii octets all in
    let again = normalize-ascii Nfkc (map to_ascii_lowercase octets) (All-from_ascii _ (IsAscii-lower octets ascii)) in
    ap (λ cs. nfkc (default_case_fold cs)) composed ∙ ap nfkc caseless ∙ again

-- so a text of ASCII octets folds to the text with small letters
pub folded_octets-ascii : (octets : List ℕ) → IsAscii octets → folded_octets octets ≡ map to_ascii_lowercase octets
unfolding folded_octets
folded_octets-ascii octets ascii =
    ap (λ cs. encode_utf8_all (folded cs)) (chars-IsAscii octets ascii)
    ∙ ap encode_utf8_all (folded-ascii octets ascii)
    ∙ encodes-IsAscii _ (IsAscii-lower octets ascii)
