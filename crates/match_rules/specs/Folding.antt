-- Texts in their folded form (The Unicode Standard, sections 3.11 and 3.13; after RFC 4518, sections 2.2 and 2.3).
use Rattle.std.specs.Prelude.{ℕ, List, chars, encode_utf8_all}
use Rattle.caseless.specs.Caseless.{default_case_fold}
use Rattle.unicode_normalization.specs.Forms.{nfkc}

-- the characters in NFKC, with their case folded in full, in NFKC again
abbrev pub folded : List ℕ → List ℕ
folded characters = nfkc (default_case_fold (nfkc characters))

-- the octets of a text in its folded form
unfoldable pub folded_octets : List ℕ → List ℕ
folded_octets octets = encode_utf8_all (folded (chars octets))
