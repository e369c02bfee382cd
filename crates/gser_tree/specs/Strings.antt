-- Strings (RFC 3641 section 3.2, StringValue): any text in quotation marks, with each quotation mark in it twice.
use Rattle.std.specs.Prelude.{◌≡◌, ℕ, ◌==◌, List, [], ◌∷◌, ◌++◌, length, take, if◌then◌else◌}

-- each quotation mark twice
abbrev pub doubled : List ℕ → List ℕ
doubled [] = []
doubled (octet ∷ octets) = if octet == 34 then 34 ∷ 34 ∷ doubled octets else octet ∷ doubled octets

-- a text in quotation marks, each in it twice
abbrev pub quoted : List ℕ → List ℕ
quoted text = 34 ∷ doubled text ++ 34 ∷ []

-- for the inside of the crate alone: the later text begins with the earlier one
abbrev pub IsKept : List ℕ → List ℕ → Type 0
IsKept earlier later = take (length earlier) later ≡ earlier
