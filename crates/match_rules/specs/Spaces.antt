-- Spaces in a text (after RFC 4518, section 2.6.1): which are cut, and which are joined. U+0020 is the one octet
-- 0x20 of UTF-8, and no other character has this octet, so the text is read here as octets.
use Rattle.std.specs.Prelude.{ℕ, Bool, ◌==◌, ◌&&◌, List, [], ◌∷◌, reverse, if◌then◌else◌}
use Rattle.std.specs.List.{dedup}

-- the octet is U+0020
abbrev pub is_space : ℕ → Bool
is_space octet = octet == 0x20

-- the text without the spaces at its front
abbrev pub cut_front : List ℕ → List ℕ
cut_front [] = []
cut_front (octet ∷ octets) = if is_space octet then cut_front octets else octet ∷ octets

-- the text without the spaces at its end
abbrev pub cut_end : List ℕ → List ℕ
cut_end octets = reverse (cut_front (reverse octets))

-- the text with each run of spaces made one: each space that follows a space is left out
abbrev pub single_spaces : List ℕ → List ℕ
single_spaces = dedup (λ octet before. is_space octet && is_space before)

-- the text with its spaces cut at both ends and joined within
abbrev pub cut_and_joined : List ℕ → List ℕ
cut_and_joined text = single_spaces (cut_end (cut_front text))
