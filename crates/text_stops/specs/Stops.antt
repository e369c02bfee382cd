-- Where a text leaves the table of what may stand where, as it is read from its front: at the first mark, word or string
-- that may not stand where it does, or at the end, where something is wanted there; and the word in the way.
use Rattle.std.specs.Prelude.{ℕ, ◌==◌, nat_le, Bool, ◌&&◌, ◌||◌, List, [], ◌∷◌, ◌++◌, drop, codes, Option, if◌then◌else◌}
use Rattle.std.specs.List.{list_all, before_first}
use Rattle.std.specs.Str.{is_utf8}
use Rattle.text_stops.specs.Standing.{stop_in}

-- in the text of an access control item (X.501 18.4.2)
unfoldable pub item_stop : List ℕ → Option ℕ
item_stop text = stop_in (codes "ACIItem") text

-- in that of a subtree specification (RFC 3672 Appendix A)
unfoldable pub subtree_stop : List ℕ → Option ℕ
subtree_stop text = stop_in (codes "SubtreeSpecification") text

-- a mark
abbrev pub is_mark : ℕ → Bool
is_mark octet = (octet == 44) || (octet == 58) || (octet == 123) || (octet == 125)

-- an octet that ends a word
abbrev pub ends_word : ℕ → Bool
ends_word octet = is_mark octet || (octet == 32) || (octet == 34)

-- the word at the front: what is in a string, a mark, or octets up to the next space, mark or quotation mark
abbrev pub word_at : ℕ → List ℕ → List ℕ
word_at first rest =
    if first == 34 then before_first (λ octet. octet == 34) rest
    else if is_mark first then first ∷ []
    else before_first ends_word (first ∷ rest)

-- it can be shown in a line: UTF-8 without control characters
abbrev pub is_shown : List ℕ → Bool
is_shown word = is_utf8 word && list_all (λ octet. nat_le 32 octet) word

-- octets in quotation marks, where they can be shown in a line
unfoldable pub shown : List ℕ → List ℕ
shown octets = if is_shown octets then codes "\"" ++ (octets ++ codes "\"") else codes "octets that are no text"

-- the word in the way, or that the text ends
abbrev pub front_word : List ℕ → List ℕ
front_word [] = codes "the end"
front_word (first ∷ rest) = shown (word_at first rest)

-- the same at a place of the text
unfoldable pub stop_word : List ℕ → ℕ → List ℕ
stop_word text place = front_word (drop place text)
