-- Substring matches by a test (RFC 4511 4.5.1.7.2), for definitions that compute; a law says that it is the relation.
use Rattle.std.specs.Prelude.{ℕ, Bool, true, ◌&&◌, List, [], ◌∷◌, map}
use Rattle.std.specs.List.{list_any}
use Rattle.std.specs.Str.{bytes_eq}

-- a text cut in two
pub record Cut : Type 0 where
  pub front : List ℕ
  pub rest : List ℕ

-- all ways to cut a text in two
abbrev pub cuts : List ℕ → List Cut
cuts [] = record { front = []; rest = [] } ∷ []
cuts (octet ∷ octets) =
    record { front = []; rest = octet ∷ octets }
    ∷ map (λ cut. record { front = octet ∷ cut.front; rest = cut.rest }) (cuts octets)

-- the text is these octets and a rest that passes the test
abbrev pub begins_with : List ℕ → (List ℕ → Bool) → List ℕ → Bool
begins_with octets test text = list_any (λ cut. bytes_eq octets cut.front && test cut.rest) (cuts text)

-- the parts stand in the text one behind the other, with any octets before, between and after them
abbrev pub are_in_order : List (List ℕ) → List ℕ → Bool
are_in_order [] text = true
are_in_order (part ∷ parts) text = list_any (λ cut. begins_with part (are_in_order parts) cut.rest) (cuts text)

-- the text is some octets in which the parts stand in order, and then the last part
abbrev pub ends_with : List (List ℕ) → List ℕ → List ℕ → Bool
ends_with middle last text = list_any (λ cut. bytes_eq last cut.rest && are_in_order middle cut.front) (cuts text)

-- the key begins with the first part, ends with the last one, and has all middle parts in between, none over another
unfoldable pub is_substring : List ℕ → List ℕ → List (List ℕ) → List ℕ → Bool
is_substring key first middle last = begins_with first (ends_with middle last) key
