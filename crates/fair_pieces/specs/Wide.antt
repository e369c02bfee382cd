-- Wide messages: searches of another scope than that of the base object (RFC 4511 4.5.1.2), told by their headers.
use Rattle.std.specs.Prelude.{ℕ, Bool, false, List, [], ◌∷◌, drop, ◌==◌, ◌&&◌, not}
use Rattle.ber_elements.specs.declared.kinds.Header.{Header}
use Rattle.ber_elements.specs.declared.kinds.Header.TheVariants.{Head, Short, Bad}
use Rattle.ber_elements.specs.Heading.{header_at}

-- the octets behind a header that was read
abbrev pub behind_header : List ℕ → Header → List ℕ
behind_header octets (Head tag head len) = drop head octets
behind_header octets Short = []
behind_header octets Bad = []

-- the octets behind an element whose header was read
abbrev pub behind_element : List ℕ → Header → List ℕ
behind_element octets (Head tag head len) = drop len (drop head octets)
behind_element octets Short = []
behind_element octets Bad = []

-- the octets behind the header at the front
abbrev pub inside : List ℕ → List ℕ
inside octets = behind_header octets (header_at octets)

-- the octets behind the element at the front
abbrev pub past : List ℕ → List ℕ
past octets = behind_element octets (header_at octets)

-- a search request begins there
abbrev pub begins_search : List ℕ → Bool
begins_search [] = false
begins_search (tag ∷ octets) = tag == 0x63

-- the scope of the base object stands there: an ENUMERATED of one octet, 0
abbrev pub is_of_base : List ℕ → Bool
is_of_base [] = false
is_of_base (tag ∷ []) = false
is_of_base (tag ∷ len ∷ []) = false
is_of_base (tag ∷ len ∷ value ∷ octets) = tag == 0x0a && len == 1 && value == 0

-- the octets of a message from its operation on: that stands behind the message's number
abbrev pub operation_in : List ℕ → List ℕ
operation_in message = past (inside message)

-- the octets of a search from its scope on: that stands behind the name of the base
abbrev pub scope_in : List ℕ → List ℕ
scope_in operation = past (inside operation)

-- the message is a search of another scope than that of the base object
unfoldable pub is_wide : List ℕ → Bool
is_wide message = begins_search (operation_in message) && not (is_of_base (scope_in (operation_in message)))
