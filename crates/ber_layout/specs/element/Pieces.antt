-- Elements one after the other, as the components of a SEQUENCE (X.690 8.9), and the elements that may follow the
-- components that are known (RFC 4511 section 4).
use Rattle.std.specs.Prelude.{◌≡◌, ℕ, zero, suc, ◌≤◌, Bool, true, false, ◌&&◌, not, List, [], ◌∷◌, ◌++◌, length, take, drop, Option, Some, None, ◌==◌, nat_lt, nat_le, if◌then◌else◌, IsTrue, ℤ, pos, negsuc}
pub use Rattle.plain_values.specs.Options.{◌>>=◌}
use Rattle.ber_elements.specs.declared.kinds.Header.{Header}
use Rattle.ber_elements.specs.declared.kinds.Header.TheVariants as header
use Rattle.ber_elements.specs.write.Element.{Elem}
use Rattle.ber_elements.specs.Heading.{header_at}
use Rattle.ber_elements.specs.Integer.{IsInteger, int_at}

-- ---- the relations

-- any tag
abbrev pub any_tag : ℕ → Bool
any_tag tag = true

-- any tag but this one
abbrev pub other_than : ℕ → ℕ → Bool
other_than excepted tag = not (tag == excepted)

-- octets that are one element, with an allowed tag
pub record IsPiece (allowed : ℕ → Bool) (bytes : List ℕ) : Type 0 where
  pub tag : ℕ
  pub content : List ℕ
  pub element : Elem tag content bytes
  pub allows : IsTrue (allowed tag)

-- octets that are elements, each with an allowed tag
abbrev pub ArePieces : (ℕ → Bool) → List (List ℕ) → List ℕ → Type 0
ArePieces allowed [] bytes = bytes ≡ []
ArePieces allowed (piece ∷ pieces) bytes = IsPiece allowed piece × ((rest : List ℕ) × (bytes ≡ piece ++ rest) × ArePieces allowed pieces rest)

-- octets that are any number of such elements
pub record IsFurther (allowed : ℕ → Bool) (bytes : List ℕ) : Type 0 where
  pub pieces : List (List ℕ)
  pub are : ArePieces allowed pieces bytes

-- the content of an INTEGER from low to high
pub record IsNumberIn (low high : ℕ) (content : List ℕ) (number : ℕ) : Type 0 where
  pub stands : IsInteger content (pos number)
  pub from_low : low ≤ number
  pub to_high : number ≤ high

-- ---- computed

-- an element at the front, and what follows it
pub record Piece : Type 0 where
  pub tag : ℕ
  pub content : List ℕ
  pub rest : List ℕ

-- the element behind a heading that was read, where all its content is there
unfoldable pub piece_of : List ℕ → Header → Option Piece
piece_of bytes (header.Head tag head len) =
    if nat_lt (length (drop head bytes)) len then None
    else Some (record { tag = tag; content = take len (drop head bytes); rest = drop len (drop head bytes) })
piece_of bytes header.Short = None
piece_of bytes header.Bad = None

-- the element at the front, where all its octets are there
unfoldable pub piece_at : List ℕ → Option Piece
piece_at bytes = piece_of bytes (header_at bytes)

-- an element with this tag at the front
unfoldable pub tagged_at : ℕ → List ℕ → Option Piece
tagged_at tag bytes = do
  piece ← piece_at bytes
  if piece.tag == tag then Some piece else None

-- the integer as a natural number, where there is one and it is from low to high
abbrev pub natural_in : ℕ → ℕ → Option ℤ → Option ℕ
natural_in low high None = None
natural_in low high (Some (pos number)) = if nat_le low number && nat_le number high then Some number else None
natural_in low high (Some (negsuc number)) = None

-- the number from low to high that is the content of an INTEGER
unfoldable pub number_in : ℕ → ℕ → List ℕ → Option ℕ
number_in low high content = natural_in low high (int_at content)

-- the element at the front is allowed, and so are those behind it
abbrev pub piece_and : (ℕ → Bool) → (List ℕ → Bool) → Option Piece → Bool
piece_and allowed behind None = false
piece_and allowed behind (Some piece) = allowed piece.tag && behind piece.rest

-- the octets are at most so many elements, each with an allowed tag
unfoldable pub pieces_of : ℕ → (ℕ → Bool) → List ℕ → Bool
pieces_of most allowed [] = true
pieces_of zero allowed (octet ∷ bytes) = false
pieces_of (suc most) allowed (octet ∷ bytes) = piece_and allowed (pieces_of most allowed) (piece_at (octet ∷ bytes))

-- the octets are elements, each with an allowed tag
unfoldable pub are_pieces : (ℕ → Bool) → List ℕ → Bool
are_pieces allowed bytes = pieces_of (length bytes) allowed bytes
