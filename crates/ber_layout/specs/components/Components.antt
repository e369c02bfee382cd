-- The components of a SEQUENCE: one that stands, one that may, and any number of one tag (X.690 8.9 to 8.11, 8.14), as
-- relations, and what is read at the front of some octets.
use Rattle.std.specs.Prelude.{◌≡◌, ◌⊎◌, ℕ, zero, suc, Bool, true, false, List, [], ◌∷◌, ◌++◌, length, Option, Some, None, ◌==◌, if◌then◌else◌}
use Rattle.ber_elements.specs.write.Element.{Elem}
use Rattle.ber_layout.specs.element.Pieces.{◌>>=◌, piece_at, tagged_at}
use Rattle.ber_layout.specs.components.Flags.{IsFlag, flag_of}

-- ---- the relations

-- the octets are an element with the tag, whose content is Inner, and then what is Next
pub record Follows (tag : ℕ) (Inner Next : List ℕ → Type 0) (bytes : List ℕ) : Type 0 where
  pub content : List ℕ
  pub front : List ℕ
  pub rest : List ℕ
  pub element : Elem tag content front
  pub inner : Inner content
  pub next : Next rest
  pub joins : bytes ≡ front ++ rest

-- the same, where there is a value, and Next alone where there is none
abbrev pub MayFollow : {A : Type 0} → ℕ → (A → List ℕ → Type 0) → (List ℕ → Type 0) → Option A → List ℕ → Type 0
MayFollow tag Inner Next None bytes = Next bytes
MayFollow tag Inner Next (Some value) bytes = Follows tag (Inner value) Next bytes

-- a BOOLEAN that is FALSE where it is absent
abbrev pub MarkFollows : ℕ → (List ℕ → Type 0) → Bool → List ℕ → Type 0
MarkFollows tag Next true bytes = Follows tag (IsFlag true) Next bytes
MarkFollows tag Next false bytes = Next bytes ⊎ Follows tag (IsFlag false) Next bytes

-- an element for each value, and then Next
abbrev pub EachFollows : {A : Type 0} → ℕ → (A → List ℕ → Type 0) → (List ℕ → Type 0) → List A → List ℕ → Type 0
EachFollows tag Inner Next [] bytes = Next bytes
EachFollows tag Inner Next (value ∷ values) bytes = Follows tag (Inner value) (EachFollows tag Inner Next values) bytes

-- ---- computed

-- a value at the front, and what follows it
pub record Component (A : Type 0) : Type 0 where
  pub value : A
  pub rest : List ℕ

-- the first octet is this tag
abbrev pub begins : ℕ → List ℕ → Bool
begins tag [] = false
begins tag (octet ∷ octets) = octet == tag

-- the value of an element at the front, with any tag
unfoldable pub any_of : List ℕ → Option (Component (ℕ × List ℕ))
any_of bytes = piece_at bytes >>= λ piece. Some (record { value = (piece.tag, piece.content); rest = piece.rest })

-- the value of an element with this tag
unfoldable pub required_of : {A : Type 0} → ℕ → (List ℕ → Option A) → List ℕ → Option (Component A)
required_of tag reader bytes = tagged_at tag bytes >>= λ piece. (reader piece.content >>= λ value. Some (record { value = value; rest = piece.rest }))

-- the same, or none where the first octet is another
unfoldable pub optional_of : {A : Type 0} → ℕ → (List ℕ → Option A) → List ℕ → Option (Component (Option A))
optional_of tag reader bytes =
    if begins tag bytes then (required_of tag reader bytes >>= λ found. Some (record { value = Some found.value; rest = found.rest }))
    else Some (record { value = None; rest = bytes })

-- a BOOLEAN, or FALSE where the first octet is another
unfoldable pub marked_of : ℕ → List ℕ → Option (Component Bool)
marked_of tag bytes = if begins tag bytes then required_of tag flag_of bytes else Some (record { value = false; rest = bytes })

-- one value before others
abbrev pub before : {A : Type 0} → A → Component (List A) → Component (List A)
before value found = record { value = value ∷ found.value; rest = found.rest }

-- the values of as many elements as begin with this tag, which are at most so many
unfoldable pub each_from : {A : Type 0} → ℕ → ℕ → (List ℕ → Option A) → List ℕ → Option (Component (List A))
each_from zero tag reader bytes = if begins tag bytes then None else Some (record { value = []; rest = bytes })
each_from (suc most) tag reader bytes =
    if begins tag bytes then (required_of tag reader bytes >>= λ found. (each_from most tag reader found.rest >>= λ others. Some (before found.value others)))
    else Some (record { value = []; rest = bytes })

-- the values of as many elements as begin with this tag
unfoldable pub each_of : {A : Type 0} → ℕ → (List ℕ → Option A) → List ℕ → Option (Component (List A))
each_of tag reader bytes = each_from (length bytes) tag reader bytes

-- values before those that were found
abbrev pub behind : {A : Type 0} → List A → Option (Component (List A)) → Option (Component (List A))
behind values found = found >>= λ others. Some (record { value = values ++ others.value; rest = others.rest })
