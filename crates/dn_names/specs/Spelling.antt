-- Every text of a name (RFC 4514 sections 2 and 3, RFC 1779 section 2.3), by pieces: a pair's type and value
-- stand here as their octets, before any table is asked.
use Rattle.std.specs.Prelude.{◌≡◌, ◌≢◌, ◌⊎◌, ◌+◌, ◌*◌, ℕ, true, List, [], ◌∷◌, ◌++◌, slice_index}
use Rattle.std.specs.Char.{digit_value}
use Rattle.std.specs.List.{AllByRecursion}
use Rattle.regular_text.specs.Grammar.{Matches}
use Rattle.dn_names.specs.Classes.{class_of, is_hex, is_plain, is_escapable}
use Rattle.dn_names.specs.NameGrammar.{kind}

-- the octets of a pair's type and of its value
pub record WrittenPair : Type 0 where
  pub kind : List ℕ
  pub octets : List ℕ

-- any number of U+0020
abbrev pub AreSpaces : List ℕ → Type 0
AreSpaces text = AllByRecursion (λ octet. octet ≡ 32) text

-- an octet of a value as text: alone, behind a backslash, or as two hexadecimal digits behind one
abbrev pub IsPiece : ℕ → List ℕ → Type 0
IsPiece octet text =
    ((text ≡ octet ∷ []) × (is_plain (class_of octet) ≡ true))
    ⊎ ((text ≡ 92 ∷ octet ∷ []) × (is_escapable (class_of octet) ≡ true))
    ⊎ IsHexPair octet text
  where
    IsHexPair : ℕ → List ℕ → Type 0
    IsHexPair octet text =
        (high : ℕ) × (low : ℕ) × (text ≡ 92 ∷ high ∷ low ∷ []) × (is_hex (class_of high) ≡ true)
        × (is_hex (class_of low) ≡ true) × (octet ≡ 16 * digit_value high + digit_value low)

-- a value's pieces, the last of them no bare space, and the spaces that are skipped after it
abbrev pub SpellsOctets : List ℕ → List ℕ → Type 0
SpellsOctets [] text = AreSpaces text
SpellsOctets (octet ∷ octets) text =
    (front : List ℕ) × (rest : List ℕ) × (text ≡ front ++ rest) × IsPiece octet front
    × SpellsOctets octets rest × (octets ≡ [] → front ≢ 32 ∷ [])

-- the spaces that are skipped before a value, and the value, which begins with neither a bare space nor a bare #
abbrev pub SpellsValue : List ℕ → List ℕ → Type 0
SpellsValue octets text =
    (gap : List ℕ) × (rest : List ℕ) × (text ≡ gap ++ rest) × AreSpaces gap
    × (slice_index rest 0 ≢ 32) × (slice_index rest 0 ≢ 35) × SpellsOctets octets rest

-- attributeType: a word or a dotted object identifier
abbrev pub IsKind : List ℕ → Type 0
IsKind text = Matches class_of kind text

-- a type with spaces around it, =, a value
pub record SpellsPair (pair : WrittenPair) (text : List ℕ) : Type 0 where
  pub before : List ℕ
  pub after : List ℕ
  pub value : List ℕ
  pub is_text : text ≡ before ++ (pair.kind ++ (after ++ 61 ∷ value))
  pub gap_before : AreSpaces before
  pub is_kind : IsKind pair.kind
  pub gap_after : AreSpaces after
  pub spells : SpellsValue pair.octets value

-- at least one text, with the mark between each two
abbrev pub IsJoined : {A : Type 0} → ℕ → (A → List ℕ → Type 0) → List A → List ℕ → Type 0
IsJoined mark relation [] text = ⊥
IsJoined mark relation (x ∷ []) text = relation x text
IsJoined mark relation (x ∷ y ∷ ys) text =
    (front : List ℕ) × (rest : List ℕ) × (text ≡ front ++ mark ∷ rest) × relation x front × IsJoined mark relation (y ∷ ys) rest

-- pairs joined by +
abbrev pub SpellsRdn : List WrittenPair → List ℕ → Type 0
SpellsRdn pairs text = IsJoined 43 SpellsPair pairs text

-- RDNs joined by a comma, the entry's own first; the name of no RDN is nothing but spaces
abbrev pub SpellsName : List (List WrittenPair) → List ℕ → Type 0
SpellsName [] text = AreSpaces text
SpellsName (rdn ∷ rdns) text = IsJoined 44 SpellsRdn (rdn ∷ rdns) text
