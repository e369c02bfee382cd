-- Why octets are no name: the causes in the order in which they are tried.
use Rattle.std.specs.Prelude.{ℕ, List, length, Option, Some, None}
use Rattle.dn_names.specs.declared.error.BadName.{BadName}
use Rattle.dn_names.specs.declared.error.BadName.TheVariants.{Text, Part, TooMany, NoMemory}
use Rattle.dn_names.specs.Spelling.{WrittenPair, SpellsName}
use Rattle.dn_names.specs.GoodPlaces.{placed_pairs, IsFirstBad}
use Rattle.dn_names.specs.parsing.NameText.{LeavesGrammar}

-- the octets spell RDNs, and not as many as fit
pub record HasOtherCount (Fits : ℕ → Type 0) (octets : List ℕ) : Type 0 where
  pub written : List (List WrittenPair)
  pub spells : SpellsName written octets
  pub other : ¬ (Fits (length written))

-- the octets spell as many RDNs as fit, and the pair of this number, in the order of the text, is the first bad one
pub record HasBadPart (Fits : ℕ → Type 0) (octets : List ℕ) (index : ℕ) : Type 0 where
  pub written : List (List WrittenPair)
  pub spells : SpellsName written octets
  pub fits : Fits (length written)
  pub first : IsFirstBad (placed_pairs written) index

-- the octets leave the grammar; else there are too many RDNs; else a pair is bad; want of memory is no such cause
abbrev pub NameCause : (ℕ → Type 0) → List ℕ → BadName → Type 0
NameCause Fits octets (Text place) = LeavesGrammar octets place
NameCause Fits octets TooMany = HasOtherCount Fits octets
NameCause Fits octets (Part index) = HasBadPart Fits octets index
NameCause Fits octets NoMemory = ⊥

-- the cause that an error tells: want of memory tells none
abbrev pub cause_of : BadName → Option BadName
cause_of NoMemory = None
cause_of error = Some error
