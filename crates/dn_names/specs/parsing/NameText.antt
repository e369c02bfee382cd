-- Which texts are names (RFC 4514 section 3), and reading them as a function.
use Rattle.std.specs.Prelude.{◌≡◌, ℕ, List, Option, Some, None, Result, Ok, Err}
use Rattle.regular_text.specs.Place.{IsPlace}
use Rattle.dn_names.specs.declared.error.BadName.{BadName}
use Rattle.dn_names.specs.declared.error.BadName.TheVariants.{Text}
use Rattle.dn_names.specs.name.Names.{RdnSequence}
use Rattle.dn_names.specs.NameGrammar.{IsNameText}
use Rattle.dn_names.specs.Spelling.{WrittenPair, SpellsName}
use Rattle.dn_names.specs.Resolving.{resolve, resolve_rdn}
use Rattle.dn_names.specs.Modes.{text_fault}
use Rattle.dn_names.specs.Reading.{written_of}

-- the octets spell pairs whose meaning is the name
unfoldable pub NameText : RdnSequence → List ℕ → Type 0
NameText name octets = (written : List (List WrittenPair)) × SpellsName written octets × (resolve written ≡ Ok name)

-- the octets spell one RDN whose meaning is the name
unfoldable pub RdnText : RdnSequence → List ℕ → Type 0
RdnText name octets = (written : List (List WrittenPair)) × SpellsName written octets × (resolve_rdn written ≡ Ok name)

-- the octets are no text of the outer grammar, and leave it at the place
pub record LeavesGrammar (octets : List ℕ) (place : ℕ) : Type 0 where
  pub outside : ¬ (IsNameText octets)
  pub exact : IsPlace IsNameText octets place

-- reading as a function: the fault of the text first, and then the meaning of what is written; the laws on it say
-- both ways what it gives, so that nobody needs to look into it
abbrev pub read_by : (List (List WrittenPair) → Result RdnSequence BadName) → Option ℕ → List ℕ → Result RdnSequence BadName
read_by meaning (Some place) octets = Err (Text place)
read_by meaning None octets = meaning (written_of octets)

-- the name that a text gives, or the first fault
unfoldable pub read_name : List ℕ → Result RdnSequence BadName
read_name octets = read_by resolve (text_fault octets) octets

-- the name of one RDN that a text gives, or the first fault
unfoldable pub read_rdn : List ℕ → Result RdnSequence BadName
read_rdn octets = read_by resolve_rdn (text_fault octets) octets
