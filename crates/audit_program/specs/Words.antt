-- The words of an audit: the names of a data file and of a script, the number of a connection as scripts write it, and the
-- name of a subtree (RFC 4514).
use Rattle.std.specs.Prelude.{◌≡◌, ◌≢◌, ℕ, List, [], ◌∷◌, Ok}
use Rattle.command_files.specs.script_text.LineText.{IsNumber}
use Rattle.command_files.specs.dn_names.name.Names.{RdnSequence}
use Rattle.command_files.specs.dn_names.parsing.NameText.{read_name}
use Rattle.audit_program.specs.declared.words.Asked.{Asked}

-- what an audit is asked for, with texts as octets
pub record AuditView : Type 0 where
  pub data_file : List ℕ
  pub script : List ℕ
  pub number : ℕ
  pub top : RdnSequence

-- an audit by its parts
abbrev pub audit_of : List ℕ → List ℕ → ℕ → RdnSequence → AuditView
audit_of data_file script number top = record { data_file = data_file; script = script; number = number; top = top }

-- the same as it is read
abbrev pub view : Asked → AuditView
view asked = audit_of asked.«data».now asked.script.now asked.number asked.top

-- the word is a name, and not that of the root
pub record IsSubtree (word : List ℕ) (top : RdnSequence) : Type 0 where
  pub reads : read_name word ≡ Ok top
  pub below_root : top ≢ []

-- the words ask for this audit: they are four, whatever they begin with, and the third is the number of a connection as a
-- script writes it: one to ten decimal digits, with a value from 1 to 4,294,967,295
pub record IsAsked (words : List (List ℕ)) (asked : AuditView) : Type 0 where
  pub number_word : List ℕ
  pub name_word : List ℕ
  pub four : words ≡ asked.data_file ∷ asked.script ∷ number_word ∷ name_word ∷ []
  pub number : IsNumber number_word asked.number
  pub name : IsSubtree name_word asked.top
