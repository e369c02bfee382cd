-- What the parts of the commands that answer something promise each other, for the inside of the crate alone.
use Rattle.std.specs.Prelude.{◌≡◌, ℕ, Bool, List, Option, Some, None, Result, Ok, Err}
use Rattle.command_words.specs.command.Command.{CommandView, Explain, Prove, Rights}
use Rattle.command_files.specs.declared.loading.SecondFile.TheVariants as second
use Rattle.command_files.specs.dir_tree.Entry.{EntryInformation}
use Rattle.command_files.specs.ldif_load.load.DataFile.{loads}
use Rattle.command_files.specs.plain_values.Answers.{Answers}
use Rattle.certify.specs.Form.{cause_of}
use Rattle.certify.specs.Verifying.{verified}
use Rattle.certify.specs.declared.fault.CertFault.{CertFault}
use Rattle.certify.specs.declared.fault.CertFault.TheVariants.{Form, False, NoMemory}
use Rattle.certify.specs.explanation.NameWords.{who_of, target_of}
use Rattle.command_files.specs.Outside.{Written}
use Rattle.acl_program.specs.declared.decisions.Account.{Account}
use Rattle.acl_program.specs.declared.decisions.Account.TheVariants.{Explanation, Certificate}
use Rattle.acl_program.specs.declared.rights_table.Party.{Party}
use Rattle.acl_program.specs.Answering.{valid_text, why_text}
use Rattle.acl_program.specs.Outcomes.{Outcome, BadLine, FalseLine, Answered, Explained, OutOfMemory}
use Rattle.acl_program.specs.declared.status.Status.{Status}
use Rattle.acl_program.specs.program.Causes.{IsPerformed}
use Rattle.acl_program.specs.program.Playing.{Ends}

-- the command that asks for a decision, told so
abbrev pub decision_asked : Account → List ℕ → List ℕ → List ℕ → List ℕ → List ℕ → CommandView
decision_asked Explanation data_file who target item permission = Explain data_file who target item permission
decision_asked Certificate data_file who target item permission = Prove data_file who target item permission

-- the words say who asks and on what, or there is no data file over which they ask for rights
unfoldable pub SaysParty : List ℕ → List ℕ → Option Party → Type 0
SaysParty who target None = (data_file : List ℕ) → IsPerformed (Rights data_file who target) → ⊥
SaysParty who target (Some party) = (who_of who ≡ Some party.who) × (target_of target ≡ Some party.target)

-- the outcome of a certificate that isn't that of the tree
abbrev pub outcome_of_fault : CertFault → Outcome
outcome_of_fault (Form line) = BadLine second.Certificate line
outcome_of_fault (False line) = FalseLine line
outcome_of_fault NoMemory = OutOfMemory

-- the outcome of a certificate, by what was found of it
abbrev pub outcome_verified : Result Bool CertFault → Outcome
outcome_verified (Ok granted) = Answered (valid_text granted)
outcome_verified (Err fault) = outcome_of_fault fault

-- a certificate was held against entries, and the text of what was found of it was put
pub record EndsVerified (entries : List EntryInformation) (text : List ℕ) (before : Written) (status : Status) (after : Written) : Type 0 where
  pub found : Result Bool CertFault
  pub is : Answers (λ granted. granted) cause_of found (verified entries text)
  pub ends : Ends (outcome_verified found) before status after

-- what is told of the content of a data file
unfoldable pub IsWhy : List ℕ → Outcome → Type 0
IsWhy content (Answered text) = (entries : List EntryInformation) × (loads content ≡ Ok entries) × (text ≡ why_text entries)
IsWhy content (Explained line cause own) = (own ≡ content) × (loads content ≡ Err (record { line = line; cause = cause }))
IsWhy content OutOfMemory = Unit {0}
IsWhy content outcome = ⊥

-- and the text of that was put
unfoldable pub EndsWhy : List ℕ → Written → Status → Written → Type 0
EndsWhy content before status after = (outcome : Outcome) × IsWhy content outcome × Ends outcome before status after
