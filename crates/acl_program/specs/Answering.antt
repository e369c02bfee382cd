-- What is answered of a data file, as text: what may surprise in it, one access control decision (X.501 18.8) explained or certified, a requester's
-- rights on an entry, whether a certificate is that of the tree, and the replies to requests, or the script that sends them.
use Rattle.std.specs.Prelude.{◌≡◌, ◌⊎◌, ◌≤◌, ◌++◌, ℕ, Bool, true, false, List, length, codes, decimal, Some, Ok, Err}
use Rattle.command_words.specs.command.Command.{CommandView, Why, Explain, Prove, Rights, Verify, Ask, Help, Version, IsCommand}
use Rattle.command_files.specs.loading.Accepting.{IsGoodData, IsGoodRequests, IsTooLong, most_second}
use Rattle.command_files.specs.client_core.declared.types.Asked.{Asked}
use Rattle.command_files.specs.client_core.ReplyTexts.{replies_text}
use Rattle.command_files.specs.client_core.Scripts.{ask_events, ask_script}
use Rattle.command_files.specs.dir_tree.Entry.{EntryInformation}
use Rattle.command_files.specs.dir_tree.Points.{access_subentries}
use Rattle.command_files.specs.dn_names.name.Names.{RdnSequence}
use Rattle.data_advice.specs.Advice.{advice_text}
use Rattle.certify.specs.Certificate.{text_proved}
use Rattle.certify.specs.RightsTable.{rights_at}
use Rattle.certify.specs.Verifying.{verified}
use Rattle.certify.specs.declared.fault.CertFault.TheVariants.{Form, False}
use Rattle.certify.specs.explanation.Texts.{text_explained}
use Rattle.certify.specs.explanation.Questions.{Question}
use Rattle.certify.specs.explanation.Reading.{question_of}
use Rattle.certify.specs.explanation.NameWords.{who_of, target_of}
use Rattle.session_hub.specs.Parties.{DirectoryEntries, Requester}
use Rattle.acl_program.specs.declared.decisions.Account.{Account}
use Rattle.acl_program.specs.declared.decisions.Account.TheVariants.{Explanation, Certificate}
use Rattle.acl_program.specs.Lines.{sent_over}
use Rattle.acl_program.specs.Helping.{help_text, version_text}

-- the text of a good data file: how many entries and access control subentries it has, and what may surprise in it
unfoldable pub why_text : List EntryInformation → List ℕ
why_text entries =
    codes "ok " ++ (decimal (length entries) ++ (codes " " ++ (decimal (access_subentries entries) ++ (codes "\n" ++ advice_text entries))))

-- the text of a decision: filter by filter, or its certificate
abbrev pub account_text : Account → List EntryInformation → Question → List ℕ
account_text Explanation entries question = text_explained entries question
account_text Certificate entries question = text_proved entries question

-- the text of requests: all replies to them, in the order in which they were sent, or the script that sends them
abbrev pub asked_text : Bool → DirectoryEntries → List Asked → List ℕ
asked_text true entries asks = ask_script asks
asked_text false entries asks = replies_text (sent_over entries (ask_events asks))

-- the text of a certificate that is that of the tree, by what it decides
abbrev pub valid_text : Bool → List ℕ
valid_text true = codes "valid granted\n"
valid_text false = codes "valid refused\n"

-- the content is a certificate over these entries, with this decision, and not too long
pub record IsGoodCertificate (entries : List EntryInformation) (granted : Bool) (content : List ℕ) : Type 0 where
  pub short : length content ≤ most_second
  pub valid : verified entries content ≡ Ok granted

-- the content isn't in the form of a certificate, and this is its first bad line; or it is too long
unfoldable pub IsBadCertificate : List EntryInformation → ℕ → List ℕ → Type 0
IsBadCertificate entries line content = ((length content ≤ most_second) × (verified entries content ≡ Err (Form line))) ⊎ IsTooLong line content

-- it is in that form and not too long, and this is its first line that isn't that of the certificate over these entries
unfoldable pub IsFalseCertificate : List EntryInformation → ℕ → List ℕ → Type 0
IsFalseCertificate entries line content = (length content ≤ most_second) × (verified entries content ≡ Err (False line))

-- the data file is accepted, and this is told of it
pub record TellsWhy (data_file : List ℕ) (holds : List ℕ → (List ℕ → Type 0) → Type 0) (text : List ℕ) : Type 0 where
  pub entries : List EntryInformation
  pub good : holds data_file (IsGoodData entries)
  pub is : text ≡ why_text entries

-- the words are a question, whose decision over the entries of an accepted data file is told by this text
pub record TellsDecision (account : Account) (data_file who target item permission : List ℕ) (holds : List ℕ → (List ℕ → Type 0) → Type 0) (text : List ℕ) : Type 0 where
  pub question : Question
  pub entries : List EntryInformation
  pub asks : question_of who target item permission ≡ Some question
  pub good : holds data_file (IsGoodData entries)
  pub is : text ≡ account_text account entries question

-- the words say a requester and a name, whose rights over the entries of an accepted data file are told by this text
pub record TellsRights (data_file who target : List ℕ) (holds : List ℕ → (List ℕ → Type 0) → Type 0) (text : List ℕ) : Type 0 where
  pub requester : Requester
  pub name : RdnSequence
  pub entries : List EntryInformation
  pub says_who : who_of who ≡ Some requester
  pub says_target : target_of target ≡ Some name
  pub good : holds data_file (IsGoodData entries)
  pub is : text ≡ rights_at entries requester name

-- the second file is a certificate over the entries of an accepted data file, which this text says
pub record TellsValidity (data_file certificate : List ℕ) (holds : List ℕ → (List ℕ → Type 0) → Type 0) (text : List ℕ) : Type 0 where
  pub granted : Bool
  pub entries : List EntryInformation
  pub good : holds data_file (IsGoodData entries)
  pub valid : holds certificate (IsGoodCertificate entries granted)
  pub is : text ≡ valid_text granted

-- the second file asks requests, whose text over the entries of an accepted data file this is
pub record TellsReplies (data_file requests : List ℕ) (script : Bool) (holds : List ℕ → (List ℕ → Type 0) → Type 0) (text : List ℕ) : Type 0 where
  pub asks : List Asked
  pub entries : List EntryInformation
  pub good : holds data_file (IsGoodData entries)
  pub read : holds requests (IsGoodRequests asks)
  pub is : text ≡ asked_text script entries asks

-- what a command tells of its files, of which what is known says that they are accepted: one case a command
abbrev pub Tells : CommandView → (List ℕ → (List ℕ → Type 0) → Type 0) → List ℕ → Type 0
Tells (Why data_file) holds text = TellsWhy data_file holds text
Tells (Explain data_file who target item permission) holds text = TellsDecision Explanation data_file who target item permission holds text
Tells (Prove data_file who target item permission) holds text = TellsDecision Certificate data_file who target item permission holds text
Tells (Rights data_file who target) holds text = TellsRights data_file who target holds text
Tells (Verify data_file certificate) holds text = TellsValidity data_file certificate holds text
Tells (Ask data_file requests script) holds text = TellsReplies data_file requests script holds text
Tells Help holds text = text ≡ help_text
Tells Version holds text = text ≡ version_text
Tells command holds text = ⊥

-- the words ask for a command that tells this text
pub record AsksAnswer (words : List (List ℕ)) (holds : List ℕ → (List ℕ → Type 0) → Type 0) (text : List ℕ) : Type 0 where
  pub command : CommandView
  pub asked : IsCommand words command
  pub tells : Tells command holds text
