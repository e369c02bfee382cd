-- Lemmas on decisions that are told.
use Rattle.std.proofs.Common.{◌≡◌, ℕ, false, List, Option, Some, None, Ok, refl, ◌∙◌}
use Rattle.command_files.specs.wire_io.Files.{Files}
use Rattle.command_files.specs.dir_tree.tree.Numbered.{Numbered, entries_of}
use Rattle.command_files.specs.loading.Accepting.{HoldsIn}
use Rattle.command_files.specs.loading.Loading.{LoadsData}
use Rattle.certify.specs.explanation.Questions.{Question}
use Rattle.certify.specs.explanation.Reading.{question_of}
use Rattle.acl_program.specs.declared.decisions.Account.{Account}
use Rattle.acl_program.specs.declared.decisions.Account.TheVariants.{Explanation, Certificate}
use Rattle.acl_program.specs.declared.status.Status.{Status}
use Rattle.acl_program.specs.Answering.{TellsDecision, Tells, account_text}
use Rattle.acl_program.specs.Deciding.{decision_asked}
use Rattle.acl_program.specs.Outcomes.{NoCommand, Answered}
use Rattle.acl_program.specs.program.Causes.{IsPerformed, data_of}
use Rattle.acl_program.specs.program.Outside.{Outside}
use Rattle.acl_program.specs.program.Playing.{Ends, Performs}
use Rattle.acl_program.proofs.program.PerformLemmas.{Performs-answered, is_why}
use Rattle.acl_program.proofs.program.RunLemmas.{Performs-undone}

-- the data file of a decision
pub decision_data : (account : Account) (name who target item permission : List ℕ) → data_of (decision_asked account name who target item permission) ≡ Some name
decision_data Explanation name who target item permission = refl
decision_data Certificate name who target item permission = refl

-- which is no command that asks why a file is refused
pub decision_other : (account : Account) (name who target item permission : List ℕ) → is_why (decision_asked account name who target item permission) ≡ false
decision_other Explanation name who target item permission = refl
decision_other Certificate name who target item permission = refl

-- words that are no question
no_question : (account : Account) (name who target item permission : List ℕ) → None ≡ question_of who target item permission
    → IsPerformed (decision_asked account name who target item permission) → ⊥
no_question Explanation name who target item permission none asks = let clash : None ≡ Some asks.0 = none ∙ asks.1 in cc
no_question Certificate name who target item permission none asks = let clash : None ≡ Some asks.0 = none ∙ asks.1 in cc

pub Performs-no_question :
    (account : Account) (name who target item permission : List ℕ) (before after : Outside) (status : Status)
    → None ≡ question_of who target item permission → Ends NoCommand before.out status after.out
    → after.shelf.faults ≡ before.shelf.faults → after.link ≡ before.link → Performs (decision_asked account name who target item permission) before status after
Performs-no_question account name who target item permission before after status none ends stays same =
    Performs-undone (decision_asked account name who target item permission) before after status (no_question account name who target item permission none) ends stays same

-- the decision is told by either command
as_told : (account : Account) (name who target item permission : List ℕ) (files : Option Files) (text : List ℕ)
    → TellsDecision account name who target item permission (HoldsIn files) text → Tells (decision_asked account name who target item permission) (HoldsIn files) text
as_told Explanation name who target item permission files text tells = tells
as_told Certificate name who target item permission files text tells = tells

-- a data file was loaded, and the decision was to be put
pub Performs-decided :
    (account : Account) (name who target item permission : List ℕ) (question : Question) (before after : Outside) (status : Status) (rows : List Numbered)
    → question_of who target item permission ≡ Some question → LoadsData before.shelf.files name before.shelf.faults after.shelf.faults (Ok rows)
    → Ends (Answered (account_text account (entries_of rows) question)) before.out status after.out → after.link ≡ before.link
    → Performs (decision_asked account name who target item permission) before status after
unfolding LoadsData
Performs-decided account name who target item permission question before after status rows asks loads ends same =
    let text = account_text account (entries_of rows) question in
    let tells : TellsDecision account name who target item permission (HoldsIn before.shelf.files) text =
    record { question = question; entries = entries_of rows; asks = asks; good = loads.0; is = refl } in
    Performs-answered (decision_asked account name who target item permission) text before after status (as_told account name who target item permission before.shelf.files text tells) loads.2 ends same
