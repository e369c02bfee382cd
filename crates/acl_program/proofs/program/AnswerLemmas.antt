-- Lemmas on answers: a command has one over files that are told and accepted.
use Rattle.std.proofs.Common.{◌≡◌, ℕ, Bool, List, [], Option, Some, refl, sym, ap, ◌∙◌, subst}
use Rattle.command_files.specs.wire_io.Files.{Files}
use Rattle.command_words.specs.command.Command.{CommandView, Why, Explain, Ask, Prove, Verify, Rights, Help, Version}
use Rattle.command_files.specs.declared.loading.SecondFile.TheVariants as second
use Rattle.command_files.specs.dir_tree.Entry.{EntryInformation}
use Rattle.certify.specs.RightsTable.{rights_at}
use Rattle.command_files.proofs.Theorems.{both_in, one_entries, one_asks, IsTold-weaker}
use Rattle.acl_program.specs.declared.decisions.Account.{Account}
use Rattle.acl_program.specs.Answering.{IsGoodCertificate, TellsWhy, TellsDecision, TellsRights, TellsValidity, TellsReplies, Tells, account_text, asked_text, valid_text, why_text}
use Rattle.command_files.specs.loading.Accepting.{IsGoodData, IsGoodRequests, HoldsIn, IsTold}
use Rattle.acl_program.proofs.program.AcceptLemmas.{one_granted, IsGoodSecond}
use Rattle.acl_program.proofs.program.ReadyLemmas.{IsReady, ReadySample, ready_alone, ready_both, ReadyChanges, ReadyData, ReadySecond}

-- one command has one answer over its files
module _ (files : Option Files) where
  data_once : (name : List ℕ) (entries found : List EntryInformation) → IsTold files name (IsGoodData entries) → HoldsIn files name (IsGoodData found) → found ≡ entries
  data_once name entries found known holds =
      let both = both_in files name (IsGoodData entries) (IsGoodData found) known holds in
      one_entries found entries both.0 both.2 both.1

  why_once : (name text other : List ℕ) → TellsWhy name (IsTold files) text → TellsWhy name (HoldsIn files) other → other ≡ text
  why_once name text other due found = found.is ∙ ap (λ all. why_text all) (data_once name due.entries found.entries due.good found.good) ∙ sym due.is

  decision_once : (account : Account) (name who target item permission text other : List ℕ)
      → TellsDecision account name who target item permission (IsTold files) text → TellsDecision account name who target item permission (HoldsIn files) other → other ≡ text
  decision_once account name who target item permission text other due found =
      let same : Some found.question ≡ Some due.question = sym found.asks ∙ due.asks in
      let question : found.question ≡ due.question = cc (same) in
      found.is ∙ ap (λ all. account_text account all found.question) (data_once name due.entries found.entries due.good found.good)
      ∙ ap (λ asked. account_text account due.entries asked) question ∙ sym due.is

  rights_once : (name who target text other : List ℕ) → TellsRights name who target (IsTold files) text → TellsRights name who target (HoldsIn files) other → other ≡ text
  rights_once name who target text other due found =
      let same_who : Some found.requester ≡ Some due.requester = sym found.says_who ∙ due.says_who in
      let requester : found.requester ≡ due.requester = cc (same_who) in
      let same_name : Some found.name ≡ Some due.name = sym found.says_target ∙ due.says_target in
      let entry : found.name ≡ due.name = cc (same_name) in
      found.is ∙ ap (λ all. rights_at all found.requester found.name) (data_once name due.entries found.entries due.good found.good)
      ∙ ap (λ who. rights_at due.entries who found.name) requester ∙ ap (λ name. rights_at due.entries due.requester name) entry ∙ sym due.is

  validity_once : (name certificate text other : List ℕ) → TellsValidity name certificate (IsTold files) text → TellsValidity name certificate (HoldsIn files) other → other ≡ text
  validity_once name certificate text other due found =
      let entries = data_once name due.entries found.entries due.good found.good in
      let both = both_in files certificate (IsGoodCertificate due.entries due.granted) (IsGoodCertificate due.entries found.granted) due.valid
      (subst (λ all. HoldsIn files certificate (IsGoodCertificate all found.granted)) entries found.valid) in
      found.is ∙ ap (λ granted. valid_text granted) (one_granted due.entries found.granted due.granted both.0 both.2 both.1) ∙ sym due.is

  replies_once : (name requests : List ℕ) (script : Bool) (text other : List ℕ) → TellsReplies name requests script (IsTold files) text → TellsReplies name requests script (HoldsIn files) other → other ≡ text
  replies_once name requests script text other due found =
      let entries = data_once name due.entries found.entries due.good found.good in
      let both = both_in files requests (IsGoodRequests due.asks) (IsGoodRequests found.asks) due.read found.read in
      found.is ∙ ap (λ all. asked_text script all found.asks) entries ∙ ap (λ asks. asked_text script due.entries asks) (one_asks found.asks due.asks both.0 both.2 both.1) ∙ sym due.is

  pub answer_once : (command : CommandView) (text other : List ℕ) → Tells command (IsTold files) text → Tells command (HoldsIn files) other → other ≡ text
  answer_once (Why name) text other due found = why_once name text other due found
  answer_once (Explain name who target item permission) text other due found = decision_once _ name who target item permission text other due found
  answer_once (Prove name who target item permission) text other due found = decision_once _ name who target item permission text other due found
  answer_once (Rights name who target) text other due found = rights_once name who target text other due found
  answer_once (Verify name certificate) text other due found = validity_once name certificate text other due found
  answer_once (Ask name requests script) text other due found = replies_once name requests script text other due found
  answer_once Help text other due found = found ∙ sym due
  answer_once Version text other due found = found ∙ sym due
  answer_once command text other due found = absurd due

  -- a command whose answer is told is ready
  pub told_ready : (command : CommandView) (text : List ℕ) → Tells command (IsTold files) text → (entries : List EntryInformation) × IsReady files command entries
  unfolding ReadySample IsGoodSecond ReadyChanges ReadyData ReadySecond
  told_ready (Why name) text due =
      (due.entries, ready_alone files (Why name) name due.entries refl refl refl tt tt due.good)
  told_ready (Explain name who target item permission) text due =
      (due.entries, ready_alone files (Explain name who target item permission) name due.entries refl refl refl (due.question, due.asks) tt due.good)
  told_ready (Prove name who target item permission) text due =
      (due.entries, ready_alone files (Prove name who target item permission) name due.entries refl refl refl (due.question, due.asks) tt due.good)
  told_ready (Rights name who target) text due =
      (due.entries, ready_alone files (Rights name who target) name due.entries refl refl refl (due.requester, due.name, due.says_who, due.says_target) tt due.good)
  told_ready (Verify name certificate) text due =
      let also = IsTold-weaker files certificate (IsGoodCertificate due.entries due.granted) (IsGoodSecond second.Certificate due.entries) (λ content good. (due.granted, good)) due.valid in
      (due.entries, ready_both files (Verify name certificate) name (record { kind = second.Certificate; name = certificate }) due.entries refl refl refl tt tt due.good also)
  told_ready (Ask name requests script) text due =
      let also = IsTold-weaker files requests (IsGoodRequests due.asks) (IsGoodSecond second.Requests due.entries) (λ content good. (due.asks, good)) due.read in
      (due.entries, ready_both files (Ask name requests script) name (record { kind = second.Requests; name = requests }) due.entries refl refl refl tt tt due.good also)
  told_ready Help text due = ([], record { performed = tt; data_ready = tt; second_ready = tt; changes_ready = tt; sample_ready = tt })
  told_ready Version text due = ([], record { performed = tt; data_ready = tt; second_ready = tt; changes_ready = tt; sample_ready = tt })
  told_ready command text due = absurd due
