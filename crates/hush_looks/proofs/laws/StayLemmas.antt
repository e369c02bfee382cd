-- What is not due shows a connection nothing new, and so no part fails behind it where none failed before.
use Rattle.std.proofs.Common.{◌≡◌, ◌≢◌, ℕ, ◌==◌, true, false, List, [], Option, None, inl, inr, ap, ap₂, sym, ◌∙◌}
use Rattle.std.specs.Prelude.{option_and_then}
use Rattle.std.proofs.lemmas.Bool.Decides.{Decides-eqb}
use Rattle.dir_tree.specs.dn_names.name.Names.{RdnSequence}
use Rattle.session_hub.specs.session_model.Run.{Sessions, Open, Opened, Bytes, Ended, step, new_messages}
use Rattle.session_hub.specs.session_model.Replaying.{hung_up}
use Rattle.session_hub.specs.session_model.Places.{CompletesOne, asker_of}
use Rattle.session_hub.specs.Parties.{DirectoryEntries, Requester}
use Rattle.session_hub.specs.declared.bounds.Terms.{Terms}
use Rattle.session_hub.specs.Answering.{rules}
use Rattle.hush_laws.specs.TwinParts.{failing_twins}
use Rattle.hush_looks.specs.Due.{is_due}
use Rattle.hush_looks.specs.Looks.{AsksStill, StaysShown, failing_standing}
use Rattle.hush_looks.proofs.laws.DueLemmas.{answer-tree, answer-who}
use Rattle.hush_looks.proofs.laws.StepLemmas.{one-stays, none-shows, closed-shows, opened-shows, ended-shows, hung_up-shows}

pub message-stays : (terms : Terms) (number other : ℕ) (sessions : Sessions DirectoryEntries Requester) (piece message : List ℕ)
    → CompletesOne sessions other piece message → is_due (other == number) message ≡ false → StaysShown number sessions (step (rules terms) sessions (Bytes other piece None))
message-stays terms number other sessions piece message completes none =
    let who = (sessions.of other).who in
    one-stays (rules terms) sessions number other piece message completes (answer-tree terms (other == number) sessions.tree who message none)
    (λ same. let own : (other == number) ≡ true = (Decides-eqb other number).1 (sym same) in
    answer-who terms sessions.tree who message (ap (λ b. is_due b message) (sym own) ∙ none))

pub none-stays : (terms : Terms) (number other : ℕ) (sessions : Sessions DirectoryEntries Requester) (piece : List ℕ)
    → new_messages (sessions.of other).stream piece ≡ [] → StaysShown number sessions (step (rules terms) sessions (Bytes other piece None))
none-stays terms number other sessions piece none = none-shows (rules terms) sessions number other piece none

pub closed-stays : (terms : Terms) (number other : ℕ) (sessions : Sessions DirectoryEntries Requester) (piece : List ℕ)
    → (sessions.of other).state ≢ Open → StaysShown number sessions (step (rules terms) sessions (Bytes other piece None))
closed-stays terms number other sessions piece shut = closed-shows (rules terms) sessions number other piece shut

pub opened-stays : (terms : Terms) (number other : ℕ) (sessions : Sessions DirectoryEntries Requester) → other ≢ number → StaysShown number sessions (step (rules terms) sessions (Opened other))
opened-stays terms number other sessions differs = opened-shows (rules terms) sessions number other differs

pub ended-stays : (terms : Terms) (number other : ℕ) (sessions : Sessions DirectoryEntries Requester) → StaysShown number sessions (step (rules terms) sessions (Ended other))
ended-stays terms number other sessions = ended-shows (rules terms) sessions number other

pub hung_up-stays : (terms : Terms) (number other : ℕ) (sessions after : Sessions DirectoryEntries Requester) → StaysShown number sessions after
    → StaysShown number sessions (hung_up (rules terms) other after)
hung_up-stays terms number other sessions after stays = hung_up-shows (rules terms) sessions after number other stays

-- by who asks then
module _ (top : RdnSequence) (before : DirectoryEntries) where
  asks-fails : (one other : Option Requester) (tree now : DirectoryEntries) → now ≡ tree → AsksStill one other
      → option_and_then (λ who. failing_twins top before tree who) one ≡ None → option_and_then (λ who. failing_twins top before now who) other ≡ None
  asks-fails one other tree now same (inl asks) none =
      ap₂ (λ (entries : DirectoryEntries) (asked : Option Requester). option_and_then (λ who. failing_twins top before entries who) asked) same asks ∙ none
  asks-fails one other tree now same (inr gone) none = ap (option_and_then (λ who. failing_twins top before now who)) gone

pub none-fails : (top : RdnSequence) (before : DirectoryEntries) (number : ℕ) (sessions after : Sessions DirectoryEntries Requester) → StaysShown number sessions after
    → failing_standing top before number sessions ≡ None → failing_standing top before number after ≡ None
none-fails top before number sessions after stays none =
    asks-fails top before (asker_of (sessions.of number)) (asker_of (after.of number)) sessions.tree after.tree stays.tree stays.asks none
