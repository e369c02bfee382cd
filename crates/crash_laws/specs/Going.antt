-- How a server writes its file of changes on: the sessions over what the changes in it left add the records of the changes that
-- they accept.
use Rattle.std.specs.Prelude.{◌≡◌, ◌<◌, ℕ, true, List, ◌++◌}
use Rattle.change_replay.specs.Accepted.{AcceptedChange, left_after}
use Rattle.session_model.specs.Run.{Sessions, Step, run}
use Rattle.session_model.specs.Hearing.{BringOnly}
use Rattle.session_hub.specs.Parties.{DirectoryEntries, Requester}
use Rattle.session_hub.specs.declared.bounds.Terms.{Terms}
use Rattle.session_hub.specs.Answering.{rules}
use Rattle.crash_laws.specs.Written.{IsWrittenFile, AreRecorded}

-- the sessions of a server over the entries that accepted changes left of the first entries
abbrev pub sessions_after : Terms → DirectoryEntries → List AcceptedChange → List Step → Sessions DirectoryEntries Requester
sessions_after terms first done steps = run (rules terms) (left_after first done) steps

-- a server that keeps its changes, and a file of changes that it goes on with, while steps bring octets
pub record KeepsChanges (terms : Terms) (first : DirectoryEntries) (digest : List ℕ) (done : List AcceptedChange) (file : List ℕ) (steps : List Step) : Type 0 where
  pub keeps : terms.keeps ≡ true
  pub written : IsWrittenFile first digest done file
  pub octets : BringOnly (λ octet. octet < 256) steps

-- further changes were accepted, and are recorded behind those that were
pub record GoesOn (first : DirectoryEntries) (digest : List ℕ) (done : List AcceptedChange) (text : List ℕ) (entries : DirectoryEntries) : Type 0 where
  pub more : List AcceptedChange
  pub recorded : AreRecorded first digest (done ++ more) text entries

-- so it is of early sessions, and of all behind these: what was accepted early is a front of all that was
pub record GoesOnInTurn (first : DirectoryEntries) (digest : List ℕ) (done : List AcceptedChange) (file : List ℕ) (early all : Sessions DirectoryEntries Requester) : Type 0 where
  pub before : GoesOn first digest done (file ++ early.changes) early.tree
  pub behind : GoesOn first digest (done ++ before.more) (file ++ all.changes) all.tree

-- a server writes its file on
abbrev pub WritesItsFileOn : Type 0
WritesItsFileOn =
    (terms : Terms) (first : DirectoryEntries) (digest : List ℕ) (done : List AcceptedChange) (file : List ℕ) (steps : List Step)
    → KeepsChanges terms first digest done file steps
    → let sessions = sessions_after terms first done steps in GoesOn first digest done (file ++ sessions.changes) sessions.tree

-- it does in turn
abbrev pub WritesItsFileOnInTurn : Type 0
WritesItsFileOnInTurn =
    (terms : Terms) (first : DirectoryEntries) (digest : List ℕ) (done : List AcceptedChange) (file : List ℕ) (early late : List Step)
    → KeepsChanges terms first digest done file (early ++ late)
    → GoesOnInTurn first digest done file (sessions_after terms first done early) (sessions_after terms first done (early ++ late))
