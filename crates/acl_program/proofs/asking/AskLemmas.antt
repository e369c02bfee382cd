-- Lemmas on requests that are asked.
use Rattle.std.proofs.Common.{◌≡◌, ◌∙◌, ℕ, Bool, List, Option, Ok, refl, subst}
use Rattle.std.specs.Prelude.{Vec}
use Rattle.std.specs.Global.{Global}
use Rattle.command_words.specs.command.Command.{Ask}
use Rattle.command_files.specs.client_core.declared.types.Asked.{Asked}
use Rattle.command_files.specs.client_core.Asks.{AreSendable}
use Rattle.command_files.specs.wire_io.Files.{Files}
use Rattle.command_files.specs.dir_tree.tree.Numbered.{Numbered, entries_of}
use Rattle.command_files.specs.loading.Accepting.{HoldsIn}
use Rattle.command_files.specs.loading.Loading.{LoadsData, LoadsRequests}
use Rattle.acl_program.specs.declared.status.Status.{Status}
use Rattle.acl_program.specs.Answering.{TellsReplies, asked_text}
use Rattle.acl_program.specs.Outcomes.{Answered}
use Rattle.acl_program.specs.program.Outside.{Outside}
use Rattle.acl_program.specs.program.Playing.{Ends, Performs}
use Rattle.acl_program.proofs.program.PerformLemmas.{Performs-answered}

-- requests that were read can be sent
pub LoadsRequests-sendable : (files : Option Files) (name : List ℕ) (before after : ℕ) (asks : Vec Asked Global) → LoadsRequests files name before after (Ok asks) → AreSendable asks.items
unfolding LoadsRequests
LoadsRequests-sendable files name before after asks loads = loads.1

-- both files were read, and the text was to be put
pub Performs-asked :
    (name requests : List ℕ) (script : Bool) (before after : Outside) (middle : ℕ) (status : Status) (rows : List Numbered) (asks : Vec Asked Global) (lent : List Asked)
    → lent ≡ asks.items → LoadsData before.shelf.files name before.shelf.faults middle (Ok rows) → LoadsRequests before.shelf.files requests middle after.shelf.faults (Ok asks)
    → Ends (Answered (asked_text script (entries_of rows) lent)) before.out status after.out → after.link ≡ before.link → Performs (Ask name requests script) before status after
unfolding LoadsData LoadsRequests
Performs-asked name requests script before after middle status rows asks lent is loads reads ends same =
    let E : List Asked → Type 0 = λ all. Ends (Answered (asked_text script (entries_of rows) all)) before.out status after.out in
    let tells : TellsReplies name requests script (HoldsIn before.shelf.files) (asked_text script (entries_of rows) asks.items) =
    record { asks = asks.items; entries = entries_of rows; good = loads.0; read = reads.0; is = refl } in
    Performs-answered (Ask name requests script) (asked_text script (entries_of rows) asks.items) before after status tells (reads.2 ∙ loads.2) (subst E is ends) same
