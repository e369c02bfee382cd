-- What the parts of serving promise each other, for the inside of the crate alone.
use Rattle.std.specs.Prelude.{◌≡◌, ◌⊎◌, ℕ, List, Option, Result, Ok, Err}
use Rattle.command_files.specs.wire_io.declared.answers.NextFault.{NextFault}
use Rattle.command_files.specs.wire_io.Files.{Files}
use Rattle.command_files.specs.dir_tree.Entry.{EntryInformation}
use Rattle.command_files.specs.declared.changing.Loaded.{Loaded}
use Rattle.command_files.specs.declared.loading.Trouble.{Trouble}
use Rattle.command_files.specs.declared.loading.Trouble.TheVariants as trouble
use Rattle.command_files.specs.loading.Accepting.{HoldsIn, IsLoadedFrom}
use Rattle.command_files.specs.loading.Changing.{Left, head_of, left_of}
use Rattle.command_files.specs.loading.Loading.{LoadsTree}
use Rattle.command_words.specs.command.Command.{ServingView, serving_view}
use Rattle.acl_program.specs.declared.serve.ListenAsked.{ListenAsked}
use Rattle.acl_program.specs.declared.storing.Unready.{Unready}
use Rattle.acl_program.specs.declared.storing.Unready.TheVariants as unready
use Rattle.command_files.specs.wire_io.declared.answers.PutFault.{PutFault}
use Rattle.command_files.specs.wire_io.Putting.{PutsAll, PutCause}
use Rattle.session_hub.specs.declared.ended.Ended.{Ended}
use Rattle.acl_program.specs.declared.status.Status.{Status}
use Rattle.acl_program.specs.program.Outside.{Linked, Outside}
use Rattle.acl_program.specs.serve.Storing.{ServeAsked, StoreCall, OpensStore, CutsStore, Stores, Heads, IsPrepared, StoreFails, serve_asked}
use Rattle.acl_program.specs.serve.Serving.{ServeEnd, NotStored, NotBegun, NotOpened, NotServed, LoopEnded, ServesUntil, LinkListens, changes_read, ended_text, loop_status}
use Rattle.acl_program.specs.Outcomes.{Served, settled}
use Rattle.acl_program.specs.program.Playing.{Ends}
use Rattle.acl_program.specs.Troubles.{outcome_of}
use Rattle.command_files.specs.Outside.{Written}

-- serving came to an end: its text was put, and the link did what it says
unfoldable pub Listens : ServeAsked → Outside → Status → Outside → Type 0
Listens asked before status after = (end : ServeEnd) × Ends (Served asked end) before.out status after.out × LinkListens asked end before.link after.link

-- what was done with the open link after the line was to be put
abbrev pub FollowsOpen : ServeAsked → ServeEnd → Linked → Linked → Type 0
FollowsOpen asked (NotStored call fault) before after = ⊥
FollowsOpen asked NotBegun before after = ⊥
FollowsOpen asked NotOpened before after = ⊥
FollowsOpen asked NotServed before after = after ≡ before
FollowsOpen asked (LoopEnded how) before after = ServesUntil asked how before after

-- the same from the open link on
unfoldable pub ListensOn : ServeAsked → Outside → Status → Outside → Type 0
ListensOn asked before status after = (end : ServeEnd) × Ends (Served asked end) before.out status after.out × FollowsOpen asked end before.link after.link

-- the open link's loop ended, and the line of its end was to be put
pub record ServesOpened (asked : ServeAsked) (before : Outside) (status : Status) (after : Outside) : Type 0 where
  pub how : Ended
  pub answer : Result (Unit {0}) PutFault
  pub serves : ServesUntil asked how before.link after.link
  pub ends : status ≡ settled answer (loop_status how)
  pub tells : PutsAll before.out.put (ended_text how) answer after.out.put
  pub cause : PutCause before.out.faults after.out.faults answer

-- what is listened for, with the content of the data file and the entries that are served
abbrev pub listening_asked : ListenAsked → List ℕ → List EntryInformation → ServeAsked
listening_asked asked content entries = serve_asked (serving_view asked.serving) content (record { entries = entries; applied = asked.applied })

-- the store was cut, and given a head where it needs one; or one of the two calls failed
abbrev pub Prepares : List ℕ → ℕ → Result (Unit {0}) NextFault → Linked → Linked → Type 0
Prepares content whole (Ok done) before after = (cut : Linked) × CutsStore whole (Ok tt) before cut × Heads whole content cut after
Prepares content whole (Err fault) before after =
    CutsStore whole (Err fault) before after
    ⊎ ((cut : Linked) × CutsStore whole (Ok tt) before cut × (whole ≡ 0) × Stores (head_of content) (Err fault) cut after)

-- a call of the store failed, and the files that were read before it are accepted
pub record FailsToStore (serving : ServingView) (files : Option Files) (fault : NextFault) (before after : Linked) : Type 0 where
  pub call : StoreCall
  pub content : List ℕ
  pub left : Left
  pub good : IsLoadedFrom (HoldsIn files) serving.data_file (changes_read (NotStored call fault) serving.changes) content left
  pub fails : StoreFails (serve_asked serving content left) call fault before after

-- the files are accepted and the store is ready
pub record IsReadyToServe (serving : ServingView) (files : Option Files) (left : Left) (before after : Linked) : Type 0 where
  pub content : List ℕ
  pub good : IsLoadedFrom (HoldsIn files) serving.data_file serving.changes content left
  pub ready : IsPrepared (serve_asked serving content left) serving.changes before after

-- the link is as it was, or its store was opened, and nothing else done
abbrev pub OpensAtMost : Option (List ℕ) → Linked → Linked → Type 0
OpensAtMost changes before after = (after ≡ before) ⊎ OpensStore changes (Ok tt) before after

-- how a file that wasn't taken leaves the link: the store is opened once the data file is loaded
abbrev pub LeavesLink : Option (List ℕ) → Trouble → Linked → Linked → Type 0
LeavesLink changes trouble.NoFile before after = OpensAtMost changes before after
LeavesLink changes (trouble.BadData line cause) before after = after ≡ before
LeavesLink changes (trouble.BadLine file line) before after = after ≡ before
LeavesLink changes (trouble.BadChanges line cause) before after = OpensStore changes (Ok tt) before after
LeavesLink changes trouble.NoMemory before after = OpensAtMost changes before after

-- what is to be served is ready, or why not: a file wasn't taken, or a call of the store failed
unfoldable pub Readies : ServingView → Outside → Result Loaded Unready → Outside → Type 0
Readies serving before (Ok loaded) after =
    IsReadyToServe serving before.shelf.files (left_of loaded) before.link after.link × (after.shelf.faults ≡ before.shelf.faults)
Readies serving before (Err (unready.Files why)) after =
    LoadsTree before.shelf.files serving.data_file serving.changes before.shelf.faults after.shelf.faults (Err why)
    × LeavesLink serving.changes why before.link after.link
Readies serving before (Err (unready.Store fault)) after =
    FailsToStore serving before.shelf.files fault before.link after.link × (after.shelf.faults ≡ before.shelf.faults)

-- why nothing was ready was to be put, and the program was to end so
abbrev pub EndsUnready : Unready → Written → Status → Written → Type 0
EndsUnready (unready.Files why) before status after = Ends (outcome_of why) before status after
EndsUnready (unready.Store fault) before status after = (asked : ServeAsked) (call : StoreCall) → Ends (Served asked (NotStored call fault)) before status after
