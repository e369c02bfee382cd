-- Lemmas on serving: what its parts say together.
use Rattle.std.proofs.Common.{◌≡◌, ℕ, List, ◌++◌, Option, Result, Ok, Err, refl, sym, ap, ◌∙◌, subst, arith, inl, inr}
use Rattle.command_files.specs.wire_io.declared.answers.NextFault.{NextFault}
use Rattle.command_files.specs.wire_io.declared.answers.NextFault.TheVariants as next
use Rattle.command_files.specs.wire_io.declared.answers.PutFault.{PutFault}
use Rattle.command_files.specs.wire_io.Answers.{LinkCause}
use Rattle.command_files.specs.wire_io.Putting.{PutsAll, PutCause}
use Rattle.command_files.specs.wire_io.link.Telling.{OpenTells}
use Rattle.command_files.proofs.wire_io_proofs.Theorems.{appended-none, PutsAll-then, PutCause-then}
use Rattle.command_words.specs.command.Command.{Serve, ServingView, IsCommand}
use Rattle.command_files.specs.dir_tree.Entry.{EntryInformation}
use Rattle.command_files.specs.declared.changing.Loaded.{Loaded}
use Rattle.command_files.specs.declared.loading.Trouble.{Trouble}
use Rattle.command_files.specs.declared.loading.Trouble.TheVariants as trouble
use Rattle.command_files.specs.loading.Accepting.{HoldsIn, IsLoadedFrom}
use Rattle.command_files.specs.loading.Changing.{left_of}
use Rattle.command_files.specs.loading.Loading.{LoadsTree}
use Rattle.command_files.specs.Outside.{Written}
use Rattle.acl_program.specs.declared.serve.ListenAsked.{ListenAsked}
use Rattle.acl_program.specs.declared.storing.Unready.{Unready}
use Rattle.acl_program.specs.declared.storing.Unready.TheVariants as unready
use Rattle.acl_program.specs.declared.status.Status.{Status}
use Rattle.acl_program.specs.declared.status.Status.TheVariants.{NoMemory}
use Rattle.acl_program.specs.program.Causes.{Comes, Links, MayOpenStore}
use Rattle.acl_program.specs.serve.Listening.{EndsUnready, FollowsOpen, LeavesLink, Listens, ListensOn, OpensAtMost, Readies, ServesOpened, listening_asked}
use Rattle.acl_program.specs.Outcomes.{Served, text_of, status_of, settled}
use Rattle.acl_program.specs.Troubles.{outcome_of}
use Rattle.acl_program.specs.program.Outside.{Linked, Outside, at_link, beside}
use Rattle.acl_program.specs.program.Playing.{Ends, LinksFor, Performs}
use Rattle.acl_program.specs.serve.Storing.{ServeAsked, StoreCall, IsPrepared, StoreFails, serve_asked}
use Rattle.acl_program.specs.serve.Serving.{ServeEnd, NotStored, NotBegun, NotOpened, NotServed, LoopEnded, Opens, LinkListens, LinkServes, changes_read, ended_text, loop_status, opened_text}
use Rattle.acl_program.proofs.program.PerformLemmas.{tree_refused}
use Rattle.acl_program.proofs.troubles.EndsLemmas.{Ends-no_memory, Ends-put}

-- what follows `open`
follows_open : (asked : ServeAsked) (end : ServeEnd) (before opened after : Linked) → Opens asked.serving (Ok tt) before opened → FollowsOpen asked end opened after → LinkListens asked end before after
unfolding LinkListens
follows_open asked (NotStored call fault) before opened after opens follows = absurd follows
follows_open asked NotBegun before opened after opens follows = absurd follows
follows_open asked NotOpened before opened after opens follows = absurd follows
follows_open asked NotServed before opened after opens follows = subst (λ link. Opens asked.serving (Ok tt) before link) (sym follows) opens
follows_open asked (LoopEnded how) before opened after opens follows = (opened, opens, follows)

module _ (asked : ServeAsked) (before after : Outside) (status : Status) where
  -- the link opened, and what followed
  pub Listens-opened : (opened : Linked) → Opens asked.serving (Ok tt) before.link opened → ListensOn asked (at_link opened before) status after → Listens asked before status after
  unfolding Listens ListensOn
  Listens-opened opened opens on = (on.0, on.1, follows_open asked on.0 before.link opened after.link opens on.2)

  -- it failed to open
  pub Listens-failed : Opens asked.serving (Err next.Failed) before.link after.link → Ends (Served asked NotOpened) before.out status after.out → Listens asked before status after
  unfolding Listens LinkListens
  Listens-failed opens ends = (NotOpened, ends, opens)

  -- the line was put, and the loop ended
  pub ListensOn-ended : (put : Written) (done : Unit {0}) → PutsAll before.out.put (opened_text asked) (Ok done) put.put → PutCause {T = Unit {0}} before.out.faults put.faults (Ok done)
      → ServesOpened asked (beside before.shelf put before.link) status after → ListensOn asked before status after
  unfolding ListensOn text_of status_of
  ListensOn-ended put done tells cause opened = (
    LoopEnded opened.how,
    Ends-put (Served asked (LoopEnded opened.how)) before.out after.out (opened_text asked ++ ended_text opened.how) opened.answer (loop_status opened.how) status refl refl opened.ends
        (PutsAll-then before.out.put put.put after.out.put (opened_text asked) (ended_text opened.how) done opened.answer tells opened.tells)
        (PutCause-then before.out.faults put.faults after.out.faults done opened.answer cause opened.cause),
    opened.serves,
  )

  -- the line wasn't put whole
  pub ListensOn-cut : (fault : PutFault) → PutsAll {T = Unit {0}} before.out.put (opened_text asked) (Err fault) after.out.put
      → PutCause {T = Unit {0}} before.out.faults after.out.faults (Err fault) → status ≡ settled (Err fault) NoMemory → after.link ≡ before.link → ListensOn asked before status after
  unfolding ListensOn text_of status_of
  ListensOn-cut fault tells cause is same =
      (NotServed, Ends-put (Served asked NotServed) before.out after.out (opened_text asked) (Err fault) NoMemory status refl refl is tells cause, same)

-- a text that is another
pub PutsAll-as : (old new : Option (List ℕ)) (text made : List ℕ) (answer : Result (Unit {0}) PutFault) → text ≡ made → PutsAll old text answer new → PutsAll old made answer new
PutsAll-as old new text made answer is puts = subst (λ printed. PutsAll old printed answer new) is puts

-- there was no memory to open the link
pub Listens-no_memory : (asked : ServeAsked) (before after : Outside) → Opens asked.serving (Err next.NoMemory) before.link after.link → after.out ≡ before.out → Listens asked before NoMemory after
unfolding Listens LinkListens
Listens-no_memory asked before after opens stays =
    (NotBegun, Ends-no_memory (Served asked NotBegun) before.out after.out 0 (ap (λ out. out.put) stays ∙ appended-none before.out.put) (ap (λ out. out.faults) stays), opens)

-- there was no memory for the directory, and nothing was done
pub Listens-nothing : (asked : ServeAsked) (before : Outside) → Listens asked before NoMemory before
unfolding OpenTells LinkCause
Listens-nothing asked before = Listens-no_memory asked before before (record { tells = refl; cause = refl; stays = refl; plan = refl; lost = record { never_falls = omega arith }; refusals = record { never_falls = omega arith } }) refl

-- the entries that are served are those of the tree
pub Listens-over :
    (asked : ListenAsked) (content : List ℕ) (served entries : List EntryInformation) (before after : Outside) (status : Status)
    → served ≡ entries → Listens (listening_asked asked content served) before status after → Listens (listening_asked asked content entries) before status after
Listens-over asked content served entries before after status same listens =
    subst (λ found. Listens (listening_asked asked content found) before status after) same listens

-- what was done once the store was ready, after it was made so
serves_ready : (asked : ServeAsked) (end : ServeEnd) (before ready after : Linked) → IsPrepared asked asked.serving.changes before ready → LinkListens asked end ready after → LinkServes asked end before after
unfolding LinkServes LinkListens
serves_ready asked (NotStored call fault) before ready after prepared listens = absurd listens
serves_ready asked NotBegun before ready after prepared listens = (ready, prepared, listens)
serves_ready asked NotOpened before ready after prepared listens = (ready, prepared, listens)
serves_ready asked NotServed before ready after prepared listens = (ready, prepared, listens)
serves_ready asked (LoopEnded how) before ready after prepared listens = (ready, prepared, listens)

-- all files that are named were read
all_read : (asked : ServeAsked) (end : ServeEnd) (ready after : Linked) (P : Option (List ℕ) → Type 0) → LinkListens asked end ready after → P asked.serving.changes → P (changes_read end asked.serving.changes)
unfolding LinkListens
all_read asked (NotStored call fault) ready after P listens good = absurd listens
all_read asked NotBegun ready after P listens good = good
all_read asked NotOpened ready after P listens good = good
all_read asked NotServed ready after P listens good = good
all_read asked (LoopEnded how) ready after P listens good = good

-- what was ready was served: the shelf stayed, and what was printed began with what was there
pub Performs-served :
    (serving : ServingView) (before ready after : Outside) (status : Status) (loaded : Loaded)
    → Readies serving before (Ok loaded) ready → ready.out ≡ before.out
    → after.shelf ≡ ready.shelf → ((content : List ℕ) → Listens (serve_asked serving content (left_of loaded)) ready status after) → Performs (Serve serving) before status after
unfolding Performs Listens Readies Comes Links
Performs-served serving before ready after status loaded readies unprinted kept listens =
    let own = readies.0 in
    let served : ServeAsked = serve_asked serving own.content (left_of loaded) in
    let on = listens own.content in
    let good = all_read served on.0 ready.link after.link (λ changes. IsLoadedFrom (HoldsIn before.shelf.files) serving.data_file changes own.content (left_of loaded)) on.2 own.good in (
      Served served on.0,
      (λ words is. (record { asked = is; good = good }, ap (λ shelf. shelf.faults) kept ∙ readies.1)),
      subst (λ out. Ends (Served served on.0) out status after.out) unprinted on.1,
      λ words is. serves_ready served on.0 before.link ready.link after.link own.ready on.2,
    )

-- the link as words that ask for serving may leave it
may_open : (serving : ServingView) (words : List (List ℕ)) (before after : Linked) → IsCommand words (Serve serving) → OpensAtMost serving.changes before after → MayOpenStore words before after
may_open serving words before after is (inl same) = inl same
may_open serving words before after is (inr opens) = inr (serving, is, opens)

-- a file wasn't taken
links_unready : (serving : ServingView) (why : Trouble) (before after : Linked) → LeavesLink serving.changes why before after → LinksFor (Serve serving) (outcome_of why) before after
unfolding Links
links_unready serving trouble.NoFile before after leaves = λ words is. may_open serving words before after is leaves
links_unready serving (trouble.BadData line cause) before after leaves = λ words is. leaves
links_unready serving (trouble.BadLine file line) before after leaves = λ words is. leaves
links_unready serving (trouble.BadChanges line cause) before after leaves = λ words is. (Serve serving, is, leaves)
links_unready serving trouble.NoMemory before after leaves = λ words is. may_open serving words before after is leaves

-- nothing was ready to be served: a file wasn't taken, or a call of the store failed
pub Performs-unready :
    (serving : ServingView) (before ready after : Outside) (status : Status) (why : Unready)
    → Readies serving before (Err why) ready → ready.out ≡ before.out → EndsUnready why ready.out status after.out → after.shelf ≡ ready.shelf → after.link ≡ ready.link
    → Performs (Serve serving) before status after
unfolding Performs Readies Comes Links LinkServes
Performs-unready serving before ready after status (unready.Files why) readies unprinted ends kept same = (
  outcome_of why,
  tree_refused (Serve serving) serving.data_file before.shelf.files before.shelf.faults after.shelf.faults why refl refl
      (subst (λ shelf. LoadsTree before.shelf.files serving.data_file serving.changes before.shelf.faults shelf.faults (Err why)) (sym kept) readies.0),
  subst (λ out. Ends (outcome_of why) out status after.out) unprinted ends,
  links_unready serving why before.link after.link (subst (LeavesLink serving.changes why before.link) (sym same) readies.1),
)
Performs-unready serving before ready after status (unready.Store fault) readies unprinted ends kept same =
    let own = readies.0 in
    let asked : ServeAsked = serve_asked serving own.content own.left in (
      Served asked (NotStored own.call fault),
      (λ words is. (record { asked = is; good = own.good }, ap (λ shelf. shelf.faults) kept ∙ readies.1)),
      subst (λ out. Ends (Served asked (NotStored own.call fault)) out status after.out) unprinted (ends asked own.call),
      λ words is. subst (StoreFails asked own.call fault before.link) (sym same) own.fails,
    )
