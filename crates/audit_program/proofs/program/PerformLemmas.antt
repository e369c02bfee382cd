-- What the parts of the program say together of what it comes to.
use Rattle.std.proofs.Common.{◌≡◌, ℕ, List, [], Option, Some, None, Ok, Err, refl, sym, ap, ◌∙◌, subst, inl, inr}
use Rattle.command_files.specs.wire_io.Files.{Files}
use Rattle.command_files.specs.wire_io.Scripted.{LinkState, fresh_link}
use Rattle.command_files.specs.aci_item.Rules.{IsGoodTree}
use Rattle.command_files.specs.data_file.Files.{cause_of}
use Rattle.command_files.specs.declared.loading.Trouble.{Trouble}
use Rattle.command_files.specs.declared.loading.Trouble.TheVariants as trouble
use Rattle.command_files.specs.dir_tree.tree.Numbered.{Numbered, entries_of}
use Rattle.command_files.specs.Ending.{EndsBy}
use Rattle.command_files.specs.Outside.{Written}
use Rattle.command_files.specs.Troubles.{trouble_text, no_file_text, bad_data_text, bad_line_text}
use Rattle.command_files.specs.loading.Accepting.{IsUnread}
use Rattle.command_files.specs.loading.Loading.{IsRefused, LoadsData, LoadsScript}
use Rattle.command_files.proofs.wire_io_proofs.Theorems.{PutsAll-nothing, PutCause-nothing}
use Rattle.hush_laws.specs.Audits.{audit_text}
use Rattle.audit_program.specs.declared.status.AuditStatus.{AuditStatus}
use Rattle.audit_program.specs.declared.status.AuditStatus.TheVariants.{Done, Usage, BadData, ShelfFault, NoMemory, BadScript}
use Rattle.audit_program.specs.Statuses.{put_statuses, trouble_status, usage_text}
use Rattle.audit_program.specs.Words.{AuditView, IsAsked}
use Rattle.audit_program.specs.Auditing.{AskNoAudit, Comes, Outside, Prints, with_files}
use Rattle.audit_program.specs.Performing.{Performs, Tells}

-- nothing was put for want of memory
nothing_put : (before after : Written) → after ≡ before → EndsBy put_statuses [] NoMemory before NoMemory after
nothing_put before after same =
    let P : Written → Type 0 = λ out. EndsBy put_statuses [] NoMemory before NoMemory out in
    subst P (sym same) (record { answer = Ok tt; is = refl; puts = PutsAll-nothing before.put tt; cause = PutCause-nothing before.faults tt })

-- the words ask for this audit
pub Prints-performed : (words : List (List ℕ)) (asked : AuditView) (before after : Outside) (status : AuditStatus)
    → IsAsked words asked → Performs asked before status after → Prints words before status after
unfolding Prints Performs
Prints-performed words asked before after status is performs = (performs.0, performs.1, performs.2 words is, performs.3)

-- they ask for none
pub Prints-usage : (words : List (List ℕ)) (before after : Outside) (status : AuditStatus)
    → ((asked : AuditView) → IsAsked words asked → None ≡ Some asked) → EndsBy put_statuses usage_text Usage before.out status after.out
    → after.shelf.faults ≡ before.shelf.faults → Prints words before status after
unfolding Prints Comes AskNoAudit
Prints-usage words before after status only ends stays = (Usage, usage_text, ((λ asked is. let none : None ≡ Some asked = only asked is in cc none), refl, stays), ends)

-- there was no memory to read them
pub Prints-unread : (words : List (List ℕ)) (before after : Outside) → after.shelf.faults ≡ before.shelf.faults → after.out ≡ before.out → Prints words before NoMemory after
unfolding Prints Comes
Prints-unread words before after stays same = (NoMemory, [], (refl, stays), nothing_put before.out after.out same)

-- the data file wasn't read, or is refused
pub Performs-refused :
    (asked : AuditView) (before after : Outside) (status : AuditStatus) (why : Trouble)
    → LoadsData before.shelf.files asked.data_file before.shelf.faults after.shelf.faults (Err why) → EndsBy put_statuses (trouble_text why) (trouble_status why) before.out status after.out
    → Performs asked before status after
unfolding Performs LoadsData Comes
Performs-refused asked before after status trouble.NoFile loads ends =
    (ShelfFault, no_file_text, (λ words is. (inl (record { asked = asked; asks = is; unread = loads }), refl)), ends)
Performs-refused asked before after status (trouble.BadData line cause) loads ends =
    (BadData, bad_data_text line (cause_of cause), (λ words is. (line, cause_of cause, record { asked = asked; asks = is; bad = loads.0 }, refl, loads.1)), ends)
Performs-refused asked before after status (trouble.BadLine file line) loads ends = absurd loads
Performs-refused asked before after status (trouble.BadChanges line cause) loads ends = absurd loads
Performs-refused asked before after status trouble.NoMemory loads ends = (NoMemory, [], (λ words is. (refl, loads)), ends)

-- a file that wasn't read after a count stayed
unread_later : (files : Option Files) (name : List ℕ) (before middle after : ℕ) → middle ≡ before → IsUnread files name middle after → IsUnread files name before after
unread_later files name before middle after stays unread = subst (λ count. IsUnread files name count after) stays unread

-- the data file was loaded, and the script wasn't read, or is refused
pub Performs-script_refused :
    (asked : AuditView) (before after : Outside) (middle : ℕ) (status : AuditStatus) (rows : List Numbered) (why : Trouble)
    → LoadsData before.shelf.files asked.data_file before.shelf.faults middle (Ok rows) → LoadsScript before.shelf.files asked.script middle after.shelf.faults (Err why)
    → EndsBy put_statuses (trouble_text why) (trouble_status why) before.out status after.out → Performs asked before status after
unfolding Performs LoadsData LoadsScript IsRefused Comes
Performs-script_refused asked before after middle status rows trouble.NoFile loads refused ends = (
  ShelfFault,
  no_file_text,
  (λ words is. (
    inr (record {
      asked = asked;
      entries = entries_of rows;
      asks = is;
      good_data = loads.0;
      unread = unread_later before.shelf.files asked.script before.shelf.faults middle after.shelf.faults loads.2 refused;
    }),
    refl,
  )),
  ends,
)
Performs-script_refused asked before after middle status rows (trouble.BadData line cause) loads refused ends = absurd refused
Performs-script_refused asked before after middle status rows (trouble.BadLine file line) loads refused ends = (
  BadScript,
  bad_line_text file line,
  (λ words is. (line, record { asked = asked; entries = entries_of rows; asks = is; good_data = loads.0; bad = refused.1 }, ap (λ kind. bad_line_text kind line) refused.0, refused.2 ∙ loads.2)),
  ends,
)
Performs-script_refused asked before after middle status rows (trouble.BadChanges line cause) loads refused ends = absurd refused
Performs-script_refused asked before after middle status rows trouble.NoMemory loads refused ends = (NoMemory, [], (λ words is. (refl, refused ∙ loads.2)), ends)

-- both files were accepted, and an audit was to be put
pub Performs-told :
    (asked : AuditView) (before after : Outside) (middle : ℕ) (status : AuditStatus) (rows : List Numbered) (link : LinkState)
    → LoadsData before.shelf.files asked.data_file before.shelf.faults middle (Ok rows) → LoadsScript before.shelf.files asked.script middle after.shelf.faults (Ok link)
    → Tells (entries_of rows) link.plan.to_come asked.number asked.top before.out status after.out → Performs asked before status after
unfolding Performs LoadsData LoadsScript Comes Tells
Performs-told asked before after middle status rows link loads reads (inl told) = (
  Done,
  audit_text told.0,
  (λ words is. (
    told.0,
    record {
      asked = asked;
      entries = entries_of rows;
      events = link.plan.to_come;
      asks = is;
      good_data = loads.0;
      good_script = reads.0;
      sound = told.1;
    },
    refl,
    reads.2 ∙ loads.2,
  )),
  told.2,
)
Performs-told asked before after middle status rows link loads reads (inr none) =
    let P : AuditStatus → Type 0 = λ ended. EndsBy put_statuses [] NoMemory before.out ended after.out in
    (NoMemory, [], (λ words is. (refl, reads.2 ∙ loads.2)), subst P (sym none.0) (nothing_put before.out after.out none.1))

-- after the data file was loaded, from the shelf as it then was
pub Performs-after :
    (asked : AuditView) (before after : Outside) (kept : Option Files) (middle : ℕ) (status : AuditStatus) (rows : List Numbered)
    → kept ≡ before.shelf.files → LoadsData before.shelf.files asked.data_file before.shelf.faults middle (Ok rows)
    → (LoadsData kept asked.data_file before.shelf.faults middle (Ok rows) → Performs asked (with_files kept before) status after) → Performs asked before status after
Performs-after asked before after kept middle status rows same loads performs =
    let P : Option Files → Type 0 = λ known. Performs asked (with_files known before) status after in
    let Q : Option Files → Type 0 = λ known. LoadsData known asked.data_file before.shelf.faults middle (Ok rows) in
    subst P same (performs (subst Q (sym same) loads))

-- a tree that was loaded is good
pub LoadsData-good : (files : Option Files) (name : List ℕ) (before after : ℕ) (rows : List Numbered) → LoadsData files name before after (Ok rows) → IsGoodTree (entries_of rows)
unfolding LoadsData
LoadsData-good files name before after rows loads = loads.1

-- a link that was loaded has done nothing yet
pub LoadsScript-fresh : (files : Option Files) (name : List ℕ) (before after : ℕ) (link : LinkState) → LoadsScript files name before after (Ok link)
    → link ≡ fresh_link link.plan.to_come [] [] []
unfolding LoadsScript
LoadsScript-fresh files name before after link loads = loads.1
