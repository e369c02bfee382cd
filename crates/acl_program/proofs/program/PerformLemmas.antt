-- What the parts of a command say together of how it ended.
use Rattle.std.proofs.Common.{◌≡◌, ℕ, Bool, true, false, List, Option, Some, Ok, Err, refl, sym, ap, subst, ◌∙◌, inl, inr}
use Rattle.command_files.specs.wire_io.Files.{Files}
use Rattle.command_files.specs.wire_io.Scripted.{LinkState}
use Rattle.command_files.proofs.wire_io_proofs.Theorems.{appended-none}
use Rattle.command_words.specs.command.Command.{CommandView, IsCommand, Replay, Check, Why, Dump}
use Rattle.command_words.proofs.Theorems.{IsCommand-unique}
use Rattle.command_files.specs.data_file.Files.{cause_of}
use Rattle.command_files.specs.ldif_load.load.DataFile.{FileCause}
use Rattle.command_files.specs.dir_tree.tree.Numbered.{Numbered, entries_of}
use Rattle.command_files.proofs.Theorems.{FailsIn-weaker}
use Rattle.acl_program.specs.declared.status.Status.{Status}
use Rattle.acl_program.specs.declared.status.Status.TheVariants.{NoMemory}
use Rattle.command_files.specs.declared.loading.Trouble.{Trouble}
use Rattle.command_files.specs.declared.loading.Trouble.TheVariants as trouble
use Rattle.command_files.specs.loading.Accepting.{IsUnread, HoldsIn}
use Rattle.command_files.specs.declared.changing.ChangesCause.{ChangesCause}
use Rattle.command_files.specs.declared.changing.Loaded.{Loaded}
use Rattle.command_files.specs.loading.Changing.{left_of}
use Rattle.command_files.specs.loading.Loading.{IsRefused, LoadsData, LoadsScript, LoadsTree}
use Rattle.acl_program.specs.Answering.{Tells}
use Rattle.acl_program.specs.Outcomes.{Checked, Dumped, Replayed, Answered, OutOfMemory}
use Rattle.acl_program.specs.program.Causes.{AsksData, Comes, IsBadSecond, Links, OpensFor, RefusesSecond, Second, TellsLineAlone, data_of, changes_of, second_of}
use Rattle.acl_program.specs.program.Outside.{Linked, Outside, with_files}
use Rattle.acl_program.specs.program.Playing.{Ends, ComesFor, LinksFor, Performs}
use Rattle.acl_program.specs.Troubles.{outcome_of}
use Rattle.acl_program.proofs.troubles.EndsLemmas.{Ends-no_memory}

-- a file that wasn't read after a count stayed
unread_later : (files : Option Files) (name : List ℕ) (before middle after : ℕ) → middle ≡ before → IsUnread files name middle after → IsUnread files name before after
unread_later files name before middle after stays unread = subst (λ count. IsUnread files name count after) stays unread

-- the command asks why a data file is refused
abbrev pub is_why : CommandView → Bool
is_why (Why data_file) = true
is_why asked = false

-- words that ask for another are told the line of a refused data file alone
pub line_alone : (words : List (List ℕ)) (files : Option Files) (line : ℕ) (cause : FileCause) (asked : CommandView) → is_why asked ≡ false → IsCommand words asked → TellsLineAlone words files line cause
line_alone words files line cause asked other is = λ data_file why.
    let clash : true ≡ false = ap is_why (IsCommand-unique words (Why data_file) asked why is) ∙ other in absurd (cc)

-- a data file that wasn't read
data_refused :
    (asked : CommandView) (name : List ℕ) (files : Option Files) (before after : ℕ) (why : Trouble)
    → is_why asked ≡ false → data_of asked ≡ Some name → LoadsData files name before after (Err why) → ComesFor asked files before after (outcome_of why)
unfolding LoadsData Comes AsksData
data_refused asked name files before after trouble.NoFile other names loads =
    λ words is. inl (record { data_file = name; asked = (asked, is, names); unread = loads })
data_refused asked name files before after (trouble.BadData line cause) other names loads =
    λ words is. (inl (record { data_file = name; asked = (asked, is, names); bad = loads.0 }), line_alone words files line (cause_of cause) asked other is, loads.1)
data_refused asked name files before after (trouble.BadLine file line) other names loads = absurd loads
data_refused asked name files before after (trouble.BadChanges line cause) other names loads = absurd loads
data_refused asked name files before after trouble.NoMemory other names loads = λ words is. loads

-- a file that wasn't read leaves the link as it is, unless it is one of changes that is to be served
pub links_refused :
    (asked : CommandView) (why : Trouble) (before after : Linked) → after ≡ before → ((line : ℕ) (cause : ChangesCause) → why ≡ trouble.BadChanges line cause → OpensFor asked before after)
    → LinksFor asked (outcome_of why) before after
unfolding Links
links_refused asked trouble.NoFile before after stays opens = λ words is. inl stays
links_refused asked (trouble.BadData line cause) before after stays opens = λ words is. stays
links_refused asked (trouble.BadLine file line) before after stays opens = λ words is. stays
links_refused asked (trouble.BadChanges line cause) before after stays opens = λ words is. (asked, is, opens _ _ refl)
links_refused asked trouble.NoMemory before after stays opens = λ words is. inl stays

pub Performs-refused :
    (asked : CommandView) (name : List ℕ) (before after : Outside) (status : Status) (why : Trouble)
    → is_why asked ≡ false → data_of asked ≡ Some name → LoadsData before.shelf.files name before.shelf.faults after.shelf.faults (Err why) → Ends (outcome_of why) before.out status after.out
    → after.link ≡ before.link → Performs asked before status after
unfolding Performs LoadsData
Performs-refused asked name before after status why other names loads ends stays = (
  outcome_of why,
  data_refused asked name before.shelf.files before.shelf.faults after.shelf.faults why other names loads,
  ends,
  links_refused asked why before.link after.link stays (λ line cause is. absurd (subst (λ cause. LoadsData before.shelf.files name before.shelf.faults after.shelf.faults (Err cause)) is loads)),
)

-- a data file with its changes, of which one wasn't taken
pub tree_refused :
    (asked : CommandView) (name : List ℕ) (files : Option Files) (before after : ℕ) (why : Trouble)
    → is_why asked ≡ false → data_of asked ≡ Some name → LoadsTree files name (changes_of asked) before after (Err why) → ComesFor asked files before after (outcome_of why)
unfolding LoadsTree Comes AsksData
tree_refused asked name files before after trouble.NoFile other names (inl unread) =
    λ words is. inl (record { data_file = name; asked = (asked, is, names); unread = unread })
tree_refused asked name files before after trouble.NoFile other names (inr unread) =
    λ words is. inr (inr (record { command = asked; data_file = name; asked = is; has_data = names; unread = unread }))
tree_refused asked name files before after (trouble.BadData line cause) other names loads =
    λ words is. (inl (record { data_file = name; asked = (asked, is, names); bad = loads.0 }), line_alone words files line (cause_of cause) asked other is, loads.1)
tree_refused asked name files before after (trouble.BadLine file line) other names loads = absurd loads
tree_refused asked name files before after (trouble.BadChanges line cause) other names loads =
    λ words is. (record { command = asked; data_file = name; asked = is; has_data = names; bad = loads.0 }, loads.1)
tree_refused asked name files before after trouble.NoMemory other names loads = λ words is. loads

pub Performs-tree_refused :
    (asked : CommandView) (name : List ℕ) (before after : Outside) (status : Status) (why : Trouble)
    → is_why asked ≡ false → data_of asked ≡ Some name → LoadsTree before.shelf.files name (changes_of asked) before.shelf.faults after.shelf.faults (Err why) → Ends (outcome_of why) before.out status after.out
    → after.link ≡ before.link → OpensFor asked before.link after.link → Performs asked before status after
unfolding Performs
Performs-tree_refused asked name before after status why other names loads ends stays opens = (
  outcome_of why,
  tree_refused asked name before.shelf.files before.shelf.faults after.shelf.faults why other names loads,
  ends,
  links_refused asked why before.link after.link stays (λ line cause is. opens),
)

-- a tree that was checked, or put again
pub Performs-checked :
    (name : List ℕ) (changes : Option (List ℕ)) (before after : Outside) (status : Status) (loaded : Loaded)
    → LoadsTree before.shelf.files name changes before.shelf.faults after.shelf.faults (Ok loaded) → Ends (Checked (left_of loaded)) before.out status after.out
    → after.link ≡ before.link → Performs (Check name changes) before status after
unfolding Performs LoadsTree Comes Links
Performs-checked name changes before after status loaded loads ends stays =
    (Checked (left_of loaded), (λ words is. (record { data_file = name; changes = changes; asked = is; good = loads.0 }, loads.2)), ends, λ words is. stays)

pub Performs-dumped :
    (name : List ℕ) (changes : Option (List ℕ)) (before after : Outside) (status : Status) (loaded : Loaded)
    → LoadsTree before.shelf.files name changes before.shelf.faults after.shelf.faults (Ok loaded) → Ends (Dumped (left_of loaded)) before.out status after.out
    → after.link ≡ before.link → Performs (Dump name changes) before status after
unfolding Performs LoadsTree Comes Links
Performs-dumped name changes before after status loaded loads ends stays =
    (Dumped (left_of loaded), (λ words is. (record { data_file = name; changes = changes; asked = is; good = loads.0 }, loads.2)), ends, λ words is. stays)

-- a second file that isn't taken, after the data file was loaded
second_refused :
    (asked : CommandView) (name : List ℕ) (read : Second) (rows : List Numbered) (bad : ℕ → List ℕ → Type 0) (files : Option Files) (before middle after : ℕ) (why : Trouble)
    → data_of asked ≡ Some name → second_of asked ≡ Some read → ((line : ℕ) (content : List ℕ) → bad line content → IsBadSecond read.kind (entries_of rows) line content)
    → LoadsData files name before middle (Ok rows) → IsRefused read.kind bad files read.name middle after why → ComesFor asked files before after (outcome_of why)
unfolding LoadsData IsRefused Comes
second_refused asked name read rows bad files before middle after trouble.NoFile has_data has_second is_bad loads refused =
    λ words is. inr (inl (record {
      read = read;
      entries = entries_of rows;
      asked = record { command = asked; data_file = name; asked = is; has_data = has_data; has_second = has_second; good = loads.0 };
      unread = unread_later files read.name before middle after loads.2 refused;
    }))
second_refused asked name read rows bad files before middle after (trouble.BadData line cause) has_data has_second is_bad loads refused = absurd refused
second_refused asked name read rows bad files before middle after (trouble.BadLine file line) has_data has_second is_bad loads refused =
    let refuses : (words : List (List ℕ)) → IsCommand words asked → RefusesSecond words files read.kind line = λ words is. record {
      name = read.name;
      entries = entries_of rows;
      asked = record { command = asked; data_file = name; asked = is; has_data = has_data; has_second = has_second; good = loads.0 };
      bad = FailsIn-weaker files read.name (bad line) (IsBadSecond read.kind (entries_of rows) line) (is_bad line) refused.1;
    } in
    λ words is. (subst (λ kind. RefusesSecond words files kind line) (sym refused.0) (refuses words is), refused.2 ∙ loads.2)
second_refused asked name read rows bad files before middle after (trouble.BadChanges line cause) has_data has_second is_bad loads refused = absurd refused
second_refused asked name read rows bad files before middle after trouble.NoMemory has_data has_second is_bad loads refused = λ words is. refused ∙ loads.2

pub Performs-second_refused :
    (asked : CommandView) (name : List ℕ) (read : Second) (bad : ℕ → List ℕ → Type 0) (before after : Outside) (middle : ℕ) (status : Status) (rows : List Numbered) (why : Trouble)
    → data_of asked ≡ Some name → second_of asked ≡ Some read → ((line : ℕ) (content : List ℕ) → bad line content → IsBadSecond read.kind (entries_of rows) line content)
    → LoadsData before.shelf.files name before.shelf.faults middle (Ok rows) → IsRefused read.kind bad before.shelf.files read.name middle after.shelf.faults why
    → Ends (outcome_of why) before.out status after.out → after.link ≡ before.link → Performs asked before status after
unfolding Performs IsRefused
Performs-second_refused asked name read bad before after middle status rows why has_data has_second is_bad loads refused ends stays = (
  outcome_of why,
  second_refused asked name read rows bad before.shelf.files before.shelf.faults middle after.shelf.faults why has_data has_second is_bad loads refused,
  ends,
  links_refused asked why before.link after.link stays (λ line cause is. absurd (subst (IsRefused read.kind bad before.shelf.files read.name middle after.shelf.faults) is refused)),
)

-- a command after its data file was loaded, from the shelf as it then was
pub Performs-after :
    (asked : CommandView) (before after : Outside) (kept : Option Files) (name : List ℕ) (middle : ℕ) (status : Status) (rows : List Numbered)
    → kept ≡ before.shelf.files → LoadsData before.shelf.files name before.shelf.faults middle (Ok rows)
    → (LoadsData kept name before.shelf.faults middle (Ok rows) → Performs asked (with_files kept before) status after) → Performs asked before status after
Performs-after asked before after kept name middle status rows same loads performs =
    let P : Option Files → Type 0 = λ known. Performs asked (with_files known before) status after in
    let Q : Option Files → Type 0 = λ known. LoadsData known name before.shelf.faults middle (Ok rows) in
    subst P same (performs (subst Q (sym same) loads))

-- a script was replayed
pub Performs-replayed :
    (name script : List ℕ) (turns : ℕ) (dump : Bool) (before after : Outside) (middle : ℕ) (status : Status) (rows : List Numbered) (link : LinkState)
    → LoadsData before.shelf.files name before.shelf.faults middle (Ok rows) → LoadsScript before.shelf.files script middle after.shelf.faults (Ok link)
    → Ends (Replayed link.plan.to_come turns dump (entries_of rows)) before.out status after.out → after.link ≡ before.link → Performs (Replay name script turns dump) before status after
unfolding Performs LoadsData LoadsScript Comes Links
Performs-replayed name script turns dump before after middle status rows link loads reads ends same = (
  Replayed link.plan.to_come turns dump (entries_of rows),
  (λ words is. (record { script = script; asked = record { data_file = name; asked = is; good = loads.0 }; good = reads.0 }, reads.2 ∙ loads.2)),
  ends,
  λ words is. same,
)

-- something was answered
pub Performs-answered :
    (asked : CommandView) (text : List ℕ) (before after : Outside) (status : Status)
    → Tells asked (HoldsIn before.shelf.files) text → after.shelf.faults ≡ before.shelf.faults → Ends (Answered text) before.out status after.out
    → after.link ≡ before.link → Performs asked before status after
unfolding Performs Comes Links
Performs-answered asked text before after status tells stays ends same =
    (Answered text, (λ words is. (record { command = asked; asked = is; tells = tells }, stays)), ends, λ words is. same)

-- there was no memory for the command
pub Performs-no_memory : (asked : CommandView) (before : Outside) → Performs asked before NoMemory before
unfolding Performs Comes Links
Performs-no_memory asked before =
    (OutOfMemory, (λ words is. refl), Ends-no_memory OutOfMemory before.out before.out 0 (appended-none before.out.put) refl, λ words is. inl refl)
