-- The store of serving, which is made ready before the link opens: the file of changes is opened, cut to what is whole of it,
-- and given the head of the data file where it has none.
use Rattle.std.specs.Prelude.{◌≡◌, ℕ, zero, suc, List, Option, Some, None, Result, Ok, Err}
use Rattle.command_files.specs.plain_values.Counts.{NeverFalls}
use Rattle.command_files.specs.wire_io.declared.answers.NextFault.{NextFault}
use Rattle.command_files.specs.wire_io.declared.journal.Item.{Item}
use Rattle.command_files.specs.wire_io.declared.journal.Item.TheVariants as item
use Rattle.command_files.specs.wire_io.Answers.{LinkCause}
use Rattle.command_files.specs.wire_io.link.Telling.{NoteTells, StoreOpenTells}
use Rattle.command_words.specs.command.Command.{ServingView}
use Rattle.command_files.specs.declared.changing.Applied.{Applied}
use Rattle.command_files.specs.loading.Changing.{Left, head_of}
use Rattle.acl_program.specs.program.Outside.{Linked}

-- what is served, as the words ask for it: the content of the data file, and what the files leave
pub record ServeAsked : Type 0 where
  pub serving : ServingView
  pub content : List ℕ
  pub left : Left

-- the same, by its parts
abbrev pub serve_asked : ServingView → List ℕ → Left → ServeAsked
serve_asked serving content left = record { serving = serving; content = content; left = left }

-- the calls of the store before the link opens
pub data StoreCall : Type 0 where
  OpenStore : StoreCall
  CutStore : StoreCall
  StoreHead : StoreCall

-- the link was asked for something, which its journal notes so, and gave this answer; a fault raises this count, and the
-- other one stays
pub record Gives (Tells : Option (List Item) → Result (Unit {0}) NextFault → Option (List Item) → Type 0) (count other : Linked → ℕ) (answer : Result (Unit {0}) NextFault) (before after : Linked) : Type 0 where
  pub tells : Tells before.journal answer after.journal
  pub cause : LinkCause before.plan (count before) (count after) answer
  pub stays : other after ≡ other before
  pub plan : after.plan ≡ before.plan
  pub lost : NeverFalls before.lost after.lost
  pub refusals : NeverFalls before.refusals after.refusals

-- it was asked for something of its store
abbrev pub GivesOfStore : (Option (List Item) → Result (Unit {0}) NextFault → Option (List Item) → Type 0) → Result (Unit {0}) NextFault → Linked → Linked → Type 0
GivesOfStore Tells answer before after = Gives Tells (λ link. link.store_faults) (λ link. link.faults) answer before after

-- to open the store of the file of changes, where one is named
abbrev pub OpensStore : Option (List ℕ) → Result (Unit {0}) NextFault → Linked → Linked → Type 0
OpensStore None answer before after = ⊥
OpensStore (Some name) answer before after = GivesOfStore (λ old given new. StoreOpenTells old name given new) answer before after

-- to cut it to so many octets
abbrev pub CutsStore : ℕ → Result (Unit {0}) NextFault → Linked → Linked → Type 0
CutsStore length answer before after = GivesOfStore (λ old given new. NoteTells old (item.StoreCut length) given new) answer before after

-- and to store octets
abbrev pub Stores : List ℕ → Result (Unit {0}) NextFault → Linked → Linked → Type 0
Stores octets answer before after = GivesOfStore (λ old given new. NoteTells old (item.Stored octets) given new) answer before after

-- how many octets of a file of changes are whole; none, where there is no file
abbrev pub whole_of : Option Applied → ℕ
whole_of None = 0
whole_of (Some applied) = applied.whole

-- the store was opened, and cut to what is whole of the file
pub record IsCut (asked : ServeAsked) (before after : Linked) : Type 0 where
  pub opened : Linked
  pub opens : OpensStore asked.serving.changes (Ok tt) before opened
  pub cuts : CutsStore (whole_of asked.left.applied) (Ok tt) opened after

-- the head of the data file of this content was stored where nothing of the file is whole, and nothing else
abbrev pub Heads : ℕ → List ℕ → Linked → Linked → Type 0
Heads zero content before after = Stores (head_of content) (Ok tt) before after
Heads (suc whole) content before after = after ≡ before

-- it was opened and cut, and has a head
pub record IsStored (asked : ServeAsked) (before after : Linked) : Type 0 where
  pub cut : Linked
  pub is_cut : IsCut asked before cut
  pub heads : Heads (whole_of asked.left.applied) asked.content cut after

-- the store is ready, where a file of changes is named; else nothing was done
abbrev pub IsPrepared : ServeAsked → Option (List ℕ) → Linked → Linked → Type 0
IsPrepared asked None before after = after ≡ before
IsPrepared asked (Some name) before after = IsStored asked before after

-- this call was answered with this fault, and those before it were answered Ok
abbrev pub StoreFails : ServeAsked → StoreCall → NextFault → Linked → Linked → Type 0
StoreFails asked OpenStore fault before after = OpensStore asked.serving.changes (Err fault) before after
StoreFails asked CutStore fault before after =
    (opened : Linked) × OpensStore asked.serving.changes (Ok tt) before opened × CutsStore (whole_of asked.left.applied) (Err fault) opened after
StoreFails asked StoreHead fault before after =
    (cut : Linked) × IsCut asked before cut × (whole_of asked.left.applied ≡ 0) × Stores (head_of asked.content) (Err fault) cut after
