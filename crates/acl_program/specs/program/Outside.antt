-- What the program stands in, as far as it is told: a shelf of files, a sink for what is printed and a link to connections,
-- each with its count of faults; a link also counts those of its store, the connections that it found lost and the calls that
-- it refused for want of memory.
use Rattle.std.specs.Prelude.{◌≡◌, ℕ, List, Option}
use Rattle.command_files.specs.plain_values.Counts.{Rose}
use Rattle.command_files.specs.wire_io.declared.journal.Item.{Item}
use Rattle.command_files.specs.wire_io.Files.{Files}
use Rattle.command_files.specs.wire_io.link.Plan.{Plan}
use Rattle.command_files.specs.Outside.{Shelved, Written, shelved}

-- what a link did, and what it still has to give
pub record Linked : Type 0 where
  pub journal : Option (List Item)
  pub plan : Option Plan
  pub faults : ℕ
  pub store_faults : ℕ
  pub lost : ℕ
  pub refusals : ℕ

-- all three
pub record Outside : Type 0 where
  pub shelf : Shelved
  pub out : Written
  pub link : Linked

-- a link, by what it did, what it has to give, and its counts
abbrev pub linked : Option (List Item) → Option Plan → ℕ → ℕ → ℕ → ℕ → Linked
linked journal plan faults store_faults lost refusals =
    record { journal = journal; plan = plan; faults = faults; store_faults = store_faults; lost = lost; refusals = refusals }

-- neither the link nor its store failed, by their counts
abbrev pub NoneFailed : Linked → Linked → Type 0
NoneFailed before after = (after.faults ≡ before.faults) × (after.store_faults ≡ before.store_faults)

-- the link failed, and its store didn't
abbrev pub LinkFailed : Linked → Linked → Type 0
LinkFailed before after = Rose before.faults after.faults × (after.store_faults ≡ before.store_faults)

-- its store failed, and the link else didn't
abbrev pub StoreFailed : Linked → Linked → Type 0
StoreFailed before after = Rose before.store_faults after.store_faults × (after.faults ≡ before.faults)

-- a sink and a link beside a shelf
abbrev pub beside : Shelved → Written → Linked → Outside
beside shelf out link = record { shelf = shelf; out = out; link = link }

-- the same while its shelf had counted so many faults
abbrev pub at_count : ℕ → Outside → Outside
at_count count outside = beside (shelved outside.shelf.files count) outside.out outside.link

-- the same with these files on its shelf
abbrev pub with_files : Option Files → Outside → Outside
with_files files outside = beside (shelved files outside.shelf.faults) outside.out outside.link

-- the same while its link was this one
abbrev pub at_link : Linked → Outside → Outside
at_link link outside = beside outside.shelf outside.out link
