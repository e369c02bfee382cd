-- What sessions are over in this server: the entries of the directory, and who asks of them.
use Rattle.std.specs.Prelude.{List, None}
use Rattle.dir_tree.specs.Entry.{EntryInformation}
use Rattle.op_read.specs.aci_item.declared.level.Level.TheVariants.{Anyone}
pub use Rattle.op_read.specs.acdf_filters.declared.asking.Requester.{Requester}

-- the entries of a directory, in the order of their names and without the numbers by which its tree knows them
abbrev pub DirectoryEntries : Type 0
DirectoryEntries = List EntryInformation

-- a requester of whom nothing is known
abbrev pub nobody : Requester
nobody = record { name = None; level = Anyone }
