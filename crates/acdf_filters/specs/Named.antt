-- The key of a requester's name, where it was made.
use Rattle.std.specs.Prelude.{◌≡◌, Option, Some, None}
use Rattle.dir_tree.specs.dn_names.name.Names.{Keyed, RdnSequence}
use Rattle.dir_tree.specs.dn_names.Printing.{name_key}

-- what was made, if anything, is a value with the key of the name
abbrev pub IsKeyOf : RdnSequence → Option Keyed → Type 0
IsKeyOf name None = Unit {0}
IsKeyOf name (Some value) = value.key ≡ name_key name
