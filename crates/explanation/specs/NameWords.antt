-- The words that say who asks, and on which entry: names in the spelling of RFC 4514.
use Rattle.std.specs.Prelude.{ℕ, ◌==◌, List, length, Option, Some, None, option_map, option_and_then, codes, if◌then◌else◌}
use Rattle.std.specs.Result.{result_ok}
use Rattle.std.specs.Str.{bytes_eq}
use Rattle.dir_tree.specs.dn_names.name.Names.{RdnSequence}
use Rattle.dir_tree.specs.dn_names.parsing.NameText.{read_name}
use Rattle.acdf_filters.specs.aci_item.declared.level.Level.TheVariants.{Anyone, Simple}
use Rattle.acdf_filters.specs.declared.asking.Requester.{Requester}

-- the name that a text is
abbrev pub name_in : List ℕ → Option RdnSequence
name_in text = result_ok (read_name text)

-- nobody's name, and the level `none`
abbrev pub anonymous : Requester
anonymous = record { name = None; level = Anyone }

-- a name and the level `simple`: the empty name is that of an anonymous requester (RFC 4513, 5.1.1)
abbrev pub requester : RdnSequence → Requester
requester name = if length name == 0 then anonymous else record { name = Some name; level = Simple }

-- `anonymous`, or a name
unfoldable pub who_of : List ℕ → Option Requester
who_of word = if bytes_eq word (codes "anonymous") then Some anonymous else option_map requester (name_in word)

-- a name that isn't empty
abbrev pub named : RdnSequence → Option RdnSequence
named name = if length name == 0 then None else Some name

-- the name of an entry
unfoldable pub target_of : List ℕ → Option RdnSequence
target_of word = option_and_then named (name_in word)
