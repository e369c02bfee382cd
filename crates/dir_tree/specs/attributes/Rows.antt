-- Attributes as the program holds them: the entries of a map.
use Rattle.std.specs.Prelude.{List, map}
use Rattle.schema_tables.specs.declared.kinds.AttrId.{AttrId}
use Rattle.dn_names.specs.name.Names.{Keyed}
use Rattle.dir_tree.specs.Entry.{Attribute}

-- an attribute of an entry of the map
abbrev pub attribute_of : AttrId × List Keyed → Attribute
attribute_of row = record { kind = row.0.0; values = row.1 }

-- the attributes of the map's entries
abbrev pub attributes_of : List (AttrId × List Keyed) → List Attribute
attributes_of rows = map attribute_of rows
