-- Where a page begins: behind the name that its cookie is (RFC 2696 leaves to a server what a cookie says; here it is the
-- printed name of the last entry that was sent).
use Rattle.std.specs.Prelude.{ℕ, Bool, List, [], ◌∷◌, Option, Some, None, Result, Ok, Err}
use Rattle.dir_tree.specs.dn_names.name.Names.{RdnSequence}
use Rattle.dir_tree.specs.dn_names.declared.error.BadName.{BadName}
use Rattle.dir_tree.specs.dn_names.parsing.NameText.{read_name}
use Rattle.dir_tree.specs.tree.Trees.{is_before}
use Rattle.read_model.specs.Views.{Row}

-- a name that was read, if it isn't the empty one
abbrev pub filled_name : Result RdnSequence BadName → Option RdnSequence
filled_name (Err bad) = None
filled_name (Ok []) = None
filled_name (Ok (rdn ∷ rdns)) = Some (rdn ∷ rdns)

-- the name behind which a page begins, if the cookie says one: the empty cookie says the empty name, which comes before
-- that of each entry
abbrev pub start_of : List ℕ → Option RdnSequence
start_of [] = Some []
start_of (octet ∷ octets) = filled_name (read_name (octet ∷ octets))

-- the entry comes after the name
abbrev pub is_after : RdnSequence → Row → Bool
is_after after row = is_before after row.entry.name
