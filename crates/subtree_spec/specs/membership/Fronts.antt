-- A name at the front of another, RDN by RDN.
use Rattle.std.specs.Prelude.{Bool, true, false, ◌&&◌, [], ◌∷◌}
use Rattle.std.specs.Ordering.{is_eq}
use Rattle.dn_names.specs.name.Names.{RdnSequence}
use Rattle.dn_names.specs.NameOrder.{rdn_cmp}

-- the name begins with the front
abbrev pub begins : RdnSequence → RdnSequence → Bool
begins [] name = true
begins (rdn ∷ front) [] = false
begins (rdn ∷ front) (first ∷ name) = is_eq (rdn_cmp first rdn) && begins front name
