-- The word that says which permission is asked for (X.501 18.2.3 and 18.2.4).
use Rattle.std.specs.Prelude.{ℕ, List, [], ◌∷◌, Option, find}
use Rattle.std.specs.Str.{bytes_eq}
use Rattle.acdf_filters.specs.aci_item.declared.permission.Permission.{Permission}
use Rattle.acdf_filters.specs.aci_item.declared.permission.Permission.TheVariants.{Add, DiscloseOnError, Read, Remove, Browse, Export, Import, Modify, Rename, ReturnDn, Compare, FilterMatch}
use Rattle.acdf_filters.specs.aci_item.ItemPrinted.{permission_name}

-- the permissions that operations ask for: none asks for Invoke
abbrev pub asked_permissions : List Permission
asked_permissions =
    Add ∷ DiscloseOnError ∷ Read ∷ Remove ∷ Browse ∷ Export ∷ Import ∷ Modify ∷ Rename ∷ ReturnDn ∷ Compare ∷ FilterMatch ∷ []

-- the one of this name
abbrev pub permission_of : List ℕ → Option Permission
permission_of word = find (λ permission. bytes_eq word (permission_name permission)) asked_permissions
