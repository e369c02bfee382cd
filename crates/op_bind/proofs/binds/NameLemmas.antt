-- The name that an empty text gives.
use Rattle.std.proofs.Common.{◌≡◌, [], refl, sym, ap, ◌∙◌, arith}
use Rattle.std.specs.Prelude.{Ok}
use Rattle.dir_tree.specs.dn_names.Printing.{print_name, print_by}
use Rattle.dir_tree.specs.dn_names.parsing.NameText.{read_name}
use Rattle.dir_tree.proofs.dn_names_proofs.Theorems.{read_name-print_name}

-- the empty name is printed as nothing
print-root : print_name [] ≡ []
unfolding print_name print_by
print-root = refl

-- and read so
pub read-nothing : read_name [] ≡ Ok []
read-nothing = ap read_name (sym print-root) ∙ read_name-print_name [] (record { fits = omega arith; good = tt })
