-- The empty text is that of the name of no RDN.
use Rattle.std.proofs.Common.{◌≡◌, [], refl, ap, sym, ◌∙◌, arith}
use Rattle.std.specs.Prelude.{Ok}
use Rattle.dn_names.specs.name.Names.{RdnSequence}
use Rattle.dn_names.specs.Printing.{print_name, print_by}
use Rattle.dn_names.specs.parsing.NameText.{read_name}
use Rattle.dn_names.proofs.Theorems.{read_name-print_name}

no_octets : print_name [] ≡ []
unfolding print_name print_by
no_octets = refl

pub read_name-empty : read_name [] ≡ Ok []
read_name-empty = ap read_name (sym no_octets) ∙ read_name-print_name [] (record { fits = omega arith; good = tt })

-- what the empty text is read as
pub empty_name : (name : RdnSequence) → read_name [] ≡ Ok name → name ≡ []
empty_name name h = let known = read_name-empty in cc
