-- By the theorems.
use Rattle.dn_names.proofs.Theorems.{IsGoodName-from_NameText, IsGoodName-from_RdnText, NameText-print_name, read_name-print_name}
use Rattle.dn_names.proofs.laws.a_printed_name_is_read_again.Goals as goal

pub returns : goal.returns
returns c = record {
  good = IsGoodName-from_NameText;
  rdn = IsGoodName-from_RdnText;
  printed = NameText-print_name;
  exact = read_name-print_name;
}
