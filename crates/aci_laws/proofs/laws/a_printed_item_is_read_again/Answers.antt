-- What is read is good, and what is good is printed as it is read.
use Rattle.aci_laws.proofs.laws.RoundTrip.{AciText-print_item, IsGoodItem-from_AciText, read_item-print_item}
use Rattle.aci_laws.proofs.laws.a_printed_item_is_read_again.Goals as goal

pub returns : goal.returns
returns c = record { good = IsGoodItem-from_AciText; printed = AciText-print_item; exact = read_item-print_item }
