use Rattle.ber_elements.proofs.Theorems.{header_spells, written_header}
use Rattle.ber_elements.proofs.laws.headers_read_again.Goals as goal

pub returns : goal.returns
returns c tag len rest is_tag below = record { spells = header_spells tag len is_tag below; again = written_header tag len rest is_tag below }
