use Rattle.ldif_records.proofs.laws.RereadLemmas.{decoded-exact}
use Rattle.ldif_records.proofs.laws.base64_is_padded_and_leaves_no_bits.Goals as goal

pub returns : goal.returns
returns c = record { exact = decoded-exact }
