use Rattle.ldif_load.proofs.laws.FileLemmas.{puts_its_entry_in}
use Rattle.ldif_load.proofs.laws.loading_puts_an_entry_in.Goals as goal

pub returns : goal.returns
returns c = record { exact = puts_its_entry_in }
