use Rattle.ldif_records.proofs.Theorems.{AreInTable-with_value}
use Rattle.ldif_records.proofs.laws.types_stay_in_the_table.Goals as goal

pub returns : goal.returns
returns c = record { with_value = AreInTable-with_value }
