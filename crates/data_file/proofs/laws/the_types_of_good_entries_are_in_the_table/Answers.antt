-- Classes permit types of the table alone.
use Rattle.data_file.proofs.laws.TypeLemmas.{types_in_table}
use Rattle.data_file.proofs.laws.the_types_of_good_entries_are_in_the_table.Goals as goal

pub returns : goal.returns
returns c = record { exact = types_in_table }
