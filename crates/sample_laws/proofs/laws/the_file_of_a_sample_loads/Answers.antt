-- The records load one after the other, and give one entry each.
use Rattle.sample_laws.proofs.laws.PlaceLemmas.{length-sample_entries}
use Rattle.sample_laws.proofs.laws.LoadLemmas.{loads-sample_file}
use Rattle.sample_laws.proofs.laws.the_file_of_a_sample_loads.Goals as goal

pub returns : goal.returns
returns c = record { exact = loads-sample_file; counted = length-sample_entries }
